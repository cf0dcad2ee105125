-- How far a field and a name go: to the first byte that ends it.
use Prim.Native.Nat.{ℕ, suc, ◌+◌, ◌^◌, ◌<◌}
use mathlib.Core.Path.{◌≡◌, refl, sym, ap, ◌∙◌}
use mathlib.Core.Bool.{Bool, true, false, cond, not}
use mathlib.Core.List.{List, [], ◌∷◌}
use native.Mathlib.Omega.{arith}
use lib.Dec.{ltb}
use lib.ListN.{length, drop, length-drop}
use Rattle.std.specs.Prelude.{Some, None, unwrap_or}
use Rattle.std.specs.List.{position, position_or_len}
use Rattle.std.proofs.lemmas.List.Sums.{prefix_len-le-length}
use borrow.Author.Tests.{ltb-false}
use mir.Val.{Fits}
use mir.Syntax.{w64}
use Rattle.text.specs.Fields.{is_stop, field_length, stop_at, is_graphic}
use Rattle.text.specs.Steps.{graphic_length}

pub field_position : (sep : ℕ) (t : List ℕ) → field_length sep t ≡ position_or_len (is_stop sep) t
unfolding field_length
field_position sep [] = refl
field_position sep (b ∷ t) = go (is_stop sep b) (field_position sep t)
  where
    go : (s : Bool) → field_length sep t ≡ position_or_len (is_stop sep) t → cond s 0 (suc (field_length sep t)) ≡ cond (not s) (1 + position_or_len (is_stop sep) t) 0
    go true e = refl
    go false e = omega arith

pub graphic_position : (t : List ℕ) → graphic_length t ≡ position_or_len (λ b. not (is_graphic b)) t
unfolding graphic_length
graphic_position [] = refl
graphic_position (b ∷ t) = go (is_graphic b) (graphic_position t)
  where
    go : (g : Bool) → graphic_length t ≡ position_or_len (λ b. not (is_graphic b)) t → cond g (suc (graphic_length t)) 0 ≡ cond (not (not g)) (1 + position_or_len (λ b. not (is_graphic b)) t) 0
    go true e = omega arith
    go false e = refl

-- the place of the first that passes, or else the length
pub first_or_end : (p : ℕ → Bool) (t : List ℕ) → unwrap_or (position p t) (length t) ≡ position_or_len p t
first_or_end p t = go (ltb (position_or_len p t) (length t)) refl
  where
    go : (b : Bool) → ltb (position_or_len p t) (length t) ≡ b → unwrap_or (cond b (Some (position_or_len p t)) None) (length t) ≡ position_or_len p t
    go true e = refl
    go false e = omega (arith, ltb-false _ _ e, prefix_len-le-length (λ x. not (p x)) t)

-- a place and how far a search from there goes: a place
module _ (s : List ℕ) (at : ℕ) (p : ℕ → Bool) where
  pub place_fits : (n : ℕ) → at < 2 ^ 64 → length s < 2 ^ 64 → n ≡ unwrap_or (position p (drop at s)) (length (drop at s)) → Fits w64 (at + n)
  place_fits n f l e = record { fits = omega (arith, length-drop at s, first_or_end p (drop at s), prefix_len-le-length (λ x. not (p x)) (drop at s)) }

pub stop_found : (sep : ℕ) (s : List ℕ) (at n : ℕ) → n ≡ unwrap_or (position (is_stop sep) (drop at s)) (length (drop at s)) → at + n ≡ stop_at sep s at
unfolding stop_at
stop_found sep s at n e = ap (λ (m : ℕ). at + m) (e ∙ first_or_end (is_stop sep) (drop at s) ∙ sym (field_position sep (drop at s)))

pub graphic_found : (s : List ℕ) (at n : ℕ) → n ≡ unwrap_or (position (λ b. not (is_graphic b)) (drop at s)) (length (drop at s)) → at + n ≡ at + graphic_length (drop at s)
graphic_found s at n e = ap (λ (m : ℕ). at + m) (e ∙ first_or_end (λ b. not (is_graphic b)) (drop at s) ∙ sym (graphic_position (drop at s)))
