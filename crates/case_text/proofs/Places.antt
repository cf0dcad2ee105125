-- The place of the first such byte, as std has it: one recursion for both.
use Prim.Native.Nat.{ℕ, suc, ◌+◌, ◌-◌, ◌≤◌}
use mathlib.Core.Path.{◌≡◌, refl, sym, ◌∙◌}
use mathlib.Core.Bool.{Bool, true, false, cond, not}
use mathlib.Core.List.{List, [], ◌∷◌}
use native.Mathlib.Omega.{arith}
use lib.Dec.{eqb, ltb}
use lib.ListN.{length, take, drop, length-drop, drop_of_length-le}
use lib.Seq.{take_all}
use borrow.Author.Tests.{ltb-false}
use Rattle.std.specs.Prelude.{Option, Some, None}
use Rattle.std.specs.List.{position, position_or_len}
use Rattle.case_text.specs.Texts.{first_place}

first_position : (byte : ℕ) (t : List ℕ) → first_place byte t ≡ position_or_len (λ b. eqb b byte) t
unfolding first_place
first_position byte [] = refl
first_position byte (b ∷ t) = go (eqb b byte) (first_position byte t)
  where
    go : (s : Bool) → first_place byte t ≡ position_or_len (λ b. eqb b byte) t → cond s 0 (suc (first_place byte t)) ≡ cond (not s) (1 + position_or_len (λ b. eqb b byte) t) 0
    go true e = refl
    go false e = omega arith

-- a part up to the end of a text
part_whole : (text : List ℕ) (n : ℕ) → take (length text - n) (drop n text) ≡ drop n text
part_whole text n = take_all (length text - n) (drop n text) (omega (arith, length-drop n text))

module _ (byte : ℕ) (t : List ℕ) (r : Option ℕ) (q : r ≡ position (λ b. eqb b byte) t) where
  place_some : (i : ℕ) → r ≡ Some i → first_place byte t ≡ i
  place_some i e = go (ltb (position_or_len (λ b. eqb b byte) t) (length t)) (sym q ∙ e)
    where
      go : (b : Bool) → cond b (Some (position_or_len (λ b. eqb b byte) t)) None ≡ Some i → first_place byte t ≡ i
      go true f = let g : position_or_len (λ b. eqb b byte) t ≡ i = cc in first_position byte t ∙ g
      go false f = absurd (let z : ◌≡◌ {A = ℕ} 0 1 = cc in omega arith)

  place_none : r ≡ None → length t ≤ first_place byte t
  place_none e = go (ltb (position_or_len (λ b. eqb b byte) t) (length t)) refl (sym q ∙ e)
    where
      go : (b : Bool) → ltb (position_or_len (λ b. eqb b byte) t) (length t) ≡ b → cond b (Some (position_or_len (λ b. eqb b byte) t)) None ≡ None → length t ≤ first_place byte t
      go true g f = absurd (let z : ◌≡◌ {A = ℕ} 0 1 = cc in omega arith)
      go false g f = omega (arith, first_position byte t, ltb-false _ _ g)

  -- the two parts
  pub some_before : (i : ℕ) → r ≡ Some i → take i t ≡ take (first_place byte t) t
  some_before i e = rw (place_some i e)

  pub some_after : (i : ℕ) → r ≡ Some i → take (length t - (i + 1)) (drop (i + 1) t) ≡ drop (first_place byte t + 1) t
  some_after i e = part_whole t (i + 1) ∙ rw (place_some i e)

  pub none_before : r ≡ None → t ≡ take (first_place byte t) t
  none_before e = sym (take_all (first_place byte t) t (place_none e))

  pub none_after : r ≡ None → take (length t - length t) (drop (length t) t) ≡ drop (first_place byte t + 1) t
  none_after e =
      let l : length t ≤ length t = omega arith in
      let m : length t ≤ first_place byte t + 1 = omega (arith, place_none e) in
      part_whole t (length t) ∙ drop_of_length-le t l ∙ sym (drop_of_length-le t m)
