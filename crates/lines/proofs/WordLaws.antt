-- What the small letters that `kind_field` reads at a place tell of the field there: they are all of it where a space follows, and else it is no
-- kind's word. The inductions are on the bytes.
use Prim.Native.Nat.{ℕ, zero, suc, ◌+◌}
use mathlib.Core.Path.{◌≡◌, refl, sym, ap, ◌∙◌}
use mathlib.Core.Bool.{Bool, true, false, and-eq-true_iff}
use mathlib.Core.List.{List, [], ◌∷◌}
use native.Mathlib.Nat.{zero-add}
use native.Mathlib.Omega.{arith}
use lib.Dec.{leb}
use lib.ListN.{length, drop}
use borrow.Author.Tests.{leb-true, ne_eqb}
use Rattle.words.specs.Steps.{is_letter, letters_up_to, letters_of}
use Rattle.kinds.specs.Words.{kind_of}
use Rattle.std.specs.Prelude.{None}
use Rattle.words.proofs.Words.{not_whole}
use Rattle.text.specs.Fields.{is_stop, field_length, field_of}
use Rattle.text.proofs.FieldReads.{Reads}

-- a letter ends no field
inside : (b : ℕ) → is_letter b ≡ true → is_stop 32 b ≡ false
unfolding is_letter is_stop
inside b e =
    let h = leb-true 97 b ((and-eq-true_iff (leb 97 b) (leb b 122)).0 e).0 in
    rw (ne_eqb b 32 (λ z. absurd (omega arith)), ne_eqb b 10 (λ z. absurd (omega arith)))

-- so the letters before the first other byte are in the field, which has the same letters before its first other byte
record Front (n : ℕ) (t : List ℕ) : Type 0 where
  within : letters_up_to n t + field_length 32 (drop (letters_up_to n t) t) ≡ field_length 32 t
  same : letters_up_to n (field_of 32 t) ≡ letters_up_to n t

front : (n : ℕ) (t : List ℕ) → Front n t
unfolding letters_up_to field_length field_of
front zero t = record { within = zero-add _; same = refl }
front (suc n) [] = record { within = refl; same = refl }
front (suc n) (b ∷ t) = go (is_letter b) (is_stop 32 b) refl refl (front n t)
  where
    go : (l s : Bool) → is_letter b ≡ l → is_stop 32 b ≡ s → Front n t → Front (suc n) (b ∷ t)
    go true s p q f = record { within = rw (p, inside b p) (omega (arith, f.within)); same = rw (inside b p, p) (ap suc f.same) }
    go false true p q f = record { within = rw (p, q); same = rw (q, p) }
    go false false p q f = record { within = rw (p, q) (zero-add _); same = rw (q, p) }

field_length_lem : (t : List ℕ) → length (field_of 32 t) ≡ field_length 32 t
unfolding field_length field_of
field_length_lem [] = refl
field_length_lem (b ∷ t) = go (is_stop 32 b) refl (field_length_lem t)
  where
    go : (s : Bool) → is_stop 32 b ≡ s → length (field_of 32 t) ≡ field_length 32 t → length (field_of 32 (b ∷ t)) ≡ field_length 32 (b ∷ t)
    go true q e = rw q
    go false q e = rw q (ap suc e)

-- if they are all of the field, it is the word that they spell; if not, it is no kind's word
pub spells : (t : List ℕ) → Reads None 32 t (letters_up_to 12 t) (kind_of (letters_of 12 t)) (kind_of (field_of 32 t))
unfolding field_of
spells t =
    record {
      within = (front 12 t).within;
      whole = λ e. rw (← e);
      part = λ n. sym (not_whole (field_of 32 t) (λ e. n (sym (front 12 t).same ∙ e ∙ field_length_lem t)));
    }
