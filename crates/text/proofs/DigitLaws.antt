-- What the digits that `number` reads at a place tell of the field there: where it ends, and what it spells. Reading stops early where a number is too
-- large or a zero leads, and then the field spells none. The inductions are on the bytes.
use Prim.Native.Nat.{ℕ, ◌+◌, ◌*◌, ◌≤◌, ◌<◌, ◌-◌}
use mathlib.Core.Path.{◌≡◌, refl}
use mathlib.Core.Bool.{Bool, true, false, cond, ◌&&◌, and-eq-true_iff}
use mathlib.Core.List.{List, [], ◌∷◌}
use native.Mathlib.Omega.{arith}
use lib.Dec.{eqb, leb}
use borrow.Author.Tests.{leb-true, leb-false, lt-leb, eqb-true, ne_eqb}
use Rattle.std.specs.Prelude.{Option, None}
use Rattle.text.specs.Fields.{is_stop, field_length, field_of}
use Rattle.text.specs.Steps.{goes_on, more_value, more_count, first_value, first_count}
use Rattle.text.specs.Numbers.{is_digit, all_digits, is_empty, zero_first, decimal, bounded, number_of}
use Rattle.text.proofs.FieldReads.{Reads, reads_all, reads_none, reads_more}

-- a byte is a digit, or ends the field, or neither
data Byte (sep b : ℕ) : Type 0 where
  digit : is_digit b ≡ true → is_stop sep b ≡ false → Byte sep b
  stops : is_digit b ≡ false → is_stop sep b ≡ true → Byte sep b
  other : is_digit b ≡ false → is_stop sep b ≡ false → Byte sep b

-- no byte from 48 on ends a field
goes : (sep b : ℕ) → sep ≤ 32 → 48 ≤ b → is_stop sep b ≡ false
unfolding is_stop
goes sep b small h = rw (ne_eqb b sep (λ z. omega arith), ne_eqb b 10 (λ z. omega arith))

byte : (sep b : ℕ) → sep ≤ 32 → Byte sep b
unfolding is_digit
byte sep b small = go (is_digit b) (is_stop sep b) refl refl
  where
    go : (d s : Bool) → is_digit b ≡ d → is_stop sep b ≡ s → Byte sep b
    go true s p q = digit p (goes sep b small (leb-true 48 b ((and-eq-true_iff (leb 48 b) (leb b 57)).0 p).0))
    go false true p q = stops p q
    go false false p q = other p q

-- what these bytes spell after digits that spell v
spelt : ℕ → List ℕ → Option ℕ
spelt v t = cond (all_digits t) (bounded (decimal v t)) None

-- v is too large already
spelt_large : (v : ℕ) (t : List ℕ) → 4294967295 < v → spelt v t ≡ None
unfolding spelt all_digits decimal bounded
spelt_large v [] h = rw (lt-leb v 4294967295 h)
spelt_large v (b ∷ t) h = go (is_digit b) (spelt_large (v * 10 + (b - 48)) t (omega arith))
  where
    go : (d : Bool) → spelt (v * 10 + (b - 48)) t ≡ None → cond (d && all_digits t) (bounded (decimal (v * 10 + (b - 48)) t)) None ≡ None
    go true ih = ih
    go false ih = refl

-- the first byte is no zero
starts : (b : ℕ) (t : List ℕ) → eqb b 48 ≡ false → number_of (b ∷ t) ≡ cond (is_digit b) (spelt (b - 48) t) None
unfolding number_of spelt is_empty zero_first all_digits decimal
starts b t z = let e : 0 * 10 + (b - 48) ≡ b - 48 = omega arith in rw (e, not_zero t) (go (is_digit b))
  where
    not_zero : (t : List ℕ) → zero_first (b ∷ t) ≡ false
    not_zero [] = refl
    not_zero (c ∷ t) = z

    go : (d : Bool) → cond (d && all_digits t) (bounded (decimal (b - 48) t)) None ≡ cond d (spelt (b - 48) t) None
    go true = refl
    go false = refl

module _ (sep : ℕ) (small : sep ≤ 32) where
  -- the digits after some that spell v
  more : (v : ℕ) (t : List ℕ) → Reads None sep t (more_count v t) (bounded (more_value v t)) (spelt v (field_of sep t))
  unfolding more_count more_value goes_on spelt field_of field_length all_digits decimal
  more v [] = reads_all refl
  more v (b ∷ t) = go (byte sep b small) (leb v 429496729) refl (more next t)
    where
      next : ℕ
      next = v * 10 + (b - 48)

      go : Byte sep b
          → (m : Bool)
          → leb v 429496729 ≡ m
          → Reads None sep t (more_count next t) (bounded (more_value next t)) (spelt next (field_of sep t))
          → Reads None sep (b ∷ t) (more_count v (b ∷ t)) (bounded (more_value v (b ∷ t))) (spelt v (field_of sep (b ∷ t)))
      go (digit d s) true e ih = rw (s, d, e) (reads_more s ih)
      go (digit d s) false e ih = rw (s, d, e, spelt_large next (field_of sep t) (omega (arith, leb-false v 429496729 e))) (reads_none s)
      go (stops d s) m e ih = rw (s, d) (reads_all (rw s))
      go (other d s) m e ih = rw (s, d) (reads_none s)

  -- no byte is read after a first zero
  zero_more : (t : List ℕ) → Reads None sep t 0 (bounded 0) (number_of (48 ∷ field_of sep t))
  unfolding number_of is_empty zero_first all_digits is_digit decimal field_of field_length
  zero_more [] = reads_all refl
  zero_more (b ∷ t) = go (is_stop sep b) refl
    where
      go : (s : Bool) → is_stop sep b ≡ s → Reads None sep (b ∷ t) 0 (bounded 0) (number_of (48 ∷ field_of sep (b ∷ t)))
      go true s = rw s (reads_all (rw s))
      go false s = rw s (reads_none s)

  -- the digits from the first byte on
  pub first : (t : List ℕ) → Reads None sep t (first_count t) (first_value t) (number_of (field_of sep t))
  unfolding first_count first_value number_of is_empty field_of field_length bounded
  first [] = reads_all refl
  first (b ∷ t) = go (byte sep b small) (eqb b 48) refl
    where
      go : Byte sep b → (z : Bool) → eqb b 48 ≡ z → Reads None sep (b ∷ t) (first_count (b ∷ t)) (first_value (b ∷ t)) (number_of (field_of sep (b ∷ t)))
      go x true z = let s = goes sep 48 small (omega arith) in rw (eqb-true b 48 z, s) (reads_more s (zero_more t))
      go (digit d s) false z = rw (s, starts b (field_of sep t) z, z, d) (reads_more s (more (b - 48) t))
      go (stops d s) false z = rw (s, z, d) (reads_all (rw s))
      go (other d s) false z = rw (s, starts b (field_of sep t) z, z, d) (reads_none s)
