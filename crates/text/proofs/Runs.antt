-- How far a number's digits go, byte by byte: the value and the count so far, with what the bytes left add, are those of the whole.
use Prim.Native.Nat.{ℕ, ◌+◌, ◌*◌, ◌≤◌, ◌<◌, ◌-◌}
use mathlib.Core.Path.{◌≡◌, refl, sym, ◌∙◌}
use mathlib.Core.Bool.{Bool, true, false, and-eq-true_iff}
use mathlib.Core.List.{List}
use native.Mathlib.Nat.{add-zero}
use native.Mathlib.Numerals.{add-one}
use native.Mathlib.Omega.{arith}
use lib.Dec.{leb}
use lib.ListN.{length, drop, drop_of_length-le}
use lib.Seq.{drop-cons}
use borrow.Author.Tests.{le-leb, lt-leb, leb-true, eq-eqb, ne_eqb}
use Rattle.std.specs.Prelude.{Option, Some, None, max}
use Rattle.std.specs.Char.{is_ascii_digit}
use Rattle.text.specs.Fields.{byte_at}
use Rattle.text.specs.Numbers.{is_digit, bounded}
use Rattle.text.specs.Steps.{goes_on, more_value, more_count, first_value, first_count}

-- what the reading of digits knows at place i, with the number v
pub record Reading (s : List ℕ) (at first i v : ℕ) : Type 0 where
  pub from : at ≤ i
  pub within : i ≤ max at (length s)
  pub bound : v ≤ 4294967299
  pub number : more_value first (drop at s) ≡ more_value v (drop i s)
  pub stop : at + more_count first (drop at s) ≡ i + more_count v (drop i s)

pub read_start : (s : List ℕ) (at first : ℕ) → first ≤ 9 → Reading s at first at first
read_start s at first h = record { from = omega arith; within = omega arith; bound = omega arith; number = refl; stop = refl }

-- what it tells once it ends
pub record Told (s : List ℕ) (at first i v : ℕ) : Type 0 where
  pub number : v ≡ more_value first (drop at s)
  pub stop : i ≡ at + more_count first (drop at s)

module _ (s : List ℕ) (at first i v : ℕ) (w : Reading s at first i v) where
  pub read_past : length s ≤ i → Told s at first (max at (length s)) v
  unfolding more_value more_count
  read_past h =
      let e : max at (length s) ≡ i = omega (arith, w.from, w.within) in
      record { number = sym (w.number ∙ rw (drop_of_length-le s h)); stop = e ∙ sym (w.stop ∙ rw (drop_of_length-le s h, add-zero)) }

  module _ (h : i < length s) where
    read_stop : goes_on v (byte_at s i) ≡ false → Told s at first i v
    unfolding more_value more_count
    read_stop e = record { number = sym (w.number ∙ rw (drop-cons s i 0 h, e)); stop = sym (w.stop ∙ rw (drop-cons s i 0 h, e, add-zero)) }

    module _ (d : Bool) (q : d ≡ is_ascii_digit (byte_at s i)) where
      pub read_other : d ≡ false → Told s at first i v
      unfolding goes_on is_digit
      read_other e = read_stop (rw (← q, e))

      pub read_enough : d ≡ true → 429496729 < v → Told s at first i v
      unfolding goes_on is_digit
      read_enough e l = read_stop (rw (← q, e, lt-leb v 429496729 l))

      pub read_on : d ≡ true → v ≤ 429496729 → (n : ℕ) → n ≡ byte_at s i - 48 → Reading s at first (i + 1) (v * 10 + n)
      unfolding more_value more_count goes_on is_digit
      read_on e l n p =
          let f = le-leb v 429496729 l in
          let small : byte_at s i ≤ 57 = leb-true _ _ ((and-eq-true_iff (leb 48 (byte_at s i)) (leb (byte_at s i) 57)).0 (sym q ∙ e)).1 in
          record {
            from = omega (arith, w.from);
            within = omega arith;
            bound = omega arith;
            number = w.number ∙ rw (p, drop-cons s i 0 h, ← q, e, f, add-one);
            stop = w.stop ∙ rw (p, drop-cons s i 0 h, ← q, e, f, add-one) (omega arith);
          }

-- what the digits from a place on tell
pub record First (s : List ℕ) (at : ℕ) (value : Option ℕ) (stop : ℕ) : Type 0 where
  pub value_is : value ≡ first_value (drop at s)
  pub stop_is : stop ≡ at + first_count (drop at s)

pub first_past : (s : List ℕ) (at : ℕ) → length s ≤ at → First s at None at
unfolding first_value first_count
first_past s at h = record { value_is = rw (drop_of_length-le s h); stop_is = rw (drop_of_length-le s h, add-zero) }

module _ (s : List ℕ) (at : ℕ) (h : at < length s) where
  pub zero_value : byte_at s at ≡ 48 → first_value (drop at s) ≡ Some 0
  unfolding first_value
  zero_value e = let z = eq-eqb (byte_at s at) 48 e in rw (drop-cons s at 0 h, z)

  pub zero_count : byte_at s at ≡ 48 → first_count (drop at s) ≡ 1
  unfolding first_count
  zero_count e = let z = eq-eqb (byte_at s at) 48 e in rw (drop-cons s at 0 h, z)

  module _ (n : byte_at s at ≡ 48 → ⊥) (d : Bool) (q : d ≡ is_ascii_digit (byte_at s at)) where
    pub first_other : d ≡ false → First s at None at
    unfolding first_value first_count is_digit
    first_other e =
        let z = ne_eqb (byte_at s at) 48 n in
        record { value_is = rw (drop-cons s at 0 h, z, ← q, e); stop_is = rw (drop-cons s at 0 h, z, ← q, e, add-zero) }

    pub first_more : d ≡ true → (m : ℕ) → m ≡ byte_at s at - 48 → First s at (bounded (more_value m (drop (at + 1) s))) (at + 1 + more_count m (drop (at + 1) s))
    unfolding first_value first_count is_digit
    first_more e m p =
        let z = ne_eqb (byte_at s at) 48 n in
        record { value_is = rw (drop-cons s at 0 h, z, ← q, e, p, add-one); stop_is = rw (drop-cons s at 0 h, z, ← q, e, p, add-one) (omega arith) }
