-- A line with a number, as its key and its end were found.
use Prim.Native.Nat.{ℕ}
use mathlib.Core.Path.{◌≡◌, refl, sym, ap, ◌∙◌}
use mathlib.Core.Bool.{Bool, true, false, ◌&&◌, and-false}
use mathlib.Core.List.{List}
use Rattle.std.specs.declared.ops.RangeInclusive.{RangeInclusive}
use Rattle.std.specs.Range.{range_inclusive_start, range_inclusive_end, range_inclusive_exhausted, range_inclusive_contains}
use Rattle.std.specs.Ordering.{nat_cmp}
use Rattle.std.proofs.lemmas.Bool.Decides.{nat_tests}
use native.Mathlib.Omega.{arith}
use lib.Dec.{leb}
use Rattle.std.specs.Prelude.{Option, Some, None, Ok, Err}
use Rattle.text.specs.Fields.{is_stop, ends_by}
use Rattle.text.specs.Steps.{after_key, field_read}
use Rattle.text.specs.Numbers.{number_of}
use Rattle.text.specs.declared.Field.{Field}
use Rattle.text.proofs.FieldLaws.{key_found, key_missed, field_ends, field_next, field_says, field_missed}
use Rattle.refusals.specs.declared.Refusal.TheVariants.{WrongLine, WrongNumber, OutOfRange}
use Rattle.lines.specs.Lines.{keyed, in_range, number_line}

-- both bytes that end a field are stops of it
pub line_line : is_stop 10 10 ≡ true
unfolding is_stop
line_line = refl

pub space_space : is_stop 32 32 ≡ true
unfolding is_stop
space_space = refl

pub space_line : is_stop 32 10 ≡ true
unfolding is_stop
space_line = refl

-- what `contains` of a range from low to high tells
pub ranged_test : (s : RangeInclusive ℕ) (low high x : ℕ) (r : Bool) → range_inclusive_start s ≡ low → range_inclusive_end s ≡ high → range_inclusive_exhausted s ≡ false → r ≡ range_inclusive_contains (λ x y. Some (nat_cmp x y)) s x → r ≡ (leb low x && leb x high)
ranged_test s low high x r a b e q = q ∙ rw (a, b, e) (grind (arith, nat_tests))

-- whether a line is keyed, as its key and its end were found
module _ (key s : List ℕ) (at : ℕ) (o : Option ℕ) (q : o ≡ after_key key s at) where
  pub no_key : o ≡ None → keyed key s at ≡ false
  unfolding keyed
  no_key z = rw (key_missed key s at o q z)

  module _ (from : ℕ) (e : o ≡ Some from) where
    pub no_end : ends_by 10 10 s from ≡ false → keyed key s at ≡ false
    unfolding keyed
    no_end z = rw (← (key_found key s at o q from e).1, z, and-false)

    pub key_and_end : ends_by 10 10 s from ≡ true → keyed key s at ≡ true
    unfolding keyed
    key_and_end z = rw ((key_found key s at o q from e).0, ← (key_found key s at o q from e).1, z)

module _ (key : List ℕ) (low high : ℕ) (s : List ℕ) (at : ℕ) (o : Option ℕ) (q : o ≡ after_key key s at) where
  pub number_key : o ≡ None → Err WrongLine ≡ number_line key low high s at
  unfolding number_line
  number_key z = rw (no_key key s at o q z)

  module _ (from : ℕ) (e : o ≡ Some from) (m : Option Field) (r : m ≡ field_read number_of 10 10 s from) where
    pub number_end : m ≡ None → Err WrongLine ≡ number_line key low high s at
    unfolding number_line
    number_end z = rw (no_end key s at o q from e (field_missed number_of 10 10 s from m r z))

    -- what its number is asked
    module _ (f : Field) (d : m ≡ Some f) where
      pub number_is : in_range low high f.next f.value ≡ number_line key low high s at
      unfolding number_line
      number_is =
          rw (field_says number_of 10 10 s from m r f d, field_next number_of 10 10 s from m r f d, key_and_end key s at o q from e (field_ends number_of 10 10 s from m r f d), (key_found key s at o q from e).1)

      pub number_large : f.value ≡ None → Err WrongNumber ≡ number_line key low high s at
      number_large z = ap (λ (v : Option ℕ). in_range low high f.next v) (sym z) ∙ number_is

      module _ (v : ℕ) (z : f.value ≡ Some v) (b : Bool) (t : b ≡ (leb low v && leb v high)) where
        ranged : in_range low high f.next (Some v) ≡ number_line key low high s at
        ranged = ap (λ (v : Option ℕ). in_range low high f.next v) (sym z) ∙ number_is

        pub number_outside : b ≡ false → Err OutOfRange ≡ number_line key low high s at
        number_outside e = rw (← ranged, ← t, e)

        pub number_value : b ≡ true → Ok (record { value = v; next = f.next }) ≡ number_line key low high s at
        number_value e = rw (← ranged, ← t, e)
