-- A line with a row, field by field: a law for each place where the code returns. A field starts where the one before it was found to end, which is
-- what the definition says of it.
use Prim.Native.Nat.{ℕ}
use mathlib.Core.Path.{◌≡◌, sym, ap, ◌∙◌}
use mathlib.Core.Bool.{true}
use mathlib.Core.List.{List}
use Rattle.std.specs.Prelude.{Option, Some, None, Err}
use Rattle.kinds.specs.Kinds.{bytes}
use Rattle.kinds.specs.Words.{kind_of}
use Rattle.text.specs.Fields.{ends_by, after}
use Rattle.text.specs.Steps.{after_key, field_read}
use Rattle.text.specs.Numbers.{number_of}
use Rattle.text.specs.declared.Field.{Field}
use Rattle.text.proofs.FieldLaws.{key_found, key_missed, field_ends, field_next, field_says, field_missed}
use Rattle.refusals.specs.declared.Refusal.TheVariants.{WrongLine}
use Rattle.lines.specs.declared.Parts.{Parts}
use Rattle.lines.specs.Lines.{five_fields, row_from, row_fields, row_line}
use Rattle.lines.specs.Steps.{parts_row, split_row}

-- five fields, each from where the one before it ends
module _ (s : List ℕ) (a : ℕ) (o : Option Field) (p : o ≡ field_read kind_of 32 32 s a) where
  pub uneven_word : o ≡ None → split_row None ≡ row_fields s a
  unfolding split_row row_fields row_from five_fields
  uneven_word z = rw (field_missed kind_of 32 32 s a o p z)

  module _ (k : Field) (ok : o ≡ Some k) (u : Option Field) (pu : u ≡ field_read number_of 32 32 s k.next) where
    k_ends : ends_by 32 32 s a ≡ true
    k_ends = field_ends kind_of 32 32 s a o p k ok

    k_next : k.next ≡ after 32 s a
    k_next = field_next kind_of 32 32 s a o p k ok

    pub uneven_side : u ≡ None → split_row None ≡ row_fields s a
    unfolding split_row row_fields row_from five_fields
    uneven_side z = rw (k_ends, ← k_next, field_missed number_of 32 32 s k.next u pu z)

    module _ (b : Field) (ub : u ≡ Some b) (v : Option Field) (pv : v ≡ field_read number_of 32 32 s b.next) where
      b_ends : ends_by 32 32 s k.next ≡ true
      b_ends = field_ends number_of 32 32 s k.next u pu b ub

      b_next : b.next ≡ after 32 s k.next
      b_next = field_next number_of 32 32 s k.next u pu b ub

      pub uneven_lo : v ≡ None → split_row None ≡ row_fields s a
      unfolding split_row row_fields row_from five_fields
      uneven_lo z = rw (k_ends, ← k_next, b_ends, ← b_next, field_missed number_of 32 32 s b.next v pv z)

      module _ (c : Field) (vc : v ≡ Some c) (w : Option Field) (pw : w ≡ field_read number_of 32 32 s c.next) where
        c_ends : ends_by 32 32 s b.next ≡ true
        c_ends = field_ends number_of 32 32 s b.next v pv c vc

        c_next : c.next ≡ after 32 s b.next
        c_next = field_next number_of 32 32 s b.next v pv c vc

        pub uneven_hi : w ≡ None → split_row None ≡ row_fields s a
        unfolding split_row row_fields row_from five_fields
        uneven_hi z = rw (k_ends, ← k_next, b_ends, ← b_next, c_ends, ← c_next, field_missed number_of 32 32 s c.next w pw z)

        module _ (d : Field) (wd : w ≡ Some d) (x : Option Field) (px : x ≡ field_read number_of 32 10 s d.next) where
          d_ends : ends_by 32 32 s c.next ≡ true
          d_ends = field_ends number_of 32 32 s c.next w pw d wd

          d_next : d.next ≡ after 32 s c.next
          d_next = field_next number_of 32 32 s c.next w pw d wd

          pub uneven_end : x ≡ None → split_row None ≡ row_fields s a
          unfolding split_row row_fields row_from five_fields
          uneven_end z = rw (k_ends, ← k_next, b_ends, ← b_next, c_ends, ← c_next, d_ends, ← d_next, field_missed number_of 32 10 s d.next x px z)

          pub five : (e : Field) → x ≡ Some e → split_row (Some (record { kind = k.value; side = b.value; lo = c.value; hi = d.value; end = e.value; next = e.next })) ≡ row_fields s a
          unfolding split_row parts_row row_fields row_from five_fields
          five e xe =
              rw
              (field_says kind_of 32 32 s a o p k ok, field_says number_of 32 32 s k.next u pu b ub, field_says number_of 32 32 s b.next v pv c vc, field_says number_of 32 32 s c.next w pw d wd, field_says number_of 32 10 s d.next x px e xe, field_next number_of 32 10 s d.next x px e xe, k_ends, ← k_next, b_ends, ← b_next, c_ends, ← c_next, d_ends, ← d_next, field_ends number_of 32 10 s d.next x px e xe)

-- the line, as its key and its fields were found
module _ (s : List ℕ) (at : ℕ) (o : Option ℕ) (q : o ≡ after_key (bytes "row=") s at) where
  pub row_key : o ≡ None → Err WrongLine ≡ row_line s at
  unfolding row_line
  row_key z = rw (key_missed (bytes "row=") s at o q z)

  module _ (from : ℕ) (e : o ≡ Some from) (r : Option Parts) (p : split_row r ≡ row_fields s from) where
    there : split_row r ≡ row_line s at
    unfolding row_line
    there = let k = key_found (bytes "row=") s at o q from e in p ∙ rw (k.0, k.1)

    pub row_uneven : r ≡ None → Err WrongLine ≡ row_line s at
    unfolding split_row
    row_uneven u = ap split_row (sym u) ∙ there

    pub row_five : (f : Parts) → r ≡ Some f → parts_row f ≡ row_line s at
    unfolding split_row
    row_five f u = ap split_row (sym u) ∙ there
