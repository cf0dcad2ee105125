-- What a caller knows of a key, a field or a line from what a call answers of it. No induction: the definitions are opened once, here.
use Prim.Native.Nat.{ℕ, ◌+◌, ◌-◌, ◌≤◌, ◌<◌}
use mathlib.Core.Path.{◌≡◌, refl, sym, ap, ◌∙◌}
use mathlib.Core.Bool.{Bool, true, false, cond, ◌&&◌, and-eq-true_iff, true≢false}
use mathlib.Core.List.{List}
use native.Mathlib.Nat.{add-sub_cancel_left}
use native.Mathlib.Omega.{arith}
use lib.Dec.{eqb, ltb}
use lib.ListN.{length, take, drop}
use borrow.Author.Tests.{ltb-true, eqb-true, eqb-false}
use Rattle.std.specs.Prelude.{Option, Some, None}
use Rattle.text.specs.Fields.{field_length, field_of, field, stop_at, stands, ends_by, after, starts_with, all_graphic}
use Rattle.text.specs.Steps.{after_key, field_read, graphic_length, graphic_line}
use Rattle.text.specs.declared.Field.{Field}
use Rattle.text.specs.declared.GraphicLine.{GraphicLine}
use Rattle.text.proofs.FieldReads.{whole_stop}
use Rattle.text.proofs.GraphicLaws.{shows}

-- what a choice by a test tells of the test
module _ {A : Type 0} (o : Option A) (b : Bool) (x : A) (q : o ≡ cond b (Some x) None) where
  chosen : (y : A) → o ≡ Some y → (b ≡ true) × (y ≡ x)
  chosen y e = go b (sym q ∙ e)
    where
      go : (b : Bool) → cond b (Some x) None ≡ Some y → (b ≡ true) × (y ≡ x)
      go true p = (refl, cc)
      go false p = absurd (let z : ◌≡◌ {A = ℕ} 0 1 = cc in omega arith)

  not_chosen : o ≡ None → b ≡ false
  not_chosen e = go b (sym q ∙ e)
    where
      go : (b : Bool) → cond b (Some x) None ≡ None → b ≡ false
      go true p = absurd (let z : ◌≡◌ {A = ℕ} 0 1 = cc in omega arith)
      go false p = refl

-- a key that stands at a place, and one that does not
module _ (key s : List ℕ) (at : ℕ) (o : Option ℕ) (q : o ≡ after_key key s at) where
  pub key_found : (from : ℕ) → o ≡ Some from → (starts_with key (drop at s) ≡ true) × (from ≡ at + length key)
  unfolding after_key
  key_found = chosen o (starts_with key (drop at s)) (at + length key) q

  pub key_missed : o ≡ None → starts_with key (drop at s) ≡ false
  unfolding after_key
  key_missed = not_chosen o (starts_with key (drop at s)) (at + length key) q

-- a field that is ended, and one that is not
module _ (says : List ℕ → Option ℕ) (sep end : ℕ) (s : List ℕ) (at : ℕ) (o : Option Field) (q : o ≡ field_read says sep end s at) where
  field_found : (f : Field) → o ≡ Some f → (ends_by sep end s at ≡ true) × (f ≡ record { value = says (field sep s at); next = after sep s at })
  unfolding field_read
  field_found = chosen o (ends_by sep end s at) (record { value = says (field sep s at); next = after sep s at }) q

  module _ (f : Field) (p : o ≡ Some f) where
    pub field_ends : ends_by sep end s at ≡ true
    field_ends = (field_found f p).0

    pub field_next : f.next ≡ after sep s at
    field_next = ap (λ (f : Field). f.next) (field_found f p).1

    pub field_says : f.value ≡ says (field sep s at)
    field_says = ap (λ (f : Field). f.value) (field_found f p).1

  pub field_missed : o ≡ None → ends_by sep end s at ≡ false
  unfolding field_read
  field_missed = not_chosen o (ends_by sep end s at) (record { value = says (field sep s at); next = after sep s at }) q

-- the bytes of a field
pub field_part : (sep : ℕ) (s : List ℕ) (at stop : ℕ) → stop ≡ stop_at sep s at → take (stop - at) (drop at s) ≡ field sep s at
unfolding stop_at field_of
field_part sep s at stop e = rw (e, add-sub_cancel_left)

-- a line
module _ (s : List ℕ) (at : ℕ) (g : GraphicLine) (q : g ≡ graphic_line s at) where
  line_all : g.all ≡ ends_by 10 10 s at && all_graphic (field 10 s at)
  unfolding graphic_line
  line_all = ap (λ (g : GraphicLine). g.all) q

  line_length : g.stop ≡ at + graphic_length (drop at s)
  unfolding graphic_line
  line_length = ap (λ (g : GraphicLine). g.stop) q

  line_after : g.next ≡ cond (ends_by 10 10 s at) (Some (after 10 s at)) None
  unfolding graphic_line
  line_after = ap (λ (g : GraphicLine). g.next) q

  pub line_from : at ≤ g.stop
  line_from = omega (arith, line_length)

  pub line_missed : g.next ≡ None → ends_by 10 10 s at ≡ false
  line_missed = not_chosen g.next (ends_by 10 10 s at) (after 10 s at) line_after

  -- that byte 10 ends
  module _ (next : ℕ) (p : g.next ≡ Some next) where
    line_found : (ends_by 10 10 s at ≡ true) × (next ≡ after 10 s at)
    line_found = chosen g.next (ends_by 10 10 s at) (after 10 s at) line_after next p

    pub line_ends : ends_by 10 10 s at ≡ true
    line_ends = line_found.0

    pub line_next : next ≡ after 10 s at
    line_next = line_found.1

    pub line_told : g.all ≡ all_graphic (field 10 s at)
    line_told = line_all ∙ rw line_ends

  -- that byte 10 ends, and whose text has bytes from 33 to 126 alone
  module _ (t : g.all ≡ true) where
    line_whole : (ends_by 10 10 s at ≡ true) × (all_graphic (field 10 s at) ≡ true)
    line_whole = (and-eq-true_iff _ _).0 (sym line_all ∙ t)

    pub line_text_lem : g.stop ≡ stop_at 10 s at
    line_text_lem = go (eqb (graphic_length (drop at s)) (field_length 10 (drop at s))) refl
      where
        go : (b : Bool) → eqb (graphic_length (drop at s)) (field_length 10 (drop at s)) ≡ b → g.stop ≡ stop_at 10 s at
        go true e = whole_stop false 10 s at _ _ _ (shows (drop at s)) g.stop line_length (eqb-true _ _ e)
        go false e = absurd (true≢false (sym line_whole.1 ∙ (shows (drop at s)).part (eqb-false _ _ e)))

    pub line_within : g.stop ≤ length s
    unfolding ends_by stands
    line_within =
        let h : stop_at 10 s at < length s = ltb-true _ _ ((and-eq-true_iff (ltb (stop_at 10 s at) (length s)) _).0 line_whole.0).0 in
        omega (arith, line_text_lem)
