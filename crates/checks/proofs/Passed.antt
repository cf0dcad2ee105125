-- A table passes the check of fields, or that of children, exactly where it is so at every row (of ends: Nest), and the whole check exactly where it
-- passes both.
use Prim.Native.Nat.{ℕ, ◌<◌}
use mathlib.Core.Path.{◌≡◌, refl, sym, ◌∙◌}
use mathlib.Core.Bool.{Bool, true, false, cond}
use mathlib.Core.List.{List}
use lib.Dec.{ltb}
use borrow.Author.Tests.{ltb-true, lt-ltb}
use Rattle.table.specs.Rows.{kind_at, side_at}
use Rattle.kinds.specs.Kinds.{S, name_number, entry, is_kind, in_class, side_fits}
use Rattle.kinds.proofs.Below.{both_true}
use Rattle.refusals.specs.declared.Refusal.{Refusal}
use Rattle.refusals.specs.declared.Refusal.TheVariants.{UnknownKind, WrongSide, WrongChildren}
use Rattle.checks.specs.Checks.{Checked}
use Rattle.refusals.specs.Refusals.{refused_at}
use Rattle.checks.specs.Checks.{passed}
use Rattle.checks.specs.Steps.{Held}
use Rattle.checks.specs.Checks.{when_held, first_from, fields_at, fields_of, ends_of, children_fit, children_at, root_at, children_of, checked_rows}
use Rattle.checks.proofs.Rows.{never, both_pass, all_pass, pass_all}
use Rattle.checks.proofs.Room.{holds_true, passed_held, passed_found}
use Rattle.checks.proofs.Nest.{RightEnds, ends_passed, ends_pass}

-- a test that is refused or passes, and passes
test_passed : (b : Bool) (refusal : Refusal) (row : ℕ) → cond b passed (refused_at refusal row) ≡ passed → b ≡ true
test_passed true refusal row e = refl
test_passed false refusal row e = never e

pub record RightFields (rows : List ℕ) (count names : ℕ) : Type 0 where
  pub held : Held rows count
  pub known : (i : ℕ) → i < count → kind_at rows i < 66
  pub sides : (i : ℕ) → i < count → side_fits (entry (kind_at rows i)).sides names (side_at rows i) ≡ true

pub fields_at_lem : (rows : List ℕ) (names i : ℕ) → fields_at rows names i ≡ passed → (kind_at rows i < 66) × (side_fits (entry (kind_at rows i)).sides names (side_at rows i) ≡ true)
unfolding fields_at is_kind
fields_at_lem rows names i e = go (ltb (kind_at rows i) 66) refl e
  where
    go : (b : Bool)
        → ltb (kind_at rows i) 66 ≡ b
        → cond b (cond (side_fits (entry (kind_at rows i)).sides names (side_at rows i)) passed (refused_at WrongSide i)) (refused_at UnknownKind i) ≡ passed
        → (kind_at rows i < 66) × (side_fits (entry (kind_at rows i)).sides names (side_at rows i) ≡ true)
    go true q e = (ltb-true (kind_at rows i) 66 q, test_passed _ WrongSide i e)
    go false q e = never e

pub fields_passed : (rows : List ℕ) (count names : ℕ) (r : Checked) → r ≡ fields_of rows count names → r ≡ passed → RightFields rows count names
fields_passed rows count names r q p =
    let e : fields_of rows count names ≡ passed = sym q ∙ p in
    let right : (i : ℕ) → i < count → (kind_at rows i < 66) × (side_fits (entry (kind_at rows i)).sides names (side_at rows i) ≡ true) =
    λ i h. fields_at_lem rows names i (all_pass (fields_at rows names) count (passed_found rows count _ e) i h) in
    record { held = passed_held rows count _ e; known = λ i h. (right i h).0; sides = λ i h. (right i h).1 }

pub fields_pass : (rows : List ℕ) (count names : ℕ) → RightFields rows count names → fields_of rows count names ≡ passed
unfolding when_held fields_at is_kind
fields_pass rows count names w = rw (holds_true rows count w.held) (pass_all (fields_at rows names) count (λ i h. rw (lt-ltb (kind_at rows i) 66 (w.known i h), w.sides i h)))

-- a segment and a declaration name a listed name
pub named : (rows : List ℕ) (count names i : ℕ) → RightFields rows count names → i < count → (entry (kind_at rows i)).sides ≡ name_number → side_at rows i < names
unfolding side_fits
named rows count names i w h e = ltb-true (side_at rows i) names (rw e at (w.sides i h))

pub record RightChildren (rows : List ℕ) (count : ℕ) : Type 0 where
  pub ends : RightEnds rows count
  pub statement : in_class S (kind_at rows 0) ≡ true
  pub known : (i : ℕ) → i < count → is_kind (kind_at rows i) ≡ true
  pub fitting : (i : ℕ) → i < count → children_fit rows i ≡ true

children_at_lem : (rows : List ℕ) (i : ℕ) → children_at rows i ≡ passed → (is_kind (kind_at rows i) ≡ true) × (children_fit rows i ≡ true)
unfolding children_at
children_at_lem rows i e = both_true (is_kind (kind_at rows i)) _ (test_passed _ WrongChildren i e)

pub children_passed : (rows : List ℕ) (count : ℕ) (r : Checked) → r ≡ children_of rows count → r ≡ passed → RightChildren rows count
unfolding root_at
children_passed rows count r q p =
    let both = both_pass (ends_of rows count) _ (sym q ∙ p) in
    let found = both_pass (root_at rows) (first_from (children_at rows) count 0) both.1 in
    record {
      ends = ends_passed rows count (ends_of rows count) refl both.0;
      statement = test_passed _ WrongChildren 0 found.0;
      known = λ i h. (children_at_lem rows i (all_pass (children_at rows) count found.1 i h)).0;
      fitting = λ i h. (children_at_lem rows i (all_pass (children_at rows) count found.1 i h)).1;
    }

pub children_pass : (rows : List ℕ) (count : ℕ) → RightChildren rows count → children_of rows count ≡ passed
unfolding root_at children_at
children_pass rows count w = rw (ends_pass rows count w.ends, w.statement) (pass_all (children_at rows) count (λ i h. rw (w.known i h, w.fitting i h)))

-- the whole check
module _ (rows : List ℕ) (count names : ℕ) where
  module _ (r : Checked) (q : r ≡ checked_rows rows count names) (p : r ≡ passed) where
    both_passed : (fields_of rows count names ≡ passed) × (children_of rows count ≡ passed)
    unfolding checked_rows
    both_passed = both_pass (fields_of rows count names) (children_of rows count) (sym q ∙ p)

    pub checked_children : RightChildren rows count
    checked_children = children_passed rows count (children_of rows count) refl both_passed.1

  -- where the fields are right it is the check of the children
  pub checked_is : RightFields rows count names → checked_rows rows count names ≡ children_of rows count
  unfolding checked_rows
  checked_is w = rw (fields_pass rows count names w)

  pub checked_pass : RightFields rows count names → RightChildren rows count → checked_rows rows count names ≡ passed
  checked_pass f c = checked_is f ∙ children_pass rows count c
