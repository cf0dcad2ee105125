-- A row by itself: what the answer of `end_right` says of the row's fields, end and depth, and that a table whose first wrong row is
-- refused is refused as `refuse` tells.
use Rattle.std.specs.Prelude.{Ok, Err}
use Prim.Native.Nat.{ℕ, suc, ◌+◌, ◌-◌, ◌≤◌, ◌<◌}
use mathlib.Core.Path.{◌≡◌, refl, sym, ◌∙◌}
use mathlib.Core.Bool.{Bool, true, false, cond, ◌&&◌}
use mathlib.Core.List.{List}
use native.Mathlib.Omega.{arith}
use lib.Dec.{leb, ltb}
use borrow.Author.Tests.{lt-ltb, le-ltb}
use Rattle.table.specs.Rows.{kind_at, side_at, end_at}
use Rattle.kinds.specs.declared.Kind.{Kind}
use Rattle.kinds.specs.Steps.{side_below}
use Rattle.kinds.proofs.Below.{true_not_false, both_true}
use Rattle.refusals.specs.declared.Refusal.{Refusal}
use Rattle.refusals.specs.declared.Refusal.TheVariants.{WrongSide, WrongEnd, TooDeep}
use Rattle.checks.specs.Checks.{Checked}
use Rattle.refusals.specs.Refusals.{refused_at}
use Rattle.checks.specs.Checks.{passed}
use Rattle.checks.specs.Checks.{and_then, first_from, when_held, fields_at, fields_of, enclosing, end_fits, depth_at, ends_at, ends_of, checked_rows}
use Rattle.checks.specs.Steps.{Held, end_right, RowTold, refused_of, alone_at}
use Rattle.checks.proofs.Rows.{Checking, checking_step, checking_stop, from_zero, checking_upto, both_pass}
use Rattle.checks.proofs.Room.{holds_true}
use Rattle.checks.proofs.FieldLaws.{unknown_told, side_told}

-- the row is refused by itself; where its fields are right it is so for its depth, or for its end
abbrev pub RefusedFor : List ℕ → ℕ → ℕ → ℕ → Refusal → Type 0
RefusedFor rows count names row why = and_then (fields_at rows names row) (refused_at why row) ≡ alone_at rows count names row

pub unknown_refused : (rows : List ℕ) (count names row k : ℕ) → k ≡ kind_at rows row → 66 ≤ k → RefusedFor rows count names row WrongEnd
unfolding alone_at
unknown_refused rows count names row k i u = rw (unknown_told rows names row k i u)

-- the ends that fit the row are those from `least` to `most`, and it stands in so many rows
pub record Bounds (rows : List ℕ) (count row least most depth : ℕ) : Type 0 where
  pub fits : end_fits count row (end_at rows row) (enclosing rows row) ≡ (leb least (end_at rows row) && leb (end_at rows row) most)
  pub deep : depth_at rows row ≡ suc depth

module _ (rows : List ℕ) (count names row : ℕ) (numbers : Kind) (least most depth : ℕ) (b : Bounds rows count row least most depth) (r : Bool) (w : RowTold rows names row numbers least most r) where
  unfoldable between : Bool
  between = leb least (end_at rows row) && leb (end_at rows row) most

  unfoldable sided : Bool
  sided = side_below numbers.sides names (side_at rows row)

  told : r ≡ (between && sided)
  unfolding end_right between sided
  told = w.answer

  fields_are : fields_at rows names row ≡ cond sided passed (refused_at WrongSide row)
  unfolding sided
  fields_are = side_told rows names row numbers w.read.known (w.read.sides names (side_at rows row))

  row_is : alone_at rows count names row ≡ and_then (cond sided passed (refused_at WrongSide row)) (cond between (cond (ltb depth 100) passed (refused_at TooDeep row)) (refused_at WrongEnd row))
  unfolding alone_at ends_at between
  row_is = rw (fields_are, b.fits, b.deep)

  pub row_wrong : r ≡ false → RefusedFor rows count names row WrongEnd
  row_wrong z = rw (fields_are, row_is) (go between sided (sym told ∙ z))
    where
      go : (x y : Bool)
          → (x && y) ≡ false
          → and_then (cond y passed (refused_at WrongSide row)) (refused_at WrongEnd row) ≡ and_then (cond y passed (refused_at WrongSide row)) (cond x (cond (ltb depth 100) passed (refused_at TooDeep row)) (refused_at WrongEnd row))
      go false y t = refl
      go true false t = refl
      go true true t = true_not_false t

  -- the end and the side number are right
  module _ (y : r ≡ true) where
    both_right : (between ≡ true) × (sided ≡ true)
    both_right = both_true between sided (sym told ∙ y)

    pub row_deep : 100 ≤ depth → RefusedFor rows count names row TooDeep
    row_deep h = rw (fields_are, row_is, both_right.0, both_right.1, le-ltb depth 100 h)

    pub row_right : depth < 100 → alone_at rows count names row ≡ passed
    row_right h = rw (row_is, both_right.0, both_right.1, lt-ltb depth 100 h)

-- the rows before row n are right by themselves
module _ (rows : List ℕ) (count names : ℕ) (h : Held rows count) where
  pub fields_all : fields_of rows count names ≡ first_from (fields_at rows names) count 0
  unfolding when_held
  fields_all = rw (holds_true rows count h)

  pub ends_all : ends_of rows count ≡ first_from (ends_at rows count) count 0
  unfolding when_held
  ends_all = rw (holds_true rows count h)

  module _ (n : ℕ) (l : n < count) (before : (i : ℕ) → i < n → alone_at rows count names i ≡ passed) where
    both_at : (i : ℕ) → i < n → (fields_at rows names i ≡ passed) × (ends_at rows count i ≡ passed)
    unfolding alone_at
    both_at i b = both_pass (fields_at rows names i) (ends_at rows count i) (before i b)

    fields_from : Checking (fields_at rows names) count 0 n
    fields_from = checking_upto (fields_at rows names) count n (omega arith) (λ i b. (both_at i b).0)

    ends_from : Checking (ends_at rows count) count 0 n
    ends_from = checking_upto (ends_at rows count) count n (omega arith) (λ i b. (both_at i b).1)

    fields_left : fields_of rows count names ≡ first_from (fields_at rows names) (count - n) n
    fields_left = fields_all ∙ from_zero (fields_at rows names) count ∙ fields_from.same

    ends_left : ends_of rows count ≡ and_then (ends_at rows count n) (first_from (ends_at rows count) (count - (n + 1)) (n + 1))
    ends_left = ends_all ∙ from_zero (ends_at rows count) count ∙ checking_step ends_from l

    -- the table is refused as `refuse` tells
    pub refused_checked : (why : Refusal) (out : Checked) → RefusedFor rows count names n why → out ≡ refused_of rows count names n why → out ≡ checked_rows rows count names
    unfolding alone_at refused_of checked_rows
    refused_checked why out t o = go (fields_at rows names n) refl
      where
        go : (f : Checked) → fields_at rows names n ≡ f → out ≡ checked_rows rows count names
        go (Ok u) p = let q : ends_at rows count n ≡ refused_at why n = sym (rw p at t) in o ∙ rw (fields_left, ends_left, q)
        go (Err e) p = let q : first_from (fields_at rows names) (count - n) n ≡ Err e = sym fields_from.same ∙ checking_stop fields_from l e.refusal e.place p in o ∙ rw (fields_left, q)
