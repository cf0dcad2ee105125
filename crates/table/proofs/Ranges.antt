-- The ranges of rows that nest with a range that does: from a later row on, a row alone, its children, the rows after it. Nesting is said of
-- every row of a range, so that a part of the range has it by less.
use mathlib.Core.Path.{◌≡◌, refl, ◌∙◌}
use mathlib.Core.Bool.{Bool, true, false}
use mathlib.Core.List.{List}
use Prim.Native.Nat.{ℕ, ◌+◌, ◌≤◌, ◌<◌}
use native.Mathlib.Omega.{arith}
use lib.Dec.{ltb}
use borrow.Author.Tests.{ltb-true, ltb-false, lt-ltb, le-ltb}
use Rattle.table.specs.Rows.{end_at, Nested}
use Rattle.table.specs.Steps.{RowEnd, NextRow}

-- from a later row on
pub later : {rows : List ℕ} {from to : ℕ} → Nested rows from to → (i : ℕ) → from ≤ i → i ≤ to → Nested rows i to
later g k a b = record {
  ordered = b;
  held = g.held;
  after = λ i p. g.after i (omega arith);
  within = λ i p. g.within i (omega arith);
  nests = λ i j p. g.nests i j (omega arith);
}

module _ {rows : List ℕ} {from to : ℕ} (g : Nested rows from to) (h : from < to) where
  pub ends_after : from < end_at rows from
  ends_after = g.after from (omega arith) h

  pub ends_within : end_at rows from ≤ to
  ends_within = g.within from (omega arith) h

  -- the rows after the first one and its descendants
  pub others : Nested rows (end_at rows from) to
  others = later g (end_at rows from) (omega (arith, ends_after)) ends_within

  -- the first row and its descendants
  pub alone : Nested rows from (end_at rows from)
  alone = record {
    ordered = omega (arith, ends_after);
    held = omega (arith, ends_within, g.held);
    after = λ i p q. g.after i p (omega (arith, ends_within));
    within = λ i p q. inside i p q (ltb from i) refl;
    nests = λ i j p q. g.nests i j p (omega (arith, ends_within));
  }
    where
      inside : (i : ℕ) → from ≤ i → i < end_at rows from → (b : Bool) → ltb from i ≡ b → end_at rows i ≤ end_at rows from
      inside i p q true e = g.nests from i (omega arith) h (ltb-true from i e) q
      inside i p q false e = let s : i ≡ from = omega (arith, ltb-false from i e) in rw s (omega arith)

  -- its descendants
  pub children : Nested rows (from + 1) (end_at rows from)
  children = later alone (from + 1) (omega arith) (omega (arith, ends_after))

-- no rows
pub empty : {rows : List ℕ} {from to : ℕ} → Nested rows from to → Nested rows to to
empty {to = to} g = later g to g.ordered (omega arith)

-- what the calls of the table tell
module _ {rows : List ℕ} {from to r : ℕ} (g : Nested rows from to) where
  pub row_end : from < to → r ≡ end_at rows from → RowEnd rows from to r
  row_end h e = record {
    is = e;
    after = omega (arith, ends_after g h);
    within = omega (arith, ends_within g h);
    alone = rw e (alone g h);
    children = rw e (children g h);
    others = rw e (others g h);
  }

  pub next_row : from < to → r ≡ end_at rows from → NextRow rows from to r
  next_row h e = record {
    is = e ∙ rw (lt-ltb from to h);
    after = omega (arith, ends_after g h);
    within = omega (arith, ends_within g h);
    alone = rw e (alone g h);
    others = rw e (others g h);
  }

  pub next_none : to ≤ from → r ≡ to → NextRow rows from to r
  next_none h e = record {
    is = e ∙ rw (le-ltb from to h);
    after = omega (arith, g.ordered);
    within = omega arith;
    alone = rw e g;
    others = rw e (empty g);
  }
