-- The tree of a range depends on the numbers of its rows alone: two tables that agree on them spell it alike. The induction is on how far the
-- reading may go.
use mathlib.Core.Path.{◌≡◌, refl, sym}
use mathlib.Core.Bool.{Bool, true, false}
use mathlib.Core.List.{List, ◌++◌}
use Prim.Native.Nat.{ℕ, zero, suc, ◌+◌, ◌-◌, ◌*◌, ◌≤◌, ◌<◌}
use native.Mathlib.Nat.{add-zero}
use native.Mathlib.Omega.{arith}
use lib.Dec.{ltb}
use lib.ListN.{length, get_or, get_or-append}
use borrow.Author.Tests.{ltb-true}
use Rattle.table.specs.Rows.{kind_at, end_at, tree_by, tree, Nested}
use Rattle.table.proofs.Ranges.{ends_within, others, children}

by_same : (n : ℕ) (rows table : List ℕ) (from to : ℕ) → Nested rows from to → ((i : ℕ) → i < 5 * to → get_or rows i 0 ≡ get_or table i 0) → tree_by n rows from to ≡ tree_by n table from to
unfolding tree_by
by_same zero rows table from to g same = refl
by_same (suc n) rows table from to g same =
    go (ltb from to) refl
    (λ h. by_same n rows table (from + 1) (end_at rows from) (children g h) (λ i b. same i (omega (arith, ends_within g h))))
    (λ h. by_same n rows table (end_at rows from) to (others g h) same)
  where
    at : from < to → (j : ℕ) → j < 5 → get_or table (5 * from + j) 0 ≡ get_or rows (5 * from + j) 0
    at h j b = sym (same (5 * from + j) (omega arith))

    go : (x : Bool)
        → ltb from to ≡ x
        → (from < to → tree_by n rows (from + 1) (end_at rows from) ≡ tree_by n table (from + 1) (end_at rows from))
        → (from < to → tree_by n rows (end_at rows from) to ≡ tree_by n table (end_at rows from) to)
        → tree_by (suc n) rows from to ≡ tree_by (suc n) table from to
    go true e p q =
        let h : from < to = ltb-true from to e in
        let k : kind_at table from ≡ kind_at rows from = rw (add-zero (5 * from)) at (at h 0 (omega arith)) in
        rw (e, k, at h 1 (omega arith), at h 2 (omega arith), at h 3 (omega arith), at h 4 (omega arith), p h, q h)
    go false e p q = rw e

-- two tables that agree on the rows up to the end of a range spell the same tree there
pub tree_same : (rows others : List ℕ) (from to : ℕ) → Nested rows from to → ((i : ℕ) → i < 5 * to → get_or rows i 0 ≡ get_or others i 0) → tree rows from to ≡ tree others from to
unfolding tree
tree_same rows others from to g same = by_same (to - from) rows others from to g same

-- and so does a table with more numbers after its rows
pub tree_front : (rows more : List ℕ) (from to : ℕ) → 5 * to ≤ length rows → Nested (rows ++ more) from to → tree (rows ++ more) from to ≡ tree rows from to
tree_front rows more from to room g = tree_same (rows ++ more) rows from to g (λ i h. get_or-append rows more 0 i (omega arith))
