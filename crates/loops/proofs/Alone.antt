-- What the pass over the rows of one statement says of it among its siblings: one step of the fold, where there is a row, and none where
-- not.
use Prim.Native.Nat.{ℕ, ◌≤◌, ◌<◌}
use mathlib.Core.Path.{◌≡◌, refl, ◌∙◌}
use mathlib.Core.Bool.{Bool, true, false, and-true}
use mathlib.Core.List.{List}
use native.Mathlib.Omega.{arith}
use lib.Dec.{ltb}
use borrow.Author.Tests.{ltb-true, ltb-false}
use Rattle.table.specs.Rows.{end_at, tree, Nested}
use Rattle.table.specs.Steps.{next_of}
use Rattle.table.specs.Fold.{nth}
use Rattle.table.proofs.Ranges.{ends_after, alone}
use Rattle.table.proofs.Fold.{fold_none, fold_some}
use Rattle.reads.specs.Iffs.{every}
use Rattle.loops.specs.Escape.{cannot_escape_at, cannot_escapes, cannot_escape}

-- the first of the rows from `from` up to `to` cannot be escaped exactly where none of its rows transfers control
pub escape_alone : {rows : List ℕ} {from to n : ℕ} → Nested rows from to → n ≡ next_of rows from to → cannot_escape (tree rows from n) ≡ nth true 0 (cannot_escapes (tree rows from to))
unfolding cannot_escape every
escape_alone {rows} {from} {to} {n} g e = go (ltb from to) refl
  where
    go : (b : Bool) → ltb from to ≡ b → cannot_escape (tree rows from n) ≡ nth true 0 (cannot_escapes (tree rows from to))
    go true q =
        let h : from < to = ltb-true from to q in
        let v : n ≡ end_at rows from = e ∙ rw q in
        rw (v, fold_some cannot_escape_at (alone g h) (ends_after g h), fold_some cannot_escape_at g h, fold_none cannot_escape_at rows (end_at rows from) (end_at rows from) (omega arith)) (and-true _)
    go false q =
        let h : to ≤ from = ltb-false from to q in
        let v : n ≡ to = e ∙ rw q in
        rw (v, fold_none cannot_escape_at rows from to h)
