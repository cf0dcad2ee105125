-- The laws of a table's parts: what a part spells, from how it stands to another.
use mathlib.Core.Path.{◌≡◌, sym, ap, ◌∙◌}
use Prim.Native.Nat.{ℕ, suc, ◌+◌, ◌≤◌, ◌<◌}
use Rattle.table.specs.declared.Siblings.{Siblings}
use Rattle.table.specs.declared.Node.{Node}
use Rattle.table.specs.Rows.{kind_at, side_at, lo_at, hi_at, end_at, Forest, nil, node, tree, rest}
use Rattle.table.specs.Siblings.{forest, First, Children, Rest, Head}
use Rattle.table.specs.Fold.{Alg, fold, nth, tail}
use Rattle.table.proofs.Fold.{fold_step, fold_first, fold_next, fold_tail}
use mathlib.Core.List.{◌∷◌}
use native.Mathlib.Omega.{arith}
use mathlib.Core.Bool.{Bool, true, false}
use lib.Dec.{leb}
use borrow.Author.Tests.{lt-ltb, leb-true, leb-false}
use Rattle.table.proofs.Ranges.{ends_after}
use Rattle.table.proofs.Tree.{tree_none, tree_some, tree_next}

-- siblings are none, or there is a first
abbrev firsts : Forest → ℕ
firsts nil = 0
firsts (node k s lo hi cs others) = 1

pub nil_node : {k s lo hi : ℕ} {cs others : Forest} {A : Type 0} → nil ≡ node k s lo hi cs others → A
nil_node e = let z : ◌≡◌ {A = ℕ} 0 1 = ap firsts e in absurd (omega arith)

-- no rows
pub forest_none : (rows : Siblings) → rows.to ≤ rows.from → forest rows ≡ nil
forest_none rows h = tree_none rows.table.now rows.from rows.to h

-- a first row, what it holds, and those after it
pub forest_some : {rows : Siblings} {row : Node} {below : Siblings}
    → First rows row
    → Children row below
    → forest rows
    ≡ node (kind_at row.table.now row.at) (side_at row.table.now row.at) (lo_at row.table.now row.at) (hi_at row.table.now row.at) (forest below) (tree row.table.now row.end rows.to)
forest_some {rows} {row} {below} f b = rw (b.same, b.starts, b.ends, f.same, f.starts, f.ends) (tree_some rows.nested f.some)

-- what a row holds
pub children_forest : {row : Node} {below : Siblings} → Children row below → tree row.table.now (row.at + 1) row.end ≡ forest below
children_forest b = rw (b.same, b.starts, b.ends)

-- those after the first
pub forest_rest : {rows after : Siblings} → Rest rows after → forest after ≡ rest (forest rows)
forest_rest {rows} {after} r = rw (r.same, r.ends) (tree_next after.from rows.nested r.starts)

-- they begin further on
pub rest_after : {rows after : Siblings} → rows.from < rows.to → Rest rows after → rows.from < after.from
rest_after {rows} {after} h r = let e : after.from ≡ end_at rows.table.now rows.from = r.starts ∙ rw (lt-ltb rows.from rows.to h) in omega (arith, ends_after rows.nested h)

-- what a loop that asks whether any are left knows
module _ (rows : Siblings) (b : Bool) (e : b ≡ leb rows.to rows.from) where
  pub some_left : b ≡ false → rows.from < rows.to
  some_left n = leb-false rows.to rows.from (sym e ∙ n)

  pub none_left : b ≡ true → rows.to ≤ rows.from
  none_left n = leb-true rows.to rows.from (sym e ∙ n)

-- folds: of the first alone, of those after it, and of one of these
module _ {A : Type 0} (alg : Alg A) (d : A) where
  pub fold_head : {rows head : Siblings} → Head rows head → nth d 0 (fold alg (forest head)) ≡ nth d 0 (fold alg (forest rows))
  fold_head {rows} {head} h = rw (h.same, h.starts) (fold_first alg d rows.nested h.ends)

  pub fold_next_part : {rows after : Siblings} (i : ℕ) → Rest rows after → nth d i (fold alg (forest after)) ≡ nth d (suc i) (fold alg (forest rows))
  fold_next_part {rows} {after} i r = rw (r.same, r.ends) (fold_next alg d i rows.nested r.starts)

module _ {A : Type 0} (alg : Alg A) where
  pub fold_rest_part : {rows after : Siblings} → Rest rows after → fold alg (forest after) ≡ tail (fold alg (forest rows))
  fold_rest_part {rows} {after} r = rw (r.same, r.ends) (fold_tail alg rows.nested r.starts)

module _ {A : Type 0} (alg : Alg A) (d : A) where
  pub fold_step_part : {rows after : Siblings} → rows.from < rows.to → Rest rows after → fold alg (forest rows) ≡ nth d 0 (fold alg (forest rows)) ∷ fold alg (forest after)
  fold_step_part {rows} {after} h r = rw (r.same, r.ends) (fold_step alg d rows.nested h (r.starts ∙ rw (lt-ltb rows.from rows.to h)))
