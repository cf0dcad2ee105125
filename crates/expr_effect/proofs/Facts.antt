-- What the walk asks of a row, said of the first of the rows of a range: it is all that a proof about the walk's code needs to know of
-- these facts beside the law of an expression. Each is one step of the fold; nothing recurses.
use Prim.Native.Nat.{ℕ, ◌+◌, ◌≤◌, ◌<◌}
use mathlib.Core.Path.{◌≡◌, refl, ◌∙◌}
use mathlib.Core.Bool.{Bool, true, false}
use mathlib.Core.List.{List}
use lib.Dec.{ltb}
use borrow.Author.Tests.{ltb-true, ltb-false}
use Rattle.table.specs.declared.Siblings.{Siblings}
use Rattle.table.specs.Siblings.{forest, Head}
use Rattle.table.specs.Rows.{kind_at, lo_at, hi_at, end_at, nil, tree, Nested}
use Rattle.table.specs.Steps.{next_of}
use Rattle.table.specs.Fold.{fold, nth}
use Rattle.table.proofs.Tree.{tree_none, tree_alone}
use Rattle.table.proofs.Fold.{fold_none, fold_some}
use Rattle.kinds.specs.Named.{expr_class}
use Rattle.reads.specs.declared.Iff.TheVariants.{Skipped}
use Rattle.reads.specs.Mentions.{in_row_order, seen, some, refers}
use Rattle.expr_effect.specs.Law.{is_plain, facts_at, expr_facts, no_facts}

-- no row
pub fact_none : (x : ℕ) (rows : List ℕ) (from to : ℕ) → to ≤ from → nth no_facts 0 (expr_facts x (tree rows from to)) ≡ no_facts
fact_none x rows from to h = rw (fold_none (facts_at x) rows from to h)

nothing_refers : (x : ℕ) → refers Skipped x nil ≡ false
unfolding refers seen in_row_order some fold
nothing_refers x = refl

module _ (x : ℕ) {rows : List ℕ} {from to : ℕ} (g : Nested rows from to) where
  module _ (h : from < to) where
    pub fact_lo : (nth no_facts 0 (expr_facts x (tree rows from to))).lo ≡ lo_at rows from
    unfolding facts_at
    fact_lo = rw (fold_some (facts_at x) g h)

    pub fact_hi : (nth no_facts 0 (expr_facts x (tree rows from to))).hi ≡ hi_at rows from
    unfolding facts_at
    fact_hi = rw (fold_some (facts_at x) g h)

    pub fact_plain : (nth no_facts 0 (expr_facts x (tree rows from to))).plain ≡ is_plain x (expr_class (kind_at rows from)) (tree rows (from + 1) (end_at rows from))
    unfolding facts_at
    fact_plain = rw (fold_some (facts_at x) g h)

    refers_some : (nth no_facts 0 (expr_facts x (tree rows from to))).refers ≡ refers Skipped x (tree rows from (end_at rows from))
    unfolding facts_at
    refers_some = rw (fold_some (facts_at x) g h, tree_alone g h)

  -- whether it refers is the reference test of the rows up to the next sibling
  pub fact_refers : (n : ℕ) → n ≡ next_of rows from to → (nth no_facts 0 (expr_facts x (tree rows from to))).refers ≡ refers Skipped x (tree rows from n)
  fact_refers n e = go (ltb from to) refl
    where
      go : (b : Bool) → ltb from to ≡ b → (nth no_facts 0 (expr_facts x (tree rows from to))).refers ≡ refers Skipped x (tree rows from n)
      go true q = let v : n ≡ end_at rows from = e ∙ rw q in rw v (refers_some (ltb-true from to q))
      go false q =
          let v : n ≡ to = e ∙ rw q in
          let h : to ≤ from = ltb-false from to q in
          rw (v, fact_none x rows from to h, tree_none rows from to h, nothing_refers x)

-- of a part of a table
pub part_refers : (x : ℕ) {rows head : Siblings} → Head rows head → (nth no_facts 0 (expr_facts x (forest rows))).refers ≡ refers Skipped x (forest head)
part_refers x {rows} {head} h = rw (h.same, h.starts) (fact_refers x rows.nested head.to h.ends)
