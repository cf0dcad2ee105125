-- What holds at every row of a tree, or at some row of it: one row at a time, in row order, since "and" and "or" may be regrouped. By
-- induction over the list of answers.
use mathlib.Core.Path.{◌≡◌, refl, sym, ap, ◌∙◌}
use mathlib.Core.Bool.{Bool, true, false, ◌&&◌, ◌||◌, and-true, or-false, and_assoc, or_assoc}
use mathlib.Core.List.{List, [], ◌∷◌, ◌++◌}
use Prim.Native.Nat.{ℕ, zero, suc, ◌+◌, ◌-◌, ◌≤◌, ◌<◌}
use native.Mathlib.Omega.{arith}
use Rattle.std.specs.List.{range_with_len}
use Rattle.table.specs.Rows.{kind_at, side_at, end_at, Forest, tree, Nested}
use Rattle.table.specs.Fold.{Alg, fold}
use Rattle.table.proofs.Fold.{fold_none, fold_some, fold_after}
use Rattle.table.proofs.Ranges.{later}
use Rattle.reads.specs.Iffs.{every}
use Rattle.reads.specs.Mentions.{some}

-- the answers of a list made one: by "and" from true on, or by "or" from false on
pub record Gather : Type 0 where
  pub op : Bool → Bool → Bool
  pub unit : Bool
  pub all : List Bool → Bool
  pub none : all [] ≡ unit
  pub more : (b : Bool) (bs : List Bool) → all (b ∷ bs) ≡ op b (all bs)
  pub left : (b : Bool) → op unit b ≡ b
  pub right : (b : Bool) → op b unit ≡ b
  pub assoc : (a b c : Bool) → op (op a b) c ≡ op a (op b c)

pub every_none : every [] ≡ true
unfolding every
every_none = refl

pub every_more : (b : Bool) (bs : List Bool) → every (b ∷ bs) ≡ b && every bs
unfolding every
every_more b bs = refl

pub some_none : some [] ≡ false
unfolding some
some_none = refl

pub some_more : (b : Bool) (bs : List Bool) → some (b ∷ bs) ≡ b || some bs
unfolding some
some_more b bs = refl

abbrev pub by_and : Gather
by_and = record { op = ◌&&◌; unit = true; all = every; none = every_none; more = every_more; left = λ b. refl; right = and-true; assoc = and_assoc }

abbrev pub by_or : Gather
by_or = record { op = ◌||◌; unit = false; all = some; none = some_none; more = some_more; left = λ b. refl; right = or-false; assoc = or_assoc }

module _ (g : Gather) where
  all_append : (a b : List Bool) → g.all (a ++ b) ≡ g.op (g.all a) (g.all b)
  all_append [] b = sym (rw g.none (g.left (g.all b)))
  all_append (x ∷ a) b = g.more x (a ++ b) ∙ rw (all_append a b, g.more x a) (sym (g.assoc x (g.all a) (g.all b)))

  -- an answer of a row itself, with the answers of the rows below it
  abbrev pub gathered : (ℕ → ℕ → Forest → Bool) → Alg Bool
  gathered here k s lo hi cs bs = g.op (here k s cs) (g.all bs)

  module _ (here : ℕ → ℕ → Forest → Bool) where
    -- of no row
    pub flat_none : (rows : List ℕ) (from to : ℕ) → to ≤ from → g.all (fold (gathered here) (tree rows from to)) ≡ g.unit
    flat_none rows from to h = ap g.all (fold_none (gathered here) rows from to h) ∙ g.none

    -- of the first row itself, then of the rows after it in row order
    pub flat_step : {rows : List ℕ} {from to : ℕ}
        → Nested rows from to
        → from < to
        → g.all (fold (gathered here) (tree rows from to))
        ≡ g.op (here (kind_at rows from) (side_at rows from) (tree rows (from + 1) (end_at rows from))) (g.all (fold (gathered here) (tree rows (from + 1) to)))
    flat_step {rows} {from} {to} n h =
        let alg = gathered here in
        let own = here (kind_at rows from) (side_at rows from) (tree rows (from + 1) (end_at rows from)) in
        let below = fold alg (tree rows (from + 1) (end_at rows from)) in
        let after = fold alg (tree rows (end_at rows from) to) in
        ap g.all (fold_some alg n h)
        ∙ g.more (g.op own (g.all below)) after
        ∙ g.assoc own (g.all below) (g.all after)
        ∙ ap (g.op own) (sym (ap g.all (fold_after alg n h) ∙ all_append below after))

    -- of all rows, by any way to gather a test of the rows' numbers
    pub flat_numbers : {rows : List ℕ} (of : List ℕ → Bool)
        → of [] ≡ g.unit
        → ((i : ℕ) (is : List ℕ) → of (i ∷ is) ≡ g.op (here (kind_at rows i) (side_at rows i) (tree rows (i + 1) (end_at rows i))) (of is))
        → (n : ℕ) {from to : ℕ}
        → to - from ≡ n
        → Nested rows from to
        → of (range_with_len from n) ≡ g.all (fold (gathered here) (tree rows from to))
    flat_numbers {rows} of none more zero {from} {to} e h = none ∙ sym (flat_none rows from to (omega arith))
    flat_numbers {rows} of none more (suc n) {from} {to} e h =
        more from (range_with_len (from + 1) n)
        ∙ ap (g.op _) (flat_numbers of none more n (omega arith) (later h (from + 1) (omega arith) (omega arith)))
        ∙ sym (flat_step h (omega arith))
