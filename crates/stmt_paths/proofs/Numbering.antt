-- The rows of a tree are numbered as those of the table that spells it: row n of the rows from `from` on is row from + n. By induction
-- over the size of the range: a row, the rows below it, the rows after these.
use mathlib.Core.Path.{◌≡◌, refl, subst}
use mathlib.Core.Bool.{Bool, true, false}
use mathlib.Core.List.{List, [], ◌∷◌, ◌++◌}
use Prim.Native.Nat.{ℕ, zero, suc, ◌+◌, ◌-◌, ◌≤◌, ◌<◌}
use native.Mathlib.Nat.{add-zero}
use native.Mathlib.Omega.{arith}
use lib.Dec.{ltb}
use borrow.Author.Tests.{ltb-true, ltb-false}
use Rattle.table.specs.Rows.{kind_at, side_at, lo_at, hi_at, end_at, tree, Nested}
use Rattle.table.specs.Fold.{fold, nth}
use Rattle.table.proofs.Ranges.{ends_after, ends_within, others, children}
use Rattle.table.proofs.Fold.{fold_none, fold_some}
use Rattle.kinds.specs.Kinds.{kinds}
use Rattle.kinds.specs.Words.{same, place_from, kind_of}
use Rattle.kinds.specs.Named.{kind_number, numbered}
use Rattle.stmt_paths.specs.Premises.{Place, PlacedRow, child_place, placed_below, placed_at, placed_together, placed_rows, at_row, first_failing, no_row, nth_row}
use Rattle.stmt_paths.proofs.PremiseTest.{HasPremise, is_disable, is_decl, is_nonblocking, is_event, fails_at_premise}

-- row i of the table, wherever it stands
pub record IsRow (rows : List ℕ) (i : ℕ) (r : PlacedRow) : Type 0 where
  pub kind : r.kind ≡ kind_at rows i
  pub side : r.side ≡ side_at rows i
  pub children : r.children ≡ tree rows (i + 1) (end_at rows i)

-- the rows of the table from one number up to another, in order
data InOrder (rows : List ℕ) : ℕ → ℕ → List PlacedRow → Type 0 where
  no_further_row : {i : ℕ} → InOrder rows i i []
  one_more : {i to : ℕ} {r : PlacedRow} {rs : List PlacedRow} → IsRow rows i r → InOrder rows (i + 1) to rs → InOrder rows i to (r ∷ rs)

-- what stands past the last row has no premise
no_premise : HasPremise no_row → ⊥
unfolding numbered kind_number kind_of place_from kinds same
no_premise (is_disable e) = absurd (omega (arith, e))
no_premise (is_decl e) = absurd (omega (arith, e))
no_premise (is_nonblocking e) = absurd (omega (arith, e))
no_premise (is_event e) = absurd (omega (arith, e))

module _ {rows : List ℕ} where
  -- two ranges, of which one begins where the other ends
  then : {i j k : ℕ} {a b : List PlacedRow} → InOrder rows i j a → InOrder rows j k b → InOrder rows i k (a ++ b)
  then no_further_row h = h
  then (one_more r g) h = one_more r (then g h)

  -- the row at a place, and what stands past the last one
  at : {i to : ℕ} {rs : List PlacedRow} → InOrder rows i to rs → (n : ℕ) → n < to - i → IsRow rows (i + n) (nth no_row n rs)
  at (no_further_row {i}) n l = absurd (omega arith)
  at (one_more {i} r g) zero l = rw (add-zero i) r
  at (one_more {i} {to} r g) (suc n) l =
      let e : i + suc n ≡ i + 1 + n = omega arith in
      rw e (at g n (omega arith))

  up : {i to : ℕ} {rs : List PlacedRow} → InOrder rows i to rs → i ≤ to
  up no_further_row = omega arith
  up (one_more r g) = omega (arith, up g)

  past : {i to : ℕ} {rs : List PlacedRow} → InOrder rows i to rs → (n : ℕ) → to - i ≤ n → nth no_row n rs ≡ no_row
  past no_further_row n l = refl
  past (one_more r g) zero l = absurd (omega (arith, up g))
  past (one_more r g) (suc n) l = past g n (omega arith)

-- the rows below a row, and those of siblings that stand under nothing, where they are the rows of a range
abbrev Below : List ℕ → ℕ → ℕ → Type 0
Below rows from to = (k i : ℕ) (above : List Place) → InOrder rows from to (placed_below k i above (fold placed_at (tree rows from to)))

abbrev Together : List ℕ → ℕ → ℕ → Type 0
Together rows from to = InOrder rows from to (placed_together (fold placed_at (tree rows from to)))

module _ {rows : List ℕ} {from to : ℕ} (g : Nested rows from to) where
  none_in_order : to ≤ from → InOrder rows from to []
  none_in_order h = let e : to ≡ from = omega (arith, g.ordered) in rw e no_further_row

  below_none : to ≤ from → Below rows from to
  unfolding placed_below
  below_none h k i above = rw (fold_none placed_at rows from to h) (none_in_order h)

  together_none : to ≤ from → Together rows from to
  unfolding placed_together
  together_none h = rw (fold_none placed_at rows from to h) (none_in_order h)

  module _ (h : from < to) (below : Below rows (from + 1) (end_at rows from)) where
    -- the first row, the rows below it, and then the rows after these
    first_in_order : (lo hi : ℕ) (above : List Place) {rs : List PlacedRow}
        → InOrder rows (end_at rows from) to rs
        → InOrder rows from to
        (placed_at (kind_at rows from) (side_at rows from) lo hi (tree rows (from + 1) (end_at rows from)) (fold placed_at (tree rows (from + 1) (end_at rows from))) above ++ rs)
    unfolding placed_at
    first_in_order lo hi above after = one_more (record { kind = refl; side = refl; children = refl }) (then (below (kind_at rows from) 0 above) after)

    below_some : Below rows (end_at rows from) to → Below rows from to
    unfolding placed_below
    below_some after k i above =
        rw (fold_some placed_at g h) (first_in_order (lo_at rows from) (hi_at rows from) (child_place k i ∷ above) (after k (suc i) above))

    together_some : Together rows (end_at rows from) to → Together rows from to
    unfolding placed_together
    together_some after = rw (fold_some placed_at g h) (first_in_order (lo_at rows from) (hi_at rows from) [] after)

-- by the size of the range
below_by : (n : ℕ) {rows : List ℕ} {from to : ℕ} → to - from ≤ n → Nested rows from to → Below rows from to
below_by zero b g = below_none g (omega arith)
below_by (suc n) {rows} {from} {to} b g =
    go (ltb from to) refl
    (λ h. below_by n (omega (arith, ends_within g h)) (children g h))
    (λ h. below_by n (omega (arith, ends_after g h)) (others g h))
  where
    go : (t : Bool) → ltb from to ≡ t → (from < to → Below rows (from + 1) (end_at rows from)) → (from < to → Below rows (end_at rows from) to) → Below rows from to
    go true q below after = let h : from < to = ltb-true from to q in below_some g h (below h) (after h)
    go false q below after = below_none g (ltb-false from to q)

together_by : (n : ℕ) {rows : List ℕ} {from to : ℕ} → to - from ≤ n → Nested rows from to → Together rows from to
together_by zero b g = together_none g (omega arith)
together_by (suc n) {rows} {from} {to} b g = go (ltb from to) refl (λ h. together_by n (omega (arith, ends_after g h)) (others g h))
  where
    go : (t : Bool) → ltb from to ≡ t → (from < to → Together rows (end_at rows from) to) → Together rows from to
    go true q after =
        let h : from < to = ltb-true from to q in
        together_some g h (below_by (end_at rows from - (from + 1)) (omega arith) (children g h)) (after h)
    go false q after = together_none g (ltb-false from to q)

module _ {rows : List ℕ} {from to : ℕ} (g : Nested rows from to) (n : ℕ) where
  in_order_lem : InOrder rows from to (placed_rows (tree rows from to))
  unfolding placed_rows
  in_order_lem = together_by (to - from) (omega arith) g

  -- row n of the tree is row from + n of the table
  pub row_numbered : n < to - from → IsRow rows (from + n) (nth_row (tree rows from to) n)
  row_numbered l = at in_order_lem n l

  -- and there are no more
  pub row_past : to - from ≤ n → nth_row (tree rows from to) n ≡ no_row
  row_past l = past in_order_lem n l

  -- a row at which a premise fails is a row of the range
  pub fails_within : (x : ℕ) (marks : ℕ → Bool) → first_failing x marks (tree rows from to) ≡ at_row n → n < to - from
  fails_within x marks e = go (ltb n (to - from)) refl
    where
      go : (t : Bool) → ltb n (to - from) ≡ t → n < to - from
      go true q = ltb-true n (to - from) q
      go false q =
          let v : nth_row (tree rows from to) n ≡ no_row = row_past (ltb-false n (to - from) q) in
          absurd (no_premise (subst HasPremise v (fails_at_premise x marks (tree rows from to) n e)))
