-- Trees that pass the checks are fitting, by induction over the size of the range; and what holds of a row whose children let time pass.
use Prim.Native.Nat.{ℕ, zero, suc, ◌+◌, ◌-◌, ◌≤◌, ◌<◌}
use mathlib.Core.Path.{◌≡◌, refl, sym, ◌∙◌}
use mathlib.Core.Bool.{Bool, true, false, or-true}
use mathlib.Core.List.{List}
use native.Mathlib.Omega.{arith}
use lib.Dec.{ltb}
use borrow.Author.Tests.{ltb-true, ltb-false}
use Rattle.table.specs.Rows.{Forest, node, tree, Nested}
use Rattle.table.specs.Fold.{fold, nth}
use Rattle.table.proofs.Ranges.{later}
use Rattle.kinds.proofs.Below.{true_not_false}
use Rattle.checks.proofs.Passed.{RightChildren}
use Rattle.loops.specs.Fitting.{fit_here, fit_at, fitting}
use Rattle.loops.specs.Time.{lets_time_pass, advances_at, advances, advances_time}
use Rattle.loops.proofs.Gather.{by_and, flat_none, flat_step}

fitting_none : (rows : List ℕ) (from to : ℕ) → to ≤ from → fitting (tree rows from to) ≡ true
unfolding fitting fit_at
fitting_none rows from to h = flat_none by_and (λ k s cs. fit_here k cs) rows from to h

module _ {rows : List ℕ} {count : ℕ} (w : RightChildren rows count) where
  fitting_row : {from to : ℕ}
      → Nested rows from to
      → from < to
      → to ≤ count
      → fitting (tree rows (from + 1) to) ≡ true
      → fitting (tree rows from to) ≡ true
  unfolding fitting fit_at fit_here
  fitting_row {from} g h l e = flat_step by_and (λ k s cs. fit_here k cs) g h ∙ rw (w.known from (omega arith), w.fitting from (omega arith)) e

  fitting_by : (n : ℕ) {from to : ℕ} → to - from ≤ n → Nested rows from to → to ≤ count → fitting (tree rows from to) ≡ true
  fitting_by zero {from} {to} b g l = fitting_none rows from to (omega arith)
  fitting_by (suc n) {from} {to} b g l = go (ltb from to) refl (λ h. fitting_by n (omega arith) (later g (from + 1) (omega arith) (omega arith)) l)
    where
      go : (t : Bool) → ltb from to ≡ t → (from < to → fitting (tree rows (from + 1) to) ≡ true) → fitting (tree rows from to) ≡ true
      go true q ih = fitting_row g (ltb-true from to q) l (ih (ltb-true from to q))
      go false q ih = fitting_none rows from to (ltb-false from to q)

  -- the rows of a range in a table that passes the check of children spell a fitting tree
  pub fitting_range : {from to : ℕ} → Nested rows from to → to ≤ count → fitting (tree rows from to) ≡ true
  fitting_range {from} {to} g l = fitting_by (to - from) (omega arith) g l

  -- and so do all of its rows
  pub fitting_tree : fitting (tree rows 0 count) ≡ true
  fitting_tree = fitting_range w.ends.nested (omega arith)

module _ (k s lo hi : ℕ) (cs others : Forest) where
  -- where a row below a row lets time pass, so does the row
  pub time_at_root : advances_time cs ≡ true → nth false 0 (advances (node k s lo hi cs others)) ≡ true
  unfolding advances_time fold advances_at
  time_at_root e = rw e (or-true (lets_time_pass k s))

  -- where the row lets none pass, no row below it does
  pub still_below : nth false 0 (advances (node k s lo hi cs others)) ≡ false → advances_time cs ≡ false
  still_below e = go (advances_time cs) refl
    where
      go : (b : Bool) → advances_time cs ≡ b → advances_time cs ≡ false
      go true q = true_not_false (sym (time_at_root q) ∙ e)
      go false q = q
