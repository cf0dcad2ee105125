-- Two tables that hold the same rows are checked alike, whatever stands after the rows: each test reads rows up to the last one alone. By induction on
-- the rows left.
use Rattle.std.specs.Prelude.{Ok, Err}
use Prim.Native.Nat.{ℕ, zero, suc, ◌+◌, ◌*◌, ◌≤◌, ◌<◌}
use mathlib.Core.Path.{◌≡◌, refl, ap, ◌∙◌}
use mathlib.Core.List.{List}
use native.Mathlib.Omega.{arith}
use lib.ListN.{length, get_or}
use borrow.Author.Tests.{le-leb}
use Rattle.table.specs.Rows.{kind_at, end_at, Nested}
use Rattle.table.proofs.Ranges.{later, children, ends_within}
use Rattle.table.proofs.Same.{tree_same}
use Rattle.checks.specs.Checks.{Checked}
use Rattle.checks.specs.Checks.{holds, and_then, first_from, when_held, ends_before, enclosing, depth_at, ends_at, ends_of, children_at, root_at, children_of}
use Rattle.checks.proofs.Nest.{ends_passed}

-- tests that agree on some rows find the same there
first_same : (f g : ℕ → Checked) (n i : ℕ) → ((k : ℕ) → i ≤ k → k < i + n → f k ≡ g k) → first_from f n i ≡ first_from g n i
unfolding first_from
first_same f g zero i same = refl
first_same f g (suc n) i same = rw (same i (omega arith) (omega arith), first_same f g n (i + 1) (λ k l h. same k (omega arith) (omega arith)))

module _ (rows others : List ℕ) (count : ℕ) (h : 5 * count ≤ length rows) (k : 5 * count ≤ length others) (same : (i : ℕ) → i < 5 * count → get_or rows i 0 ≡ get_or others i 0) where
  kind_same : (i : ℕ) → i < count → kind_at rows i ≡ kind_at others i
  kind_same i l = same (5 * i) (omega arith)

  end_same : (i : ℕ) → i < count → end_at rows i ≡ end_at others i
  end_same i l = same (5 * i + 4) (omega arith)

  before_same : (i : ℕ) → i ≤ count → ends_before rows i ≡ ends_before others i
  unfolding ends_before
  before_same zero l = refl
  before_same (suc i) l = rw (end_same i (omega arith), before_same i (omega arith))

  enclosing_same : (i : ℕ) → i ≤ count → enclosing rows i ≡ enclosing others i
  unfolding enclosing
  enclosing_same i l = rw (before_same i l)

  held_same : holds rows count ≡ holds others count
  unfolding holds
  held_same = rw (le-leb (5 * count) (length rows) h, le-leb (5 * count) (length others) k)

  ends_at_same : (i : ℕ) → i < count → ends_at rows count i ≡ ends_at others count i
  unfolding ends_at depth_at
  ends_at_same i l = rw (end_same i l, enclosing_same i (omega arith))

  ends_same : ends_of rows count ≡ ends_of others count
  unfolding when_held
  ends_same = rw (held_same, first_same (ends_at rows count) (ends_at others count) count 0 (λ i a b. ends_at_same i (omega arith)))

  -- where the ends nest, the children are the same trees
  child_same : Nested rows 0 count → (i : ℕ) → i < count → children_at rows i ≡ children_at others i
  unfolding children_at
  child_same n i l =
      let w = later n i (omega arith) (omega arith) in
      let t = tree_same rows others (i + 1) (end_at rows i) (children w l) (λ j b. same j (omega (arith, ends_within w l))) in
      rw (kind_same i l, ← end_same i l, ← t)

  root_same : 1 ≤ count → root_at rows ≡ root_at others
  unfolding root_at
  root_same l = rw (kind_same 0 (omega arith))

  pub children_same : children_of rows count ≡ children_of others count
  children_same = ap (λ (c : Checked). and_then c (and_then (root_at rows) (first_from (children_at rows) count 0))) ends_same ∙ go (ends_of others count) refl
    where
      go : (c : Checked) → ends_of others count ≡ c → and_then c (and_then (root_at rows) (first_from (children_at rows) count 0)) ≡ and_then c (and_then (root_at others) (first_from (children_at others) count 0))
      go (Err r) e = refl
      go (Ok u) e =
          let w = ends_passed rows count (ends_of rows count) refl (ends_same ∙ e) in
          rw (root_same w.held.some, first_same (children_at rows) (children_at others) count 0 (λ i a b. child_same w.nested i (omega arith)))
