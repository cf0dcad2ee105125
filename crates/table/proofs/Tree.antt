-- The laws of `tree`, which is all that other files know of it: no rows, a first row, a cut between siblings, the next sibling. That more room to
-- read on changes nothing is by induction on that room, and a cut by induction on the rows of its first part.
use mathlib.Core.Path.{◌≡◌, refl, sym, ◌∙◌}
use mathlib.Core.Bool.{Bool, true, false}
use mathlib.Core.List.{List}
use Prim.Native.Nat.{ℕ, zero, suc, ◌+◌, ◌-◌, ◌≤◌, ◌<◌}
use native.Mathlib.Omega.{arith}
use lib.Dec.{ltb}
use borrow.Author.Tests.{ltb-true, ltb-false, lt-ltb, le-ltb}
use Rattle.table.specs.Rows.{kind_at, side_at, lo_at, hi_at, end_at, nil, node, tree_by, tree, Nested, append, rest}
use Rattle.table.specs.Steps.{next_of}
use Rattle.table.proofs.Ranges.{later, ends_after, ends_within, others, alone, children}

by_none : (n : ℕ) (rows : List ℕ) (from to : ℕ) → to ≤ from → tree_by n rows from to ≡ nil
unfolding tree_by
by_none zero rows from to h = refl
by_none (suc n) rows from to h = rw (le-ltb from to h)

by_some : (n : ℕ) (rows : List ℕ) (from to : ℕ)
    → from < to
    → tree_by (suc n) rows from to
    ≡ node (kind_at rows from) (side_at rows from) (lo_at rows from) (hi_at rows from) (tree_by n rows (from + 1) (end_at rows from)) (tree_by n rows (end_at rows from) to)
unfolding tree_by
by_some n rows from to h = rw (lt-ltb from to h)

-- any bound that reaches gives the same tree
by_any : (n m : ℕ) {rows : List ℕ} {from to : ℕ} → Nested rows from to → to - from ≤ n → to - from ≤ m → tree_by n rows from to ≡ tree_by m rows from to
by_any zero m {rows} {from} {to} g a b = by_none zero rows from to (omega arith) ∙ sym (by_none m rows from to (omega arith))
by_any (suc n) zero {rows} {from} {to} g a b = by_none (suc n) rows from to (omega arith) ∙ sym (by_none zero rows from to (omega arith))
by_any (suc n) (suc m) {rows} {from} {to} g a b =
    go (ltb from to) refl
    (λ h. by_any n m (children g h) (omega (arith, ends_within g h)) (omega (arith, ends_within g h)))
    (λ h. by_any n m (others g h) (omega (arith, ends_after g h)) (omega (arith, ends_after g h)))
  where
    go : (x : Bool)
        → ltb from to ≡ x
        → (from < to → tree_by n rows (from + 1) (end_at rows from) ≡ tree_by m rows (from + 1) (end_at rows from))
        → (from < to → tree_by n rows (end_at rows from) to ≡ tree_by m rows (end_at rows from) to)
        → tree_by (suc n) rows from to ≡ tree_by (suc m) rows from to
    go true e p q = let h : from < to = ltb-true from to e in rw (by_some n rows from to h, by_some m rows from to h, p h, q h)
    go false e p q = let h : to ≤ from = ltb-false from to e in by_none (suc n) rows from to h ∙ sym (by_none (suc m) rows from to h)

-- no rows: no siblings
pub tree_none : (rows : List ℕ) (from to : ℕ) → to ≤ from → tree rows from to ≡ nil
unfolding tree
tree_none rows from to h = by_none (to - from) rows from to h

-- a first row, its children, and the siblings after it
pub tree_some : {rows : List ℕ} {from to : ℕ}
    → Nested rows from to
    → from < to
    → tree rows from to
    ≡ node (kind_at rows from) (side_at rows from) (lo_at rows from) (hi_at rows from) (tree rows (from + 1) (end_at rows from)) (tree rows (end_at rows from) to)
unfolding tree
tree_some {rows} {from} {to} g h =
    let w : end_at rows from ≤ to = ends_within g h in
    let a : from < end_at rows from = ends_after g h in
    by_any (to - from) (suc (to - from)) g (omega arith) (omega arith)
    ∙ by_some (to - from) rows from to h
    ∙ rw (by_any (to - from) (end_at rows from - (from + 1)) (children g h) (omega arith) (omega arith), by_any (to - from) (to - end_at rows from) (others g h) (omega arith) (omega arith))

-- a row alone, with its descendants
pub tree_alone : {rows : List ℕ} {from to : ℕ}
    → Nested rows from to
    → from < to
    → tree rows from (end_at rows from)
    ≡ node (kind_at rows from) (side_at rows from) (lo_at rows from) (hi_at rows from) (tree rows (from + 1) (end_at rows from)) nil
tree_alone {rows} {from} g h = tree_some (alone g h) (ends_after g h) ∙ rw (tree_none rows (end_at rows from) (end_at rows from) (omega arith))

cut_by : (n : ℕ) {rows : List ℕ} {a b c : ℕ} → b - a ≤ n → Nested rows a b → Nested rows a c → b ≤ c → tree rows a c ≡ append (tree rows a b) (tree rows b c)
unfolding append
cut_by zero {rows} {a} {b} e g w h = let q : b ≡ a = omega (arith, g.ordered) in rw (q, tree_none rows a a (omega arith))
cut_by (suc n) {rows} {a} {b} {c} e g w h =
    go (ltb a b) refl (λ l. cut_by n (omega (arith, ends_after g l)) (others g l) (others w (omega arith)) h)
  where
    go : (x : Bool) → ltb a b ≡ x → (a < b → tree rows (end_at rows a) c ≡ append (tree rows (end_at rows a) b) (tree rows b c)) → tree rows a c ≡ append (tree rows a b) (tree rows b c)
    go true t ih = let l : a < b = ltb-true a b t in rw (tree_some g l, tree_some w (omega arith), ih l)
    go false t ih = let q : b ≡ a = omega (arith, ltb-false a b t, g.ordered) in rw (q, tree_none rows a a (omega arith))

-- the rows from a up to c, cut at a place b between two siblings
pub cut : {rows : List ℕ} {a b c : ℕ} → Nested rows a b → Nested rows a c → b ≤ c → tree rows a c ≡ append (tree rows a b) (tree rows b c)
cut {a = a} {b = b} g w h = cut_by (b - a) (omega arith) g w h

-- in preorder: the rows after the first are its children, then the siblings after it
pub tree_after : {rows : List ℕ} {from to : ℕ} → Nested rows from to → from < to → tree rows (from + 1) to ≡ append (tree rows (from + 1) (end_at rows from)) (tree rows (end_at rows from) to)
tree_after {from = from} g h = cut (children g h) (later g (from + 1) (omega arith) (omega arith)) (ends_within g h)

-- from the next sibling on
pub tree_next : {rows : List ℕ} {from to : ℕ} (n : ℕ) → Nested rows from to → n ≡ next_of rows from to → tree rows n to ≡ rest (tree rows from to)
unfolding rest
tree_next {rows} {from} {to} n g e = go (ltb from to) refl
  where
    go : (b : Bool) → ltb from to ≡ b → tree rows n to ≡ rest (tree rows from to)
    go true q = let v : n ≡ end_at rows from = e ∙ rw q in rw (v, tree_some g (ltb-true from to q))
    go false q = let v : n ≡ to = e ∙ rw q in rw (v, tree_none rows from to (ltb-false from to q), tree_none rows to to (omega arith))
