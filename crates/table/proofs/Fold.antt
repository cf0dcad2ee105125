-- The laws of every fold over the rows of a range, from those of `tree`: no rows, a first row, a cut between siblings. Two folds are related
-- where their rules keep the relation. The inductions are on the tree.
use mathlib.Core.Path.{◌≡◌, refl, ◌∙◌}
use mathlib.Core.Bool.{Bool, true, false}
use lib.Dec.{ltb}
use borrow.Author.Tests.{ltb-true}
use mathlib.Core.List.{List, [], ◌∷◌, ◌++◌}
use Prim.Native.Nat.{ℕ, zero, suc, ◌+◌, ◌≤◌, ◌<◌}
use Rattle.table.specs.Rows.{kind_at, side_at, lo_at, hi_at, end_at, Forest, nil, node, tree, Nested, append, rest}
use Rattle.table.specs.Steps.{next_of}
use Rattle.table.specs.Fold.{Alg, fold, nth, tail, Pairwise, no_pair, pair}
use Rattle.table.proofs.Ranges.{ends_after, alone}
use Rattle.table.proofs.Tree.{tree_none, tree_some, tree_after, tree_next, cut}

module _ {A : Type 0} (alg : Alg A) where
  -- no rows, no attributes
  pub fold_none : (rows : List ℕ) (from to : ℕ) → to ≤ from → fold alg (tree rows from to) ≡ []
  unfolding fold
  fold_none rows from to h = rw (tree_none rows from to h)

  -- the first row's attribute, then those of the rows after it
  pub fold_some : {rows : List ℕ} {from to : ℕ}
      → Nested rows from to
      → from < to
      → fold alg (tree rows from to)
      ≡ alg (kind_at rows from) (side_at rows from) (lo_at rows from) (hi_at rows from) (tree rows (from + 1) (end_at rows from)) (fold alg (tree rows (from + 1) (end_at rows from))) ∷ fold alg (tree rows (end_at rows from) to)
  unfolding fold
  fold_some g h = rw (tree_some g h)

  -- the first, then the rest: a step of a loop over siblings
  pub fold_step : {rows : List ℕ} {from to n : ℕ} (d : A) → Nested rows from to → from < to → n ≡ end_at rows from → fold alg (tree rows from to) ≡ nth d 0 (fold alg (tree rows from to)) ∷ fold alg (tree rows n to)
  fold_step d g h e = rw (e, fold_some g h)

  -- a row's attribute does not depend on the rows after it
  pub fold_alone : {rows : List ℕ} {from to : ℕ} (d : A) → Nested rows from to → from < to → nth d 0 (fold alg (tree rows from (end_at rows from))) ≡ nth d 0 (fold alg (tree rows from to))
  fold_alone d g h = rw (fold_some (alone g h) (ends_after g h), fold_some g h)

  -- nor does that of a first row that there may be, in the range up to the next one
  pub fold_first : {rows : List ℕ} {from to n : ℕ} (d : A) → Nested rows from to → n ≡ next_of rows from to → nth d 0 (fold alg (tree rows from n)) ≡ nth d 0 (fold alg (tree rows from to))
  fold_first {rows} {from} {to} {n} d g e = go (ltb from to) refl
    where
      go : (b : Bool) → ltb from to ≡ b → nth d 0 (fold alg (tree rows from n)) ≡ nth d 0 (fold alg (tree rows from to))
      go true q = let v : n ≡ end_at rows from = e ∙ rw q in rw v (fold_alone d g (ltb-true from to q))
      go false q = let v : n ≡ to = e ∙ rw q in rw v

  fold_rest : (f : Forest) → fold alg (rest f) ≡ tail (fold alg f)
  unfolding fold rest
  fold_rest nil = refl
  fold_rest (node k s lo hi cs others) = refl

  -- from the next sibling on
  pub fold_tail : {rows : List ℕ} {from to n : ℕ} → Nested rows from to → n ≡ next_of rows from to → fold alg (tree rows n to) ≡ tail (fold alg (tree rows from to))
  fold_tail {rows} {from} {to} {n} g e = rw (tree_next n g e) (fold_rest (tree rows from to))

  -- a later sibling's attribute
  pub fold_next : {rows : List ℕ} {from to n : ℕ} (d : A) (i : ℕ) → Nested rows from to → n ≡ next_of rows from to → nth d i (fold alg (tree rows n to)) ≡ nth d (suc i) (fold alg (tree rows from to))
  fold_next {rows} {from} {to} {n} d i g e = rw (fold_tail g e) (nth_tail (fold alg (tree rows from to)))
    where
      nth_tail : (xs : List A) → nth d i (tail xs) ≡ nth d (suc i) xs
      nth_tail [] = refl
      nth_tail (x ∷ xs) = refl

  fold_append : (a b : Forest) → fold alg (append a b) ≡ fold alg a ++ fold alg b
  unfolding fold append
  fold_append nil b = refl
  fold_append (node k s lo hi cs others) b = rw (fold_append others b)

  -- a longer range is the shorter one followed by the rest
  pub fold_cut : {rows : List ℕ} {a b c : ℕ} → Nested rows a b → Nested rows a c → b ≤ c → fold alg (tree rows a c) ≡ fold alg (tree rows a b) ++ fold alg (tree rows b c)
  fold_cut {rows} {a} {b} {c} g w h = rw (cut g w h) (fold_append (tree rows a b) (tree rows b c))

  -- in preorder: the attributes of the rows after the first, of which those of its children come first
  pub fold_after : {rows : List ℕ} {from to : ℕ} → Nested rows from to → from < to → fold alg (tree rows (from + 1) to) ≡ fold alg (tree rows (from + 1) (end_at rows from)) ++ fold alg (tree rows (end_at rows from) to)
  fold_after {rows} {from} {to} g h = rw (tree_after g h) (fold_append (tree rows (from + 1) (end_at rows from)) (tree rows (end_at rows from) to))

-- two attributes are related at every row, if they are at each row whose children's are
pub fold_related : {A B : Type 0} {R : A → B → Type 0} (one : Alg A) (two : Alg B)
    → ((k s lo hi : ℕ) (cs : Forest) → Pairwise R (fold one cs) (fold two cs) → R (one k s lo hi cs (fold one cs)) (two k s lo hi cs (fold two cs)))
    → (f : Forest)
    → Pairwise R (fold one f) (fold two f)
unfolding fold
fold_related one two step nil = no_pair
fold_related one two step (node k s lo hi cs others) =
    pair (step k s lo hi cs (fold_related one two step cs)) (fold_related one two step others)

-- what is related place by place, and by default, is related at every place
pub related_at : {A B : Type 0} {R : A → B → Type 0} (d : A) (e : B) {xs : List A} {ys : List B} (n : ℕ) → R d e → Pairwise R xs ys → R (nth d n xs) (nth e n ys)
related_at d e n r no_pair = r
related_at d e zero r (pair h hs) = h
related_at d e (suc n) r (pair h hs) = related_at d e n r hs

-- and at the places after the first
pub related_tail : {A B : Type 0} {R : A → B → Type 0} {xs : List A} {ys : List B} → Pairwise R xs ys → Pairwise R (tail xs) (tail ys)
related_tail no_pair = no_pair
related_tail (pair h hs) = hs
