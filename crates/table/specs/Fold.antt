-- The one fold over a tree: a definition by recursion over rows is a use of it, so the laws of proofs/Fold hold for it.
use Rattle.std.specs.Prelude.{List, [], ◌∷◌, ℕ, zero, suc}
use Rattle.table.specs.Rows.{Forest, nil, node}

-- what a row's attribute is made of: kind, side, lo, hi, the children, and the children's attributes
abbrev pub Alg : Type 0 → Type 0
Alg A = ℕ → ℕ → ℕ → ℕ → Forest → List A → A

-- one attribute for each sibling
unfoldable pub fold : {A : Type 0} → Alg A → Forest → List A
fold alg nil = []
fold alg (node k s lo hi cs others) = alg k s lo hi cs (fold alg cs) ∷ fold alg others

-- the attribute of the n-th sibling, or d where there is none
abbrev pub nth {ℓ} : {A : Type ℓ} → A → ℕ → List A → A
nth d n [] = d
nth d zero (x ∷ xs) = x
nth d (suc n) (x ∷ xs) = nth d n xs

-- the attributes of the siblings after the first
abbrev pub tail {ℓ} : {A : Type ℓ} → List A → List A
tail [] = []
tail (x ∷ xs) = xs

-- two lists of one length, related place by place
pub data Pairwise {A B : Type 0} (R : A → B → Type 0) : List A → List B → Type 0 where
  no_pair : Pairwise R [] []
  pair : {x : A} {y : B} {xs : List A} {ys : List B} → R x y → Pairwise R xs ys → Pairwise R (x ∷ xs) (y ∷ ys)
