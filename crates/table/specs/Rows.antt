-- The row table and the tree that its rows spell: document 01, "The sheet". Definitions only.
use Rattle.std.specs.Prelude.{cond, List, ℕ, zero, suc, ◌+◌, ◌-◌, ◌*◌, ◌≤◌, ◌<◌, ltb, length, get_or}

-- "row=kind side lo hi end": five numbers a row, in this order; rows are numbered from 0
abbrev pub kind_at : List ℕ → ℕ → ℕ
kind_at rows i = get_or rows (5 * i) 0

abbrev pub side_at : List ℕ → ℕ → ℕ
side_at rows i = get_or rows (5 * i + 1) 0

abbrev pub lo_at : List ℕ → ℕ → ℕ
lo_at rows i = get_or rows (5 * i + 2) 0

abbrev pub hi_at : List ℕ → ℕ → ℕ
hi_at rows i = get_or rows (5 * i + 3) 0

abbrev pub end_at : List ℕ → ℕ → ℕ
end_at rows i = get_or rows (5 * i + 4) 0

-- siblings: a row with its children, and the siblings after it
pub data Forest : Type 0 where
  nil : Forest
  node : (kind side lo hi : ℕ) → (children others : Forest) → Forest

-- "Rows stand in preorder; end is the number after the row's last descendant": the siblings that the rows from `from` up
-- to `to` spell. The first argument bounds how far the reading goes; `to - from` is enough where the ends nest.
unfoldable pub tree_by : ℕ → List ℕ → ℕ → ℕ → Forest
tree_by zero rows from to = nil
tree_by (suc n) rows from to =
    cond (ltb from to)
    (node (kind_at rows from) (side_at rows from) (lo_at rows from) (hi_at rows from)
    (tree_by n rows (from + 1) (end_at rows from))
    (tree_by n rows (end_at rows from) to))
    nil

unfoldable pub tree : List ℕ → ℕ → ℕ → Forest
tree rows from to = tree_by (to - from) rows from to

-- The premise of every law of `tree`, on the ends of the range alone: the rows from `from` up to `to` are whole rows of
-- the table, each ends past itself and within the range, and within the row that it stands in.
pub record Nested (rows : List ℕ) (from to : ℕ) : Type 0 where
  pub ordered : from ≤ to
  pub held : 5 * to ≤ length rows
  pub after : (i : ℕ) → from ≤ i → i < to → i < end_at rows i
  pub within : (i : ℕ) → from ≤ i → i < to → end_at rows i ≤ to
  pub nests : (i j : ℕ) → from ≤ i → i < to → i < j → j < end_at rows i → end_at rows j ≤ end_at rows i

-- the siblings of the first, then those of the second
unfoldable pub append : Forest → Forest → Forest
append nil b = b
append (node k s lo hi cs others) b = node k s lo hi cs (append others b)

-- the siblings after the first
unfoldable pub rest : Forest → Forest
rest nil = nil
rest (node k s lo hi cs others) = others
