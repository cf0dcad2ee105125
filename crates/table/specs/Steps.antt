-- What the calls that step from row to row tell: where the next row stands, and that what they step to nests.
use Rattle.std.specs.Prelude.{◌≡◌, cond, List, ℕ, ◌+◌, ◌≤◌, ◌<◌, ltb}
use Rattle.table.specs.Rows.{end_at, Nested}

-- the row after row i and its descendants, or `to` where the range holds no row i
abbrev pub next_of : List ℕ → ℕ → ℕ → ℕ
next_of rows i to = cond (ltb i to) (end_at rows i) to

-- what `row_end` tells of the end of row i, the first of the rows i up to `to`
pub record RowEnd (rows : List ℕ) (i to r : ℕ) : Type 0 where
  pub is : r ≡ end_at rows i
  pub after : i < r
  pub within : r ≤ to
  pub alone : Nested rows i r
  pub children : Nested rows (i + 1) r
  pub others : Nested rows r to

-- row i with its descendants is the rows from i up to `end`
pub record RowAlone (rows : List ℕ) (i end : ℕ) : Type 0 where
  pub is : end ≡ end_at rows i
  pub after : i < end
  pub alone : Nested rows i end
  pub children : Nested rows (i + 1) end

-- what `next_at` tells of the sibling after the first of the rows i up to `to`, if there is a first
pub record NextRow (rows : List ℕ) (i to r : ℕ) : Type 0 where
  pub is : r ≡ next_of rows i to
  pub after : i ≤ r
  pub within : r ≤ to
  pub alone : Nested rows i r
  pub others : Nested rows r to
