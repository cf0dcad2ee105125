-- What da_stmt asks of its rows. Definitions only.
use Rattle.std.specs.Prelude.{◌≡◌, true, List, ℕ, ◌<◌}
use Rattle.table.specs.Rows.{kind_at, Nested}
use Rattle.kinds.specs.Kinds.{S, in_class}

-- the first of the rows from `from` up to `to` is there, and a statement
pub record StatementIn (rows : List ℕ) (from to : ℕ) : Type 0 where
  pub nested : Nested rows from to
  pub some : from < to
  pub statement : in_class S (kind_at rows from) ≡ true
