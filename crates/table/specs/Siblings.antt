-- What the code's parts of a table spell, and how the part that a method answers stands to the one that it is asked of. Definitions only.
use Rattle.std.specs.Prelude.{◌≡◌, ◌+◌, ◌<◌}
use Rattle.table.specs.declared.Siblings.{Siblings}
use Rattle.table.specs.declared.Node.{Node}
use Rattle.table.specs.Rows.{Forest, tree, end_at}
use Rattle.table.specs.Steps.{next_of}

-- the siblings of a part
abbrev pub forest : Siblings → Forest
forest rows = tree rows.table.now rows.from rows.to

-- a row is the first of these
pub record First (rows : Siblings) (row : Node) : Type 0 where
  pub some : rows.from < rows.to
  pub same : row.table.now ≡ rows.table.now
  pub starts : row.at ≡ rows.from
  pub ends : row.end ≡ end_at rows.table.now rows.from

-- these are what a row holds
pub record Children (row : Node) (rows : Siblings) : Type 0 where
  pub same : rows.table.now ≡ row.table.now
  pub starts : rows.from ≡ row.at + 1
  pub ends : rows.to ≡ row.end

-- this is a row alone
pub record Alone (row : Node) (rows : Siblings) : Type 0 where
  pub same : rows.table.now ≡ row.table.now
  pub starts : rows.from ≡ row.at
  pub ends : rows.to ≡ row.end

-- the second are the first without their first row, and without what that holds
pub record Rest (rows rest : Siblings) : Type 0 where
  pub same : rest.table.now ≡ rows.table.now
  pub starts : rest.from ≡ next_of rows.table.now rows.from rows.to
  pub ends : rest.to ≡ rows.to

-- the second are the first row of the first, alone, or none
pub record Head (rows head : Siblings) : Type 0 where
  pub same : head.table.now ≡ rows.table.now
  pub starts : head.from ≡ rows.from
  pub ends : head.to ≡ next_of rows.table.now rows.from rows.to
