-- What `true` means to whoever calls from C: demand 3, of the bytes and of the tables. Definitions only.
use Rattle.std.specs.Prelude.{ℕ, ◌≡◌, Bool, true, List}
use Rattle.soundness.specs.Demand3.{SafePaths}
use Rattle.sheet_record.specs.declared.Record.{Record}
use Rattle.sheet_record.specs.Records.{marks_of}
use Rattle.ask.specs.Ask.{row_tree}
use Rattle.verdict.specs.Sheets.{sheet_of}
use Rattle.verdict.specs.Meaning.{SafeSheet}

-- a sheet with start 0: provided the premises, on every path of its tree, in whatever order a tool takes, every read of its local has a
-- whole write before it
pub record TrueMeans (s : List ℕ) (accepted : Bool) : Type 0 where
  pub safe : accepted ≡ true → (sheet_of s).start ≡ 0 → SafeSheet s

-- the same of the tree that a record and two tables hold
pub record AskedTrueMeans (r : Record) (rows names : List ℕ) (accepted : Bool) : Type 0 where
  pub safe : accepted ≡ true → r.start ≡ 0 → SafePaths r.local (marks_of names) (row_tree r rows)
