-- What a sheet's bytes say of its paths: document 01, "The sheet". It is read from the lines alone, and no table that loading fills is
-- asked. Definitions only.
use Rattle.std.specs.Prelude.{ℕ, Bool, false, ◌||◌, List}
use Rattle.table.specs.Rows.{Forest, nil, tree}
use Rattle.kinds.specs.Kinds.{bytes}
use Rattle.text.specs.Fields.{starts_with}
use Rattle.sheet_record.specs.Records.{text_at}
use Rattle.sheet.specs.Load.{Parsed, parsed, wrong, lines_of}

-- the local, the start, which names are loop jumps, and the tree of the rows
pub record Sheet : Type 0 where
  pub local : ℕ
  pub start : ℕ
  pub marks : ℕ → Bool
  pub tree : Forest

-- "jump mark: 1 if it begins `$break$` or `$continue$`"
abbrev pub is_jump_name : List ℕ → Bool
is_jump_name name = starts_with (bytes "$break$") name || starts_with (bytes "$continue$") name

-- of lines that are right, of which the names' numbers give each name's place in the bytes; of others there is no tree
abbrev pub sheet_by : List ℕ → Parsed → Sheet
sheet_by s (parsed r names rows) = record { local = r.local; start = r.start; marks = λ i. is_jump_name (text_at s names i); tree = tree rows 0 r.rows }
sheet_by s (wrong refusal line) = record { local = 0; start = 0; marks = λ i. false; tree = nil }

-- of any bytes
unfoldable pub sheet_of : List ℕ → Sheet
sheet_of s = sheet_by s (lines_of s)
