-- What the code keeps of a row's line between its fields and its row.
use Rattle.std.specs.Prelude.{Option, Some, None, Result, Err}
use Rattle.refusals.specs.declared.Refusal.{Refusal}
use Rattle.refusals.specs.declared.Refusal.TheVariants.{WrongLine}
use Rattle.lines.specs.declared.Line.{Line}
use Rattle.lines.specs.declared.Row.{Row}
use Rattle.lines.specs.declared.Parts.{Parts}
use Rattle.lines.specs.Lines.{row_of}

-- the row of five fields
unfoldable pub parts_row : Parts → Result (Line Row) Refusal
parts_row p = row_of p.side p.lo p.hi p.end p.kind p.next

unfoldable pub split_row : Option Parts → Result (Line Row) Refusal
split_row None = Err WrongLine
split_row (Some p) = parts_row p
