-- Asking: document 01, "What the caller gets", refusals 22 and 23, and the order of asking. Definitions only.
use Rattle.std.specs.Prelude.{ℕ, cond, List, eqb, length, Ok, Err}
use Rattle.table.specs.Rows.{Forest, tree}
use Rattle.checks.specs.Checks.{Checked, checked_rows}
use Rattle.sheet_record.specs.declared.Record.{Record}
use Rattle.sheet_record.specs.Records.{record_held, marks_fit, marks_of}
use Rattle.refusals.specs.declared.Refusal.TheVariants.{WrongRecord, WrongTable}
use Rattle.da.specs.declared.DaOut.{DaOut}
use Rattle.da.specs.declared.DaOut.TheVariants as O
use Rattle.da.specs.Outcome.{DaResult, State}
use Rattle.da.specs.Walk.{da_ctx, da_stmt}
use Rattle.answers.specs.declared.Answer.{Answer}
use Rattle.answers.specs.declared.Answer.TheVariants.{Falls, Jumps, GivesUp, Refused}

-- "23: a row number in the table breaks 5 to 9, a segment names no listed name"
abbrev pub table_checked : Record → List ℕ → Checked
table_checked r rows = checked_rows rows r.rows r.names

-- the tree of a record's rows
abbrev pub row_tree : Record → List ℕ → Forest
row_tree r rows = tree rows 0 r.rows

-- where the walk starts: "falls with written 0 or 1", and start the same
abbrev pub start_of : Record → State
start_of r = eqb r.start 1

-- da_stmt of row 0; sole 1 is that this block is the only writer of the net
abbrev pub walked : Record → List ℕ → List ℕ → DaResult
walked r rows names = da_stmt (da_ctx r.local (marks_of names) (eqb r.sole 1)) (row_tree r rows) (start_of r)

-- "Asking gives one of: falls with written 0 or 1; jumps; give-up with reason, lo, hi"
abbrev pub out_answer : DaOut → Answer
out_answer (O.Falls written) = Falls written
out_answer O.Jumps = Jumps

-- "A give-up ends every walk above it, unchanged", here too
abbrev pub walk_answer : DaResult → Answer
walk_answer (Ok out) = out_answer out
walk_answer (Err stop) = GivesUp stop

-- "23 (ask; place is the row)", or what follows
abbrev pub after_table : Checked → Answer → Answer
after_table (Ok u) next = next
after_table (Err refused) next = Refused WrongTable refused.place

-- the checks of the rows, then the walk
abbrev pub table_answer : Record → List ℕ → List ℕ → Answer
table_answer r rows names = after_table (table_checked r rows) (walk_answer (walked r rows names))

-- "In asking, 22, then marks, then fields, ends and depth, children", and then the walk
unfoldable pub ask_of : Record → List ℕ → List ℕ → Answer
ask_of r rows names =
    cond (record_held r (length rows) (length names))
    (cond (marks_fit names r.names) (table_answer r rows names) (Refused WrongTable 0))
    (Refused WrongRecord 0)
