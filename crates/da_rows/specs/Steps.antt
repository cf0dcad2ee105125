-- How the code goes through the walk of da's Walk over rows of two lent tables: what it sees of them, what evaluating an expression comes
-- to, what a row is to the statement that holds it, and what the arms of a case and the body of a loop come to. Definitions only.
use Rattle.std.specs.Prelude.{Bool, true, false, cond, ◌&&◌, not, List, [], ℕ, ◌+◌, eqb, ltb, Result, Ok, Err}
use Rattle.table.specs.declared.Siblings.{Siblings}
use Rattle.table.specs.Rows.{kind_at, side_at, lo_at, hi_at, end_at, Forest, tree}
use Rattle.table.specs.Fold.{nth, tail}
use Rattle.kinds.specs.declared.StmtClass.{StmtClass}
use Rattle.kinds.specs.declared.StmtClass.TheVariants as K
use Rattle.kinds.specs.Named.{stmt_class}
use Rattle.sheet_record.specs.Records.{marks_of}
use Rattle.expr_effect.specs.Law.{ExprFacts, expr_facts, no_facts}
use Rattle.loops.specs.Escape.{cannot_escapes}
use Rattle.da.specs.Walk.{DaCtx, StmtRow, held_facts, stmt_row, expr_reads, expr_out_writes, gains_when, falls_written}
use Rattle.da.specs.declared.DaGiveUp.{DaGiveUp}
use Rattle.da.specs.declared.Reason.{Reason}
use Rattle.da.specs.declared.Reason.TheVariants.{ReadUnwritten}
use Rattle.da.specs.Outcome.{DaResult, State, is_written, gains, reason_number}
use Rattle.da.specs.declared.DaOut.{DaOut}
use Rattle.da.specs.declared.DaOut.TheVariants.{Falls}
use Rattle.da_rows.specs.declared.Context.{Context}
use Rattle.da_rows.specs.declared.States.{States}
use Rattle.da_rows.specs.declared.Part.{Part}
use Rattle.da_rows.specs.declared.Part.TheVariants.{Match, Default, Absent, Statement}

-- DaCtx from what a walk is given; whether time can advance has been asked before, of the statement that holds all others
abbrev pub untimed : Context → DaCtx
untimed ctx = record { local = ctx.local; marks = marks_of ctx.names.now; sole = ctx.sole; timed = false }

-- row i, which ends at `end`, as da_stmt sees it
abbrev pub stmt_at : DaCtx → List ℕ → ℕ → ℕ → StmtRow
stmt_at ctx rows i end = stmt_row ctx (kind_at rows i) (side_at rows i) (lo_at rows i) (hi_at rows i) (tree rows (i + 1) end)

-- the facts of the rows from `from` up to `to`, as expressions: each sibling's
abbrev pub facts_in : ℕ → List ℕ → ℕ → ℕ → List ExprFacts
facts_in x rows from to = expr_facts x (tree rows from to)

-- the first sibling's
abbrev pub fact_in : ℕ → List ℕ → ℕ → ℕ → ExprFacts
fact_in x rows from to = nth no_facts 0 (facts_in x rows from to)

-- the same of a part of a table
abbrev pub facts_of : ℕ → Siblings → List ExprFacts
facts_of x rows = facts_in x rows.table.now rows.from rows.to

abbrev pub fact_of : ℕ → Siblings → ExprFacts
fact_of x rows = fact_in x rows.table.now rows.from rows.to

-- the facts of what the first of them holds
abbrev pub held_in : ℕ → List ℕ → ℕ → ℕ → List ExprFacts
held_in x rows from to = nth [] 0 (held_facts x (tree rows from to))

abbrev pub held_of : ℕ → Siblings → List ExprFacts
held_of x rows = held_in x rows.table.now rows.from rows.to

-- the span of the first of them, its lower end first; zeros where there is none
abbrev pub first_lo : List ℕ → ℕ → ℕ → ℕ
first_lo rows from to = cond (ltb from to) (lo_at rows from) 0

-- and its upper end
abbrev pub first_hi : List ℕ → ℕ → ℕ → ℕ
first_hi rows from to = cond (ltb from to) (hi_at rows from) 0

-- reason 2 there: "reason 2 carries the expression's span"
abbrev pub read_in : Siblings → DaGiveUp
read_in rows = record { reason = reason_number ReadUnwritten; lo = first_lo rows.table.now rows.from rows.to; hi = first_hi rows.table.now rows.from rows.to }

-- the states after an expression whose value tells nothing
abbrev pub always : State → States
always written = record { after = written; when_true = written; when_false = written }

-- the states after an expression, from this one: "let after = assigned || expr_out_writes(e, ..)", "after || expr_writes_when(e, ..,
-- true)" and "... false)"
abbrev pub states_after : ExprFacts → State → States
states_after e a = record {
  after = gains (expr_out_writes e) a;
  when_true = gains_when e true (gains (expr_out_writes e) a);
  when_false = gains_when e false (gains (expr_out_writes e) a);
}

-- "if !after && expr_reads(e, ..) { return Err(read(e)); }", or those states
unfoldable pub evaluation : ExprFacts → State → Result States DaGiveUp
evaluation e a =
    cond (not (is_written (gains (expr_out_writes e) a)) && expr_reads e)
    (Err (record { reason = reason_number ReadUnwritten; lo = e.lo; hi = e.hi }))
    (Ok (states_after e a))

-- what follows an evaluation
abbrev pub onward : Result States DaGiveUp → (States → DaResult) → DaResult
onward (Ok states) next = next states
onward (Err stop) next = Err stop

-- a give-up at row i: "the others [carry] the statement's" span
abbrev pub give_up_at : List ℕ → ℕ → Reason → DaGiveUp
give_up_at rows i reason = record { reason = reason_number reason; lo = lo_at rows i; hi = hi_at rows i }

-- ast::CaseItem::Match, ast::CaseItem::Default, "an absent `else`", or a statement
abbrev pub part_of_class : StmtClass → Part
part_of_class K.Match = Match
part_of_class K.Default = Default
part_of_class K.Absent = Absent
part_of_class K.NoStmt = Absent
part_of_class K.Decl = Statement
part_of_class K.Blocking = Statement
part_of_class K.Nonblocking = Statement
part_of_class K.If = Statement
part_of_class K.Return = Statement
part_of_class K.Case = Statement
part_of_class K.For = Statement
part_of_class K.While = Statement
part_of_class K.Repeat = Statement
part_of_class K.Forever = Statement
part_of_class K.Block = Statement
part_of_class K.Fork = Statement
part_of_class K.Systask = Statement
part_of_class K.Task = Statement
part_of_class K.Delayctrl = Statement
part_of_class K.Eventctrl = Statement
part_of_class K.Wait = Statement
part_of_class K.Disable = Statement
part_of_class K.Null = Statement
part_of_class K.Unmodelled = Statement

-- of row i
abbrev pub part_of_row : List ℕ → ℕ → Part
part_of_row rows i = part_of_class (stmt_class (kind_at rows i))

-- of the first of the rows from `from` up to `to`
abbrev pub part_in : List ℕ → ℕ → ℕ → Part
part_in rows from to = cond (ltb from to) (part_of_row rows from) Absent

abbrev pub part_of : Siblings → Part
part_of rows = part_in rows.table.now rows.from rows.to

-- "default S": the arm of a case that a default is
abbrev pub is_default_part : Part → Bool
is_default_part Match = false
is_default_part Default = true
is_default_part Absent = false
is_default_part Statement = false

-- "? may be `none`": no statement stands there
abbrev pub is_absent_part : Part → Bool
is_absent_part Match = false
is_absent_part Default = false
is_absent_part Absent = true
is_absent_part Statement = false

-- "match S E*(labels)": the rows after the body are the labels
abbrev pub labels_of : Part → List ExprFacts → List ExprFacts
labels_of Match es = tail es
labels_of Default es = []
labels_of Absent es = []
labels_of Statement es = []

-- the labels of the first of the rows from `from` up to `to`
abbrev pub labels_in : ℕ → List ℕ → ℕ → ℕ → List ExprFacts
labels_in x rows from to = labels_of (part_in rows from to) (facts_in x rows (from + 1) (end_at rows from))

abbrev pub first_labels : ℕ → Siblings → List ExprFacts
first_labels x rows = labels_in x rows.table.now rows.from rows.to

-- "Some(m) if has_default && !after => Ok(m), _ => Ok(DaOut::Falls(after))"
abbrev pub case_out : Bool → State → DaOut → DaOut
case_out has_default after all = cond (has_default && not (is_written after)) all (Falls after)

-- loop_body_assigns, of a loop with this side number and its body, the first of these siblings
abbrev pub body_assigns : ℕ → Forest → DaOut → Bool
body_assigns side body out = falls_written out && (nth true 0 (cannot_escapes body) && eqb side 1)
