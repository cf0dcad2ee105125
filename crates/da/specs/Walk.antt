-- da_stmt: da/mod.rs and loop_body_assigns of da/loops.rs, followed line by line, a row at a time. Definitions only. The nine reasons
-- have document 01's numbers, and "2 carries the expression's span, the others the statement's".
use Rattle.std.specs.Prelude.{List, [], ◌∷◌, Bool, true, false, cond, ◌&&◌, not, ℕ, eqb, Ok}
use Rattle.table.specs.Rows.{Forest, nil, node}
use Rattle.table.specs.Fold.{Alg, fold, nth, tail}
use Rattle.kinds.specs.declared.StmtClass.{StmtClass}
use Rattle.kinds.specs.declared.StmtClass.TheVariants.{Absent, Match, Default, Decl, Blocking, Nonblocking, If, Return, Case, For, While, Repeat}
use Rattle.kinds.specs.declared.StmtClass.TheVariants.{Forever, Block, Fork, Systask, Task, Delayctrl, Eventctrl, Wait, Disable, Null, Unmodelled, NoStmt}
use Rattle.kinds.specs.Named.{stmt_class, task_effect, has_default}
use Rattle.reads.specs.PathRows.{is_loop_jump}
use Rattle.reads.specs.NoRef.{stmt_no_ref}
use Rattle.effect_rules.specs.declared.ExprDa.{ExprDa}
use Rattle.effect_rules.specs.declared.ExprDa.TheVariants.{Clean, Writes, Reads}
use Rattle.effect_rules.specs.Rules.{writes_when}
use Rattle.expr_effect.specs.Law.{ExprFacts, expr_facts, no_facts}
use Rattle.loops.specs.Escape.{cannot_escapes}
use Rattle.loops.specs.Time.{advances_at, advances}
use Rattle.da.specs.declared.DaOut.{DaOut}
use Rattle.da.specs.declared.DaOut.TheVariants.{Falls, Jumps}
use Rattle.da.specs.declared.CallEffect.{CallEffect}
use Rattle.da.specs.declared.CallEffect.TheVariants.{Inert, Writes as CallWrites, Reads as CallReads, Unknown}
use Rattle.da.specs.declared.Reason.{Reason}
use Rattle.da.specs.declared.Reason.TheVariants.{SharedNet, ReadUnwritten, EventReads, PartWritten, Forks, TaskReads, TaskUnknown, ControlReads, NotModelled}
use Rattle.da.specs.Outcome.{DaResult, State, written, is_written, gains, state, merge, ◌▷◌, go_on, give_up}

-- DaCtx, "unchanged from top to bottom", with the local. The closures of the Rust are side numbers here.
pub record DaCtx : Type 0 where
  pub local : ℕ
  -- the names that are marked as loop jumps
  pub marks : ℕ → Bool
  -- "Is this block the ONLY writer of the flattened net?"
  pub sole : Bool
  -- whether a statement gives up where time can advance; in the Rust this is `!sole`
  pub timed : Bool

-- the Rust's context
abbrev pub da_ctx : ℕ → (ℕ → Bool) → Bool → DaCtx
da_ctx x marks sole = record { local = x; marks = marks; sole = sole; timed = not sole }

-- what a row is walked to
pub record Walk : Type 0 where
  -- da_stmt of the row, from this state
  pub walk : State → DaResult
  -- of an arm: its labels, and whether it is a default
  pub labels : List ExprFacts
  pub is_default : Bool
  -- whether there is no statement here
  pub is_absent : Bool

-- what da_stmt asks of a row beside its children
pub record StmtRow : Type 0 where
  pub side : ℕ
  pub lo : ℕ
  pub hi : ℕ
  -- stmt_advances_time, stmt_no_ref and is_loop_jump of the row
  pub advances : Bool
  pub no_ref : Bool
  pub is_jump : Bool
  -- stmt_cannot_escape of each child
  pub cannot_escape : List Bool

-- Expressions

-- "expr_da(e, name, out_writes) == ExprDa::Reads"
abbrev pub is_reads : ExprDa → Bool
is_reads Reads = true
is_reads Writes = false
is_reads Clean = false

-- "expr_da(e, name, out_writes) == ExprDa::Writes"
abbrev pub is_writes : ExprDa → Bool
is_writes Writes = true
is_writes Reads = false
is_writes Clean = false

-- expr_reads
abbrev pub expr_reads : ExprFacts → Bool
expr_reads e = is_reads e.effects.effect

-- expr_out_writes
abbrev pub expr_out_writes : ExprFacts → Bool
expr_out_writes e = is_writes e.effects.effect

-- "if !assigned && expr_reads(e, ..) { return Err(read(e)); }": reason 2, "it is read here before any write on this path"
abbrev pub unless_read : ExprFacts → State → DaResult → DaResult
unless_read e a next = cond (not (is_written a) && expr_reads e) (give_up ReadUnwritten e.lo e.hi) next

-- ".iter().find(|e| expr_reads(e, ..))": the first that reads
abbrev pub unless_one_read : List ExprFacts → State → DaResult → DaResult
unless_one_read [] a next = next
unless_one_read (e ∷ es) a next = unless_read e a (unless_one_read es a next)

-- "let after = assigned || expr_out_writes(e, ..);", and the read is asked of `after`
abbrev pub evaluated : ExprFacts → State → (State → DaResult) → DaResult
evaluated e a next = unless_read e (gains (expr_out_writes e) a) (next (gains (expr_out_writes e) a))

-- "after || expr_writes_when(e, .., want)"
abbrev pub gains_when : ExprFacts → Bool → State → State
gains_when e want after = gains (writes_when e.effects want) after

-- Statements

-- a row that is no arm
abbrev pub stmt : (State → DaResult) → Walk
stmt walk = record { walk = walk; labels = []; is_default = false; is_absent = false }

-- no statement: "an absent `else`", "`Wait`'s body may be absent"; it also stands where a child is missing
abbrev pub no_walk : Walk
no_walk = record { walk = λ a. Ok (Falls a); labels = []; is_default = false; is_absent = true }

-- the end of S::Blocking: "A clean WHOLE-var write (`name = …`) makes it definitely assigned", "this assignment writes only PART of it"
abbrev pub assigned : Bool → State → ℕ → ℕ → DaResult
assigned whole a lo hi = cond whole (Ok (Falls written)) (cond (is_written a) (Ok (Falls a)) (give_up PartWritten lo hi))

-- S::Blocking from its right side on: "Claimed only when the LVALUE cannot itself reference `name`"
abbrev pub from_right : ExprFacts → ExprFacts → ℕ → ℕ → State → DaResult
from_right target right lo hi a =
    unless_read right a
    (assigned target.plain (gains (not target.refers && expr_out_writes right) a) lo hi)

-- from its event on: "the event control on this assignment reads it before any write on this path"
abbrev pub from_event : ExprFacts → ExprFacts → ExprFacts → ℕ → ℕ → State → DaResult
from_event event target right lo hi a =
    cond (not (is_written a) && event.refers) (give_up EventReads lo hi)
    (from_right target right lo hi a)

-- S::Blocking: delay, event, right side, target
abbrev pub blocking : StmtRow → List ExprFacts → ExprFacts → ExprFacts → ExprFacts → State → DaResult
blocking r delays event target right a = unless_one_read delays a (from_event event target right r.lo r.hi a)

-- S::NonBlocking: "the same hazard as suspending", then the right side
abbrev pub nonblocking : DaCtx → StmtRow → ExprFacts → State → DaResult
nonblocking ctx r right a =
    cond (not ctx.sole) (give_up SharedNet r.lo r.hi)
    (unless_read right a
    (Ok (Falls (gains (expr_out_writes right) a))))

-- the else of S::If: "The join state is `after`, NOT `in_else`", where it is absent
abbrev pub else_from : Walk → State → State → DaResult
else_from e after in_else = cond e.is_absent (Ok (Falls after)) (e.walk in_else)

-- S::If: "a branch is entered only for a particular VALUE of the cond"
abbrev pub if_else : ExprFacts → Walk → Walk → State → DaResult
if_else c t e a =
    evaluated c a λ after.
    t.walk (gains_when c true after) ▷ λ a_then.
    else_from e after (gains_when c false after) ▷ λ a_else.
    Ok (merge a_then a_else)

-- S::Block: initialisers, then statements
abbrev pub block : List Walk → State → DaResult
block [] a = Ok (Falls a)
block (w ∷ ws) a = w.walk a ▷ go_on (block ws)

-- the arms of S::Case one after the other, each from `after`; `all` is what the arms before came to
abbrev pub arms : List Walk → State → DaOut → DaResult
arms [] after all = Ok all
arms (w ∷ ws) after all = unless_one_read w.labels after (w.walk after ▷ λ arm. arms ws after (merge all arm))

-- S::Case: "Some(m) if has_default && !after => Ok(m), _ => Ok(DaOut::Falls(after))"; where there are no arms there is no default
abbrev pub case_of : ExprFacts → List Walk → State → DaResult
case_of c ws a =
    evaluated c a λ after.
    arms ws after Jumps ▷ λ all.
    cond (has_default (λ w. w.is_default) ws && not (is_written after)) (Ok all) (Ok (Falls after))

-- "matches!(body_out, DaOut::Falls(true))"
abbrev pub falls_written : DaOut → Bool
falls_written (Falls a) = is_written a
falls_written Jumps = false

-- loop_body_assigns; loop_once is side 1, "1 if at least one round always runs"
abbrev pub loop_body_assigns : StmtRow → Bool → DaOut → Bool
loop_body_assigns r cannot_escape body_out = falls_written body_out && (cannot_escape && eqb r.side 1)

-- every loop's body and step, both from `in_body`, in this order; "A loop always FALLS THROUGH for this analysis"
abbrev pub rounds : StmtRow → Bool → Walk → Walk → State → State → DaResult
rounds r cannot_escape body step after in_body =
    body.walk in_body ▷ λ body_out.
    step.walk in_body ▷ λ step_out.
    Ok (Falls (gains (loop_body_assigns r cannot_escape body_out) after))

-- S::While, and S::For after its init: "the BODY runs only when the cond is TRUE"
abbrev pub while_true : StmtRow → Bool → ExprFacts → Walk → Walk → State → DaResult
while_true r cannot_escape c body step a = evaluated c a λ after. rounds r cannot_escape body step after (gains_when c true after)

-- S::For: "da_stmt(init, ..)?.state()"
abbrev pub for_from : StmtRow → Bool → Walk → ExprFacts → Walk → Walk → State → DaResult
for_from r cannot_escape init c step body a = init.walk a ▷ λ out. while_true r cannot_escape c body step (state out)

-- S::Repeat: "The count is evaluated exactly once"
abbrev pub repeated : StmtRow → Bool → ExprFacts → Walk → State → DaResult
repeated r cannot_escape c body a = evaluated c a λ after. rounds r cannot_escape body no_walk after after

-- CallEffect by its number in document 01
abbrev pub call_effect : ℕ → CallEffect
call_effect effect = cond (eqb effect 0) Inert (cond (eqb effect 1) CallWrites (cond (eqb effect 2) CallReads Unknown))

-- S::UserTaskCall
abbrev pub task : CallEffect → ℕ → ℕ → State → DaResult
task CallWrites lo hi a = Ok (Falls written)
task Inert lo hi a = Ok (Falls a)
task CallReads lo hi a = cond (is_written a) (Ok (Falls written)) (give_up TaskReads lo hi)
task Unknown lo hi a = cond (is_written a) (Ok (Falls written)) (give_up TaskUnknown lo hi)

-- S::Fork, with its own reason, and "_ if assigned => Ok(Falls(true)), _ => Err(..)": "this statement form is not modelled"
abbrev pub only_written : Reason → StmtRow → State → DaResult
only_written reason r a = cond (is_written a) (Ok (Falls written)) (give_up reason r.lo r.hi)

-- S::EventCtrl: "this event control reads it before any write on this path"
abbrev pub event_control : StmtRow → ExprFacts → Walk → State → DaResult
event_control r event body a = cond (not (is_written a) && event.refers) (give_up ControlReads r.lo r.hi) (body.walk a)

-- the first test of da_stmt: "if !ctx.sole && stmt_advances_time(st, ..)"
abbrev pub unless_time : DaCtx → StmtRow → (State → DaResult) → State → DaResult
unless_time ctx r arm a = cond (ctx.timed && r.advances) (give_up SharedNet r.lo r.hi) (arm a)

-- the first and the third: "if stmt_no_ref(st, name) { return Ok(DaOut::Falls(assigned)); }"; the second, of a disable, is the arm
-- of `Disable` below
abbrev pub referring : DaCtx → StmtRow → (State → DaResult) → Walk
referring ctx r arm = stmt (unless_time ctx r λ a. cond r.no_ref (Ok (Falls a)) (arm a))

-- da_stmt: the tests, then the match on the statement, from the row, the facts of its children, those of what each child holds,
-- and the walks of the children. Arms of a case, declarations and absent statements are no statements, and are not tested.
abbrev pub walk_of : DaCtx → StmtClass → StmtRow → List ExprFacts → List (List ExprFacts) → List Walk → Walk
-- ast::CaseItem::Match, ast::CaseItem::Default
walk_of ctx Match r es held ws = record { walk = (nth no_walk 0 ws).walk; labels = tail es; is_default = false; is_absent = false }
walk_of ctx Default r es held ws = record { walk = (nth no_walk 0 ws).walk; labels = []; is_default = true; is_absent = false }
-- the initialisers of S::Block: "A nested block-local decl whose initializer reads `name` observes the entry value too"
walk_of ctx Decl r es held ws = stmt λ a. unless_read (nth no_facts 0 es) a (Ok (Falls a))
-- "if let S::Disable { target, .. } = st", before "no reference"
walk_of ctx Disable r es held ws = stmt (unless_time ctx r λ a. cond r.is_jump (Ok Jumps) (Ok (Falls a)))
-- S::Blocking, S::NonBlocking
walk_of ctx Blocking r es held ws = referring ctx r (blocking r (nth [] 0 held) (nth no_facts 1 es) (nth no_facts 2 es) (nth no_facts 3 es))
walk_of ctx Nonblocking r es held ws = referring ctx r (nonblocking ctx r (nth no_facts 3 es))
-- S::If, S::Block, S::Fork, S::Case
walk_of ctx If r es held ws = referring ctx r (if_else (nth no_facts 0 es) (nth no_walk 1 ws) (nth no_walk 2 ws))
walk_of ctx Block r es held ws = referring ctx r (block ws)
walk_of ctx Fork r es held ws = referring ctx r (only_written Forks r)
walk_of ctx Case r es held ws = referring ctx r (case_of (nth no_facts 0 es) (tail ws))
-- S::For, S::While, S::Repeat, S::Forever: "Conservatively falls through even though a `forever` without a `break` never does"
walk_of ctx For r es held ws =
    referring ctx r (for_from r (nth true 3 r.cannot_escape) (nth no_walk 0 ws) (nth no_facts 1 es) (nth no_walk 2 ws) (nth no_walk 3 ws))
walk_of ctx While r es held ws = referring ctx r (while_true r (nth true 1 r.cannot_escape) (nth no_facts 0 es) (nth no_walk 1 ws) no_walk)
walk_of ctx Repeat r es held ws = referring ctx r (repeated r (nth true 1 r.cannot_escape) (nth no_facts 0 es) (nth no_walk 1 ws))
walk_of ctx Forever r es held ws = referring ctx r λ a. rounds r (nth true 0 r.cannot_escape) (nth no_walk 0 ws) no_walk a a
-- S::Return: "a `return` leaves the subroutine"
walk_of ctx Return r es held ws = referring ctx r λ a. unless_read (nth no_facts 0 es) a (Ok Jumps)
-- S::UserTaskCall
walk_of ctx Task r es held ws = referring ctx r (task (call_effect (task_effect r.side)) r.lo r.hi)
-- S::DelayCtrl, S::EventCtrl, S::Wait: "the body then runs with the same state", and "No WRITE is claimed from them"
walk_of ctx Delayctrl r es held ws = referring ctx r λ a. unless_one_read (nth [] 0 held) a ((nth no_walk 1 ws).walk a)
walk_of ctx Eventctrl r es held ws = referring ctx r (event_control r (nth no_facts 0 es) (nth no_walk 1 ws))
walk_of ctx Wait r es held ws = referring ctx r λ a. unless_read (nth no_facts 0 es) a ((nth no_walk 1 ws).walk a)
-- `_`
walk_of ctx Systask r es held ws = referring ctx r (only_written NotModelled r)
walk_of ctx Null r es held ws = referring ctx r (only_written NotModelled r)
walk_of ctx Unmodelled r es held ws = referring ctx r (only_written NotModelled r)
-- no statement
walk_of ctx Absent r es held ws = no_walk
walk_of ctx NoStmt r es held ws = no_walk

-- the facts of what a row holds
unfoldable pub held_facts_at : ℕ → Alg (List ExprFacts)
held_facts_at x k s lo hi cs held = expr_facts x cs

-- of each of these siblings
abbrev pub held_facts : ℕ → Forest → List (List ExprFacts)
held_facts x = fold (held_facts_at x)

-- of a row
abbrev pub stmt_row : DaCtx → ℕ → ℕ → ℕ → ℕ → Forest → StmtRow
stmt_row ctx k s lo hi cs = record {
  side = s;
  lo = lo;
  hi = hi;
  advances = advances_at k s lo hi cs (advances cs);
  no_ref = stmt_no_ref ctx.local (node k s lo hi cs nil);
  is_jump = is_loop_jump ctx.marks cs;
  cannot_escape = cannot_escapes cs;
}

-- a row by its kind number
unfoldable pub walk_at : DaCtx → Alg Walk
walk_at ctx k s lo hi cs ws = walk_of ctx (stmt_class k) (stmt_row ctx k s lo hi cs) (expr_facts ctx.local cs) (held_facts ctx.local cs) ws

-- each of these siblings
abbrev pub walks : DaCtx → Forest → List Walk
walks ctx = fold (walk_at ctx)

-- da_stmt of the first of these siblings, from this state
abbrev pub da_stmt : DaCtx → Forest → State → DaResult
da_stmt ctx f a = (nth no_walk 0 (walks ctx f)).walk a
