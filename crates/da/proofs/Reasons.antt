-- Document 01's reasons are 1 to 9: whatever the walk gives up with, and wherever, the reason is one of them. A give-up is passed on unchanged, so
-- only what a row gives up with itself counts. By induction over the tree, a class at a time.
use mathlib.Core.Bool.{Bool, true, false, cond, ◌&&◌, not}
use mathlib.Core.List.{List, [], ◌∷◌}
use Prim.Native.Nat.{ℕ, ◌≤◌}
use native.Mathlib.Omega.{arith}
use Rattle.std.specs.Prelude.{Ok}
use Rattle.table.specs.Rows.{Forest, nil, node}
use Rattle.table.specs.Fold.{fold, nth}
use Rattle.kinds.specs.declared.StmtClass.{StmtClass}
use Rattle.kinds.specs.declared.StmtClass.TheVariants.{Absent, Match, Default, Decl, Blocking, Nonblocking, If, Return, Case, For, While, Repeat, Forever, Block, Fork, Systask, Task, Delayctrl, Eventctrl, Wait, Disable, Null, Unmodelled, NoStmt}
use Rattle.kinds.specs.Named.{stmt_class, task_effect, has_default}
use Rattle.expr_effect.specs.Law.{ExprFacts, no_facts}
use Rattle.da.specs.declared.DaOut.{DaOut}
use Rattle.da.specs.declared.DaOut.TheVariants.{Falls, Jumps}
use Rattle.da.specs.declared.CallEffect.{CallEffect}
use Rattle.da.specs.declared.CallEffect.TheVariants.{Inert, Writes, Reads, Unknown}
use Rattle.da.specs.declared.Reason.{Reason}
use Rattle.da.specs.declared.Reason.TheVariants.{SharedNet, ReadUnwritten, EventReads, PartWritten, Forks, TaskReads, TaskUnknown, ControlReads, NotModelled}
use Rattle.da.specs.Outcome.{DaResult, State, written, is_written, gains, state, merge, ◌▷◌, go_on, reason_number, give_up}
use Rattle.da.proofs.Walks.{All, none, and, at_place, after_first}
use Rattle.da.specs.Walk.{DaCtx, Walk, StmtRow, no_walk, expr_reads, expr_out_writes, unless_read, unless_one_read, evaluated, gains_when, assigned, blocking, block, arms, case_of, if_else, rounds, while_true, call_effect, task, only_written, unless_time, referring, walk_of, walk_at, walks, da_stmt}

-- the walk goes on, or gives up with one of the nine
pub data Reasoned : DaResult → Type 0 where
  goes_on : (out : DaOut) → Reasoned (Ok out)
  stops : (reason : Reason) (lo hi : ℕ) → 1 ≤ reason_number reason → reason_number reason ≤ 9 → Reasoned (give_up reason lo hi)

one_of_nine : (reason : Reason) → (1 ≤ reason_number reason) × (reason_number reason ≤ 9)
one_of_nine SharedNet = (omega arith, omega arith)
one_of_nine ReadUnwritten = (omega arith, omega arith)
one_of_nine EventReads = (omega arith, omega arith)
one_of_nine PartWritten = (omega arith, omega arith)
one_of_nine Forks = (omega arith, omega arith)
one_of_nine TaskReads = (omega arith, omega arith)
one_of_nine TaskUnknown = (omega arith, omega arith)
one_of_nine ControlReads = (omega arith, omega arith)
one_of_nine NotModelled = (omega arith, omega arith)

-- by its name a reason is one of the nine
gives_up : (reason : Reason) (lo hi : ℕ) → Reasoned (give_up reason lo hi)
gives_up reason lo hi = stops reason lo hi (one_of_nine reason).0 (one_of_nine reason).1

-- a row that does so from every state
pub record AlwaysReasoned (w : Walk) : Type 0 where
  pub reasoned : (a : State) → Reasoned (w.walk a)

-- The parts of a rule

-- whichever way a test goes
reasoned_cond : (b : Bool) {r s : DaResult} → Reasoned r → Reasoned s → Reasoned (cond b r s)
reasoned_cond true h k = h
reasoned_cond false h k = k

-- the Rust's `?`
reasoned_then : {r : DaResult} (next : DaOut → DaResult) → Reasoned r → ((out : DaOut) → Reasoned (next out)) → Reasoned (r ▷ next)
reasoned_then next (goes_on out) n = n out
reasoned_then next (stops reason lo hi l m) n = stops reason lo hi l m

-- "2 read before any write"
reasoned_read : (e : ExprFacts) (a : State) {r : DaResult} → Reasoned r → Reasoned (unless_read e a r)
reasoned_read e a h = reasoned_cond (not (is_written a) && expr_reads e) (gives_up ReadUnwritten e.lo e.hi) h

reasoned_reads : (es : List ExprFacts) (a : State) {r : DaResult} → Reasoned r → Reasoned (unless_one_read es a r)
reasoned_reads [] a h = h
reasoned_reads (e ∷ es) a h = reasoned_read e a (reasoned_reads es a h)

reasoned_evaluated : (e : ExprFacts) (a : State) {next : State → DaResult} → ((b : State) → Reasoned (next b)) → Reasoned (evaluated e a next)
reasoned_evaluated e a n = reasoned_read e (gains (expr_out_writes e) a) (n (gains (expr_out_writes e) a))

-- no statement
still : AlwaysReasoned no_walk
still = record { reasoned = λ a. goes_on (Falls a) }

-- The rules of single statements

-- "4 only part written"
reasoned_assigned : (whole : Bool) (a : State) (lo hi : ℕ) → Reasoned (assigned whole a lo hi)
reasoned_assigned whole a lo hi = reasoned_cond whole (goes_on (Falls written)) (reasoned_cond (is_written a) (goes_on (Falls a)) (gives_up PartWritten lo hi))

-- "3 event on an assignment"
reasoned_blocking : (r : StmtRow) (delays : List ExprFacts) (event target right : ExprFacts) (a : State) → Reasoned (blocking r delays event target right a)
reasoned_blocking r delays event target right a =
    reasoned_reads delays a
    (reasoned_cond (not (is_written a) && event.refers) (gives_up EventReads r.lo r.hi)
    (reasoned_read right a
    (reasoned_assigned target.plain (gains (not target.refers && expr_out_writes right) a) r.lo r.hi)))

-- "6 call reads; 7 call unknown"
reasoned_task : (effect : CallEffect) (lo hi : ℕ) (a : State) → Reasoned (task effect lo hi a)
reasoned_task Writes lo hi a = goes_on (Falls written)
reasoned_task Inert lo hi a = goes_on (Falls a)
reasoned_task Reads lo hi a = reasoned_cond (is_written a) (goes_on (Falls written)) (gives_up TaskReads lo hi)
reasoned_task Unknown lo hi a = reasoned_cond (is_written a) (goes_on (Falls written)) (gives_up TaskUnknown lo hi)

-- "5 fork", "9 form not modelled"
reasoned_only : (reason : Reason) (r : StmtRow) (a : State) → Reasoned (only_written reason r a)
reasoned_only reason r a = reasoned_cond (is_written a) (goes_on (Falls written)) (gives_up reason r.lo r.hi)

-- The rules that walk children

reasoned_rest : (next : State → DaResult) → ((a : State) → Reasoned (next a)) → (out : DaOut) → Reasoned (go_on next out)
reasoned_rest next n (Falls a) = n a
reasoned_rest next n Jumps = goes_on Jumps

reasoned_block : {ws : List Walk} → All AlwaysReasoned ws → (a : State) → Reasoned (block ws a)
reasoned_block none a = goes_on (Falls a)
reasoned_block (and {w} {ws} k ks) a = reasoned_then (go_on (block ws)) (k.reasoned a) (reasoned_rest (block ws) (λ b. reasoned_block ks b))

reasoned_arms : {ws : List Walk} → All AlwaysReasoned ws → (after : State) (all : DaOut) → Reasoned (arms ws after all)
reasoned_arms none after all = goes_on all
reasoned_arms (and {w} k ks) after all = reasoned_reads w.labels after (reasoned_then _ (k.reasoned after) (λ arm. reasoned_arms ks after (merge all arm)))

reasoned_case : (e : ExprFacts) {ws : List Walk} → All AlwaysReasoned ws → (a : State) → Reasoned (case_of e ws a)
reasoned_case e {ws} ks a =
    reasoned_evaluated e a λ after.
    reasoned_then _ (reasoned_arms ks after Jumps) λ all.
    reasoned_cond (has_default (λ w. w.is_default) ws && not (is_written after)) (goes_on all) (goes_on (Falls after))

reasoned_if : (c : ExprFacts) {t e : Walk} → AlwaysReasoned t → AlwaysReasoned e → (a : State) → Reasoned (if_else c t e a)
reasoned_if c {t} {e} h k a =
    reasoned_evaluated c a λ after.
    reasoned_then _ (h.reasoned (gains_when c true after)) λ a_then.
    reasoned_then _ (reasoned_cond e.is_absent (goes_on (Falls after)) (k.reasoned (gains_when c false after))) λ a_else. goes_on (merge a_then a_else)

reasoned_rounds : (r : StmtRow) (cannot_escape : Bool) {body step : Walk}
    → AlwaysReasoned body
    → AlwaysReasoned step
    → (after in_body : State)
    → Reasoned (rounds r cannot_escape body step after in_body)
reasoned_rounds r cannot_escape h k after in_body = reasoned_then _ (h.reasoned in_body) λ body_out. reasoned_then _ (k.reasoned in_body) λ step_out. goes_on _

reasoned_while : (r : StmtRow) (cannot_escape : Bool) (c : ExprFacts) {body step : Walk}
    → AlwaysReasoned body
    → AlwaysReasoned step
    → (a : State)
    → Reasoned (while_true r cannot_escape c body step a)
reasoned_while r cannot_escape c h k a = reasoned_evaluated c a λ after. reasoned_rounds r cannot_escape h k after (gains_when c true after)

-- Rows

module _ (ctx : DaCtx) where
  -- "1 shared net and time can advance"
  reasoned_time : (r : StmtRow) {arm : State → DaResult} → ((a : State) → Reasoned (arm a)) → (a : State) → Reasoned (unless_time ctx r arm a)
  reasoned_time r h a = reasoned_cond (ctx.timed && r.advances) (gives_up SharedNet r.lo r.hi) (h a)

  tested : (r : StmtRow) {arm : State → DaResult} → ((a : State) → Reasoned (arm a)) → (a : State) → Reasoned ((referring ctx r arm).walk a)
  tested r h = reasoned_time r λ a. reasoned_cond r.no_ref (goes_on (Falls a)) (h a)

  reasoned_row : (class : StmtClass) (r : StmtRow) (es : List ExprFacts) (held : List (List ExprFacts)) {ws : List Walk}
      → All AlwaysReasoned ws
      → (a : State)
      → Reasoned ((walk_of ctx class r es held ws).walk a)
  reasoned_row Match r es held ks = (at_place still 0 ks).reasoned
  reasoned_row Default r es held ks = (at_place still 0 ks).reasoned
  reasoned_row Decl r es held ks = λ a. reasoned_read (nth no_facts 0 es) a (goes_on (Falls a))
  reasoned_row Disable r es held ks = reasoned_time r λ a. reasoned_cond r.is_jump (goes_on Jumps) (goes_on (Falls a))
  reasoned_row Blocking r es held ks = tested r (reasoned_blocking r (nth [] 0 held) (nth no_facts 1 es) (nth no_facts 2 es) (nth no_facts 3 es))
  reasoned_row Nonblocking r es held ks = tested r λ a. reasoned_cond (not ctx.sole) (gives_up SharedNet r.lo r.hi) (reasoned_read (nth no_facts 3 es) a (goes_on _))
  reasoned_row If r es held ks = tested r (reasoned_if (nth no_facts 0 es) (at_place still 1 ks) (at_place still 2 ks))
  reasoned_row Block r es held ks = tested r (reasoned_block ks)
  reasoned_row Fork r es held ks = tested r (reasoned_only Forks r)
  reasoned_row Case r es held ks = tested r (reasoned_case (nth no_facts 0 es) (after_first ks))
  reasoned_row For r es held ks =
      tested r λ a. reasoned_then _ ((at_place still 0 ks).reasoned a) λ out. reasoned_while r (nth true 3 r.cannot_escape) (nth no_facts 1 es) (at_place still 3 ks) (at_place still 2 ks) (state out)
  reasoned_row While r es held ks = tested r (reasoned_while r (nth true 1 r.cannot_escape) (nth no_facts 0 es) (at_place still 1 ks) still)
  reasoned_row Repeat r es held ks = tested r λ a. reasoned_evaluated (nth no_facts 0 es) a λ after. reasoned_rounds r (nth true 1 r.cannot_escape) (at_place still 1 ks) still after after
  reasoned_row Forever r es held ks = tested r λ a. reasoned_rounds r (nth true 0 r.cannot_escape) (at_place still 0 ks) still a a
  reasoned_row Return r es held ks = tested r λ a. reasoned_read (nth no_facts 0 es) a (goes_on Jumps)
  reasoned_row Task r es held ks = tested r (reasoned_task (call_effect (task_effect r.side)) r.lo r.hi)
  reasoned_row Delayctrl r es held ks = tested r λ a. reasoned_reads (nth [] 0 held) a ((at_place still 1 ks).reasoned a)
  -- "8 event control"
  reasoned_row Eventctrl r es held ks = tested r λ a. reasoned_cond (not (is_written a) && (nth no_facts 0 es).refers) (gives_up ControlReads r.lo r.hi) ((at_place still 1 ks).reasoned a)
  reasoned_row Wait r es held ks = tested r λ a. reasoned_read (nth no_facts 0 es) a ((at_place still 1 ks).reasoned a)
  reasoned_row Systask r es held ks = tested r (reasoned_only NotModelled r)
  reasoned_row Null r es held ks = tested r (reasoned_only NotModelled r)
  reasoned_row Unmodelled r es held ks = tested r (reasoned_only NotModelled r)
  reasoned_row Absent r es held ks = still.reasoned
  reasoned_row NoStmt r es held ks = still.reasoned

  -- all rows
  all_reasoned : (f : Forest) → All AlwaysReasoned (walks ctx f)
  unfolding fold walk_at
  all_reasoned nil = none
  all_reasoned (node k s lo hi cs others) = and (record { reasoned = reasoned_row (stmt_class k) _ _ _ (all_reasoned cs) }) (all_reasoned others)

  -- "Reasons", 1 to 9, and no other
  pub nine_reasons : (f : Forest) (a : State) → Reasoned (da_stmt ctx f a)
  nine_reasons f = (at_place still 0 (all_reasoned f)).reasoned
