-- How a statement runs: document 01, "How a path runs", and document 02, Paper 2, with the clauses of IEEE 1800 that fix it in
-- brackets. Row order is document 01's; free order takes what document 01 evaluates in row order in any order, each child whole
-- (docs/DECISIONS.md, 115). Definitions only. Nothing here is written from the Rust. A choice has the number by which document 02,
-- Paper 6, tells it.
use Rattle.std.specs.Prelude.{List, [], ◌∷◌, Bool, true, false, cond, ◌&&◌, not, ℕ, suc, eqb}
use Rattle.table.specs.Rows.{Forest}
use Rattle.table.specs.Fold.{Alg, fold, nth, tail}
use Rattle.kinds.specs.declared.StmtClass.{StmtClass}
use Rattle.kinds.specs.declared.StmtClass.TheVariants.{Absent, Match, Default, Decl, Blocking, Nonblocking, If, Return, Case, For, While, Repeat}
use Rattle.kinds.specs.declared.StmtClass.TheVariants.{Forever, Block, Fork, Systask, Task, Delayctrl, Eventctrl, Wait, Disable, Null, Unmodelled, NoStmt}
use Rattle.kinds.specs.Named.{stmt_class, task_effect, has_default}
use Rattle.reads.specs.declared.Iff.TheVariants.{Included}
use Rattle.reads.specs.PathRows.{begins, segments, is_loop_jump}
use Rattle.reads.specs.Mentions.{refers}
use Rattle.paths.specs.Commands.{PathEvent, read, write, outside, choice, Ending, stops, leaves, again, out_of_loop, out_of_round}
use Rattle.paths.specs.Commands.{Command, skip, emit, exit, seq, alt, star, catch, Runs}
use Rattle.paths.specs.Semantics.{Order, row_order, free_order, Semantics}
use Rattle.paths.specs.AnyOrder.{any_order}
use Rattle.paths.specs.Evaluation.{is_true, Evaluation, not_true, in_order, together, write_if, no_evaluation, evaluations}

-- how a row runs that is a statement, a declaration or an arm of a case
pub record Execution : Type 0 where
  pub run : Command
  -- of an arm: its labels, and whether it is a default
  pub labels : List Evaluation
  pub is_default : Bool

-- a row that is no arm
abbrev pub plain : Command → Execution
plain c = record { run = c; labels = []; is_default = false }

-- what stands where a child is missing, and what an absent child does
abbrev pub no_execution : Execution
no_execution = plain skip

-- the condition does not come out true: "`if` then takes the else side, a loop ends, `wait` goes on only when true" (12.4, 12.7,
-- 9.4.3)
abbrev pub unmet : Evaluation → Command
unmet = not_true

-- "Block: initialisers, then statements" (6.21, 9.3.1)
abbrev pub one_by_one : List Execution → Command
one_by_one [] = skip
one_by_one (r ∷ rs) = seq r.run (one_by_one rs)

-- a condition, then the side that it chooses (12.4)
abbrev pub if_statement : Evaluation → Execution → Execution → Command
if_statement c t e = alt (seq (c.truth is_true) t.run) (seq (unmet c) e.run)

-- the labels "in row order", "all of them for a default or no arm"
abbrev pub all_labels : List Execution → Command
all_labels [] = skip
all_labels (r ∷ rs) = seq (in_order r.labels) (all_labels rs)

-- "all of them for ... no arm", which is chosen "only where no default stands"; its number is "the count of arms". Where one stands,
-- what is left is to stop, which adds no path: one "may stop anywhere"
abbrev pub no_arm : Bool → ℕ → Command → Command
no_arm true n all = exit stops
no_arm false n all = seq (emit (choice n)) all

-- these labels up to any one of them: the search ends at the one that matches (12.5)
abbrev pub through_one : List Evaluation → Command
through_one [] = skip
through_one (e ∷ es) = seq e.value (alt skip (through_one es))

-- the labels of the chosen arm: "through the chosen arm's", or in free order up to any one of them
abbrev pub chosen_labels : Order → List Evaluation → Command
chosen_labels row_order es = in_order es
chosen_labels free_order es = through_one es

-- the arms from number n on: the choice of one, then "labels in row order through the chosen arm's (all of them for a default ...),
-- then that arm"; the labels of the arms before these come first
abbrev pub chosen_arm : Order → ℕ → Command → Command → Bool → List Execution → Command
chosen_arm o n before all default [] = no_arm default n all
chosen_arm o n before all default (r ∷ rs) =
    alt
    (seq (emit (choice n)) (seq (cond r.is_default all (seq before (chosen_labels o r.labels))) r.run))
    (chosen_arm o (suc n) (seq before (in_order r.labels)) all default rs)

-- "Case: scrutinee, then labels ..., then that arm" (12.5)
abbrev pub case_statement : Order → Evaluation → List Execution → Command
case_statement o c rs = seq c.value (chosen_arm o 0 skip (all_labels rs) (has_default (λ r. r.is_default) rs) rs)

-- one round: what comes before the body, the body, the step; a jump may leave "only its round" (12.8: continue jumps to the end
-- of the loop body)
abbrev pub round : Command → Command → Command → Command
round head body step = seq head (seq (catch out_of_round body) step)

-- "Loops run any number of rounds, at least one with side 1"
abbrev pub at_least : ℕ → Command → Command → Command
at_least s r end = cond (eqb s 1) (seq r (seq (star r) end)) (seq (star r) end)

-- the four loops (12.7): by side, what comes before each body, body, step, and what ends the rounds; a jump may leave "the
-- nearest loop" (12.8: break)
abbrev pub loop : ℕ → Command → Command → Command → Command → Command
loop s head body step end = catch out_of_loop (at_least s (round head body step) end)

-- "condition, body, step in turn; while asks its condition before each round" (12.7.1, 12.7.4)
abbrev pub while_loop : ℕ → Evaluation → Command → Command → Command
while_loop s c body step = loop s (c.truth is_true) body step (unmet c)

-- "repeat and forever give 1 before a round, or repeat 0 to run no more"; "forever ends only by jump" (12.7.2, 12.7.6), and so stops
-- after its rounds, as a path may anywhere
abbrev pub repeat_loop : ℕ → Command → Command → Command
repeat_loop s body end = loop s (emit (choice 1)) body skip end

-- "leaves the nearest loop or only its round, either one freely, since the mark doesn't tell which" (12.8); any other disable does
-- nothing here, where 9.6.2 leaves a block or a task: the premises leave it out
abbrev pub jump : Bool → Command
jump true = alt (seq (emit (choice 0)) (exit leaves)) (seq (emit (choice 1)) (exit again))
jump false = skip

-- "a two-segment task path with no mention, arguments included, does nothing at any effect"
abbrev pub is_passed_over : ℕ → Forest → Bool
is_passed_over x cs = eqb (segments cs) 2 && (not (begins x cs) && not (refers Included x cs))

-- "A task with effect 1 writes, 0 does nothing, 2 and 3 read" (13.3, 13.5)
abbrev pub by_effect : ℕ → Command
by_effect effect = cond (eqb effect 0) skip (cond (eqb effect 1) (emit write) (emit read))

-- "Delay, event, wait: their expressions, then the body; a wait goes on only when its expression is true" (9.4.3)
abbrev pub wait_for : Evaluation → Command → Command
wait_for c body = alt (seq (c.truth is_true) body) (seq (unmet c) (exit stops))

-- "Assignment: right side, delay, event, target selects, then the write if the target is the plain local" (10.4.1, 9.4.5); in free
-- order these four in any, all before the write (4.9.3 has the target of a delayed one found after its wait)
abbrev pub blocking_assignment : Order → List Evaluation → Evaluation → Evaluation → Evaluation → Command
blocking_assignment row_order delays event target right = seq right.value (seq (in_order delays) (seq event.value target.store))
blocking_assignment free_order delays event target right =
    seq (any_order (right.value ∷ together free_order delays ∷ event.value ∷ target.value ∷ [])) (write_if target.is_plain_local)

-- or not
abbrev pub or_not : Command → Command
or_not c = alt c skip

-- "Nonblocking: right side only" (10.4.2); in free order also delay, event and selects, each as one whole child that is evaluated or not:
-- a tool evaluates them at the statement (4.9.4, 9.4.5), but for what it leaves to the update
abbrev pub nonblocking_assignment : Order → List Evaluation → Evaluation → Evaluation → Evaluation → Command
nonblocking_assignment row_order delays event target right = right.value
nonblocking_assignment free_order delays event target right =
    any_order (right.value ∷ or_not (together free_order delays) ∷ or_not event.value ∷ or_not target.value ∷ [])

-- a row from its class, side, children, their evaluations, the evaluations of what each child holds, and their executions.
-- "Return evaluates its value and ends the path" (12.8). "A systask evaluates its arguments; null does nothing" (20, A.6.4). Delay and
-- event control: 9.4.1, 9.4.2. "Fork counts as a read" (9.3.2), "and so do the unmodelled forms".
abbrev pub execution_of : Semantics → ℕ → (ℕ → Bool) → StmtClass → ℕ → Forest → List Evaluation → List (List Evaluation) → List Execution → Execution
execution_of sem x marks Match s cs es held rs = record { run = (nth no_execution 0 rs).run; labels = tail es; is_default = false }
execution_of sem x marks Default s cs es held rs = record { run = (nth no_execution 0 rs).run; labels = []; is_default = true }
execution_of sem x marks Decl s cs es held rs = plain (nth no_evaluation 0 es).value
execution_of sem x marks Blocking s cs es held rs =
    plain (blocking_assignment sem.order (nth [] 0 held) (nth no_evaluation 1 es) (nth no_evaluation 2 es) (nth no_evaluation 3 es))
execution_of sem x marks Nonblocking s cs es held rs =
    plain (nonblocking_assignment sem.order (nth [] 0 held) (nth no_evaluation 1 es) (nth no_evaluation 2 es) (nth no_evaluation 3 es))
execution_of sem x marks If s cs es held rs = plain (if_statement (nth no_evaluation 0 es) (nth no_execution 1 rs) (nth no_execution 2 rs))
execution_of sem x marks Return s cs es held rs = plain (seq (nth no_evaluation 0 es).value (exit stops))
execution_of sem x marks Case s cs es held rs = plain (case_statement sem.order (nth no_evaluation 0 es) (tail rs))
execution_of sem x marks For s cs es held rs =
    plain (seq (nth no_execution 0 rs).run (while_loop s (nth no_evaluation 1 es) (nth no_execution 3 rs).run (nth no_execution 2 rs).run))
execution_of sem x marks While s cs es held rs = plain (while_loop s (nth no_evaluation 0 es) (nth no_execution 1 rs).run skip)
execution_of sem x marks Repeat s cs es held rs = plain (seq (nth no_evaluation 0 es).value (repeat_loop s (nth no_execution 1 rs).run (emit (choice 0))))
execution_of sem x marks Forever s cs es held rs = plain (repeat_loop s (nth no_execution 0 rs).run (exit stops))
execution_of sem x marks Block s cs es held rs = plain (one_by_one rs)
execution_of sem x marks Fork s cs es held rs = plain (emit outside)
execution_of sem x marks Systask s cs es held rs = plain (together sem.order es)
execution_of sem x marks Task s cs es held rs = plain (cond (is_passed_over x cs) skip (by_effect (task_effect s)))
execution_of sem x marks Delayctrl s cs es held rs = plain (seq (together sem.order (nth [] 0 held)) (nth no_execution 1 rs).run)
execution_of sem x marks Eventctrl s cs es held rs = plain (seq (nth no_evaluation 0 es).value (nth no_execution 1 rs).run)
execution_of sem x marks Wait s cs es held rs = plain (wait_for (nth no_evaluation 0 es) (nth no_execution 1 rs).run)
execution_of sem x marks Disable s cs es held rs = plain (jump (is_loop_jump marks cs))
execution_of sem x marks Null s cs es held rs = plain skip
execution_of sem x marks Unmodelled s cs es held rs = plain (emit outside)
execution_of sem x marks Absent s cs es held rs = no_execution
execution_of sem x marks NoStmt s cs es held rs = no_execution

-- the evaluations of what a row holds: of a delay's, those of its expressions
unfoldable pub held_evaluations_at : Semantics → ℕ → Alg (List Evaluation)
held_evaluations_at sem x k s lo hi cs held = evaluations sem x cs

-- of each of these siblings
abbrev pub held_evaluations : Semantics → ℕ → Forest → List (List Evaluation)
held_evaluations sem x = fold (held_evaluations_at sem x)

-- a row by its kind number
unfoldable pub execution_at : Semantics → ℕ → (ℕ → Bool) → Alg Execution
execution_at sem x marks k s lo hi cs rs = execution_of sem x marks (stmt_class k) s cs (evaluations sem x cs) (held_evaluations sem x cs) rs

-- how each of these siblings runs, for the local x and the names that are marked as jumps
abbrev pub executions : Semantics → ℕ → (ℕ → Bool) → Forest → List Execution
executions sem x marks = fold (execution_at sem x marks)

-- "A path starts at row 0": what row 0 does
abbrev pub executed : Semantics → ℕ → (ℕ → Bool) → Forest → Command
executed sem x marks f = (nth no_execution 0 (executions sem x marks f)).run

-- "and is the list of the reads and writes named here", with the choices
pub record IsPath (sem : Semantics) (x : ℕ) (marks : ℕ → Bool) (f : Forest) (t : List PathEvent) : Type 0 where
  pub ending : Ending
  pub runs : Runs (executed sem x marks f) t ending
