-- What stmt_cannot_escape's yes means: no run of the statement jumps. Said as a triple from all written on, where every run is fine, so
-- that it says of a run no more than how it ends. By induction over the tree, a class at a time.
use mathlib.Core.Path.{◌≡◌, sym}
use mathlib.Core.Bool.{Bool, true, false, cond, ◌&&◌, not}
use mathlib.Core.List.{List, [], ◌∷◌}
use Prim.Native.Nat.{ℕ, zero, suc}
use lib.Dec.{eqb}
use Rattle.table.specs.Rows.{Forest, nil, node}
use Rattle.table.specs.Fold.{fold, nth, tail, Pairwise, no_pair, pair}
use Rattle.table.proofs.Fold.{related_tail}
use Rattle.kinds.specs.declared.StmtClass.{StmtClass}
use Rattle.kinds.specs.declared.StmtClass.TheVariants.{Absent, Match, Default, Decl, Blocking, Nonblocking, If, Return, Case, For, While, Repeat, Forever, Block, Fork, Systask, Task, Delayctrl, Eventctrl, Wait, Disable, Null, Unmodelled, NoStmt}
use Rattle.kinds.specs.Named.{stmt_class, task_effect, has_default}
use Rattle.kinds.proofs.Below.{both_true, true_not_false}
use Rattle.reads.specs.Iffs.{every}
use Rattle.paths.specs.Marks.{full, ⊑_refl}
use Rattle.paths.specs.Commands.{PathEvent, Ending, falls, stops, leaves, again, NoJump, out_of_loop, out_of_round, Command, Runs}
use Rattle.paths.specs.Semantics.{Order, row_order, free_order, InFreeOrder, not_asked, is_met, Semantics}
use Rattle.paths.specs.Triples.{Triple, at, never}
use Rattle.paths.specs.Evaluation.{is_true, Evaluation, no_evaluation}
use Rattle.paths.specs.Evaluates.{AllEvaluate, no_more}
use Rattle.paths.proofs.Rules.{good_never, rule_skip, rule_write, rule_read, rule_outside, rule_choice, rule_stops, rule_seq, rule_alt, rule_star, rule_catch_never}
use Rattle.paths.proofs.Evaluating.{in_order_lem, all_together, evaluates_place, evaluate_tail}
use Rattle.paths.proofs.Built.{calm_all}
use Rattle.stmt_paths.specs.Execution.{Execution, plain, no_execution, one_by_one, all_labels, no_arm, chosen_arm, loop, is_passed_over, by_effect, execution_of, held_evaluations_at, held_evaluations, execution_at, executions, executed}
use Rattle.stmt_paths.proofs.Conditions.{unmet_so}
use Rattle.stmt_paths.proofs.UnderOrder.{chosen_labels_so, target_keeps, right_keeps, assignment_so, Others, nonblocking_so}
use Rattle.loops.specs.Escape.{transfers, cannot_escape_at, cannot_escapes, cannot_escape}

-- no run jumps
abbrev pub NeverJumps : Command → Type 0
NeverJumps c = Triple full c (at full) never

-- so said of one run
pub never_jumps : {c : Command} (t : List PathEvent) (o : Ending) → NeverJumps c → Runs c t o → NoJump o
never_jumps t falls h x = tt
never_jumps t stops h x = tt
never_jumps t leaves h x = good_never t full (h.go full ⊑_refl t leaves x)
never_jumps t again h x = good_never t full (h.go full ⊑_refl t again x)

-- a row's answer, and what it says; the labels of an arm never jump
pub record Stays (cannot : Bool) (e : Execution) : Type 0 where
  pub labels : AllEvaluate full e.labels
  pub run : cannot ≡ true → NeverJumps e.run

child_stays : {bs : List Bool} {rs : List Execution} (n : ℕ) → Pairwise Stays bs rs → every bs ≡ true → NeverJumps (nth no_execution n rs).run
unfolding every
child_stays n no_pair q = rule_skip
child_stays zero (pair {x = b} {xs = bs} h hs) q = h.run (both_true b (every bs) q).0
child_stays (suc n) (pair {x = b} {xs = bs} h hs) q = child_stays n hs (both_true b (every bs) q).1

all_stay : {bs : List Bool} {rs : List Execution} → Pairwise Stays bs rs → every bs ≡ true → NeverJumps (one_by_one rs)
unfolding every
all_stay no_pair q = rule_skip
all_stay (pair {x = b} {xs = bs} h hs) q = let p = both_true b (every bs) q in rule_seq (h.run p.0) (all_stay hs p.1)

labels_stay : {bs : List Bool} {rs : List Execution} → Pairwise Stays bs rs → NeverJumps (all_labels rs)
labels_stay no_pair = rule_skip
labels_stay (pair h hs) = rule_seq (in_order_lem h.labels) (labels_stay hs)

either_stays : {c d : Command} (b : Bool) → NeverJumps c → NeverJumps d → NeverJumps (cond b c d)
either_stays true h k = h
either_stays false h k = k

no_arm_stays : (default : Bool) (n : ℕ) {all : Command} → NeverJumps all → NeverJumps (no_arm default n all)
no_arm_stays true n h = rule_stops
no_arm_stays false n h = rule_seq (rule_choice n) h

arms_stay : (o : Order) {bs : List Bool} {rs : List Execution} (n : ℕ) {before all : Command} (default : Bool) → Pairwise Stays bs rs → every bs ≡ true → NeverJumps before → NeverJumps all → NeverJumps (chosen_arm o n before all default rs)
unfolding every
arms_stay o n default no_pair q hb ha = no_arm_stays default n ha
arms_stay o n default (pair {x = b} {y = r} {xs = bs} h hs) q hb ha =
    let p = both_true b (every bs) q in
    rule_alt (rule_seq (rule_choice n) (rule_seq (either_stays r.is_default ha (rule_seq hb (chosen_labels_so o h.labels))) (h.run p.0)))
    (arms_stay o (suc n) default hs p.1 (rule_seq hb (in_order_lem h.labels)) ha)

every_tail : (bs : List Bool) → every bs ≡ true → every (tail bs) ≡ true
unfolding every
every_tail [] q = q
every_tail (b ∷ bs) q = (both_true b (every bs) q).1

loop_stays : (s : ℕ) {head body step end : Command} → NeverJumps head → NeverJumps body → NeverJumps step → NeverJumps end → NeverJumps (loop s head body step end)
loop_stays s h b t e =
    let r = rule_seq h (rule_seq (rule_catch_never out_of_round b) t) in
    rule_catch_never out_of_loop (either_stays (eqb s 1) (rule_seq r (rule_seq (rule_star r) e)) (rule_seq (rule_star r) e))

effect_stays : (n : ℕ) → NeverJumps (by_effect n)
effect_stays n = either_stays (eqb n 0) rule_skip (either_stays (eqb n 1) rule_write (rule_read ⊑_refl))

-- a row that is no arm
unlabelled : {cannot : Bool} {c : Command} → (cannot ≡ true → NeverJumps c) → Stays cannot (plain c)
unlabelled h = record { labels = no_more; run = h }

module _ (sem : Semantics) (x : ℕ) (marks : ℕ → Bool) (s : ℕ) (cs : Forest) {es : List Evaluation} (held : List (List Evaluation)) {bs : List Bool} {rs : List Execution}
    (calm : AllEvaluate full es) (calm-held : AllEvaluate full (nth [] 0 held)) (below : Pairwise Stays bs rs) where
  others : (o : Order) → InFreeOrder (Others full (nth [] 0 held) (nth no_evaluation 1 es) (nth no_evaluation 2 es)) o
  others row_order = not_asked
  others free_order = is_met (record { delays = calm-held; event = (evaluates_place 1 calm).value; selects = (evaluates_place 2 calm).value })

  class_stays : (k : StmtClass) → Stays (not (transfers k) && every bs) (execution_of sem x marks k s cs es held rs)
  class_stays Match = record { labels = evaluate_tail calm; run = child_stays 0 below }
  class_stays Default = record { labels = no_more; run = child_stays 0 below }
  class_stays Absent = unlabelled λ q. rule_skip
  class_stays NoStmt = unlabelled λ q. rule_skip
  class_stays Null = unlabelled λ q. rule_skip
  class_stays Decl = unlabelled λ q. (evaluates_place 0 calm).value
  class_stays Blocking = unlabelled λ q. assignment_so sem.order calm-held (evaluates_place 1 calm) (target_keeps (evaluates_place 2 calm)) (right_keeps (evaluates_place 3 calm))
  class_stays Nonblocking = unlabelled λ q. nonblocking_so sem.order (others sem.order) (right_keeps (evaluates_place 3 calm))
  class_stays If = unlabelled λ q. rule_alt (rule_seq ((evaluates_place 0 calm).truth is_true) (child_stays 1 below q)) (rule_seq (unmet_so (evaluates_place 0 calm)) (child_stays 2 below q))
  class_stays Return = unlabelled λ q. true_not_false (sym q)
  class_stays Disable = unlabelled λ q. true_not_false (sym q)
  class_stays Case = unlabelled λ q. rule_seq (evaluates_place 0 calm).value (arms_stay sem.order 0 (has_default (λ r. r.is_default) (tail rs)) (related_tail below) (every_tail bs q) rule_skip (labels_stay (related_tail below)))
  class_stays For = unlabelled λ q. rule_seq (child_stays 0 below q) (loop_stays s ((evaluates_place 1 calm).truth is_true) (child_stays 3 below q) (child_stays 2 below q) (unmet_so (evaluates_place 1 calm)))
  class_stays While = unlabelled λ q. loop_stays s ((evaluates_place 0 calm).truth is_true) (child_stays 1 below q) rule_skip (unmet_so (evaluates_place 0 calm))
  class_stays Repeat = unlabelled λ q. rule_seq (evaluates_place 0 calm).value (loop_stays s (rule_choice 1) (child_stays 1 below q) rule_skip (rule_choice 0))
  class_stays Forever = unlabelled λ q. loop_stays s (rule_choice 1) (child_stays 0 below q) rule_skip rule_stops
  class_stays Block = unlabelled λ q. all_stay below q
  class_stays Fork = unlabelled λ q. rule_outside ⊑_refl
  class_stays Unmodelled = unlabelled λ q. rule_outside ⊑_refl
  class_stays Systask = unlabelled λ q. all_together sem.order calm
  class_stays Task = unlabelled λ q. either_stays (is_passed_over x cs) rule_skip (effect_stays (task_effect s))
  class_stays Delayctrl = unlabelled λ q. rule_seq (all_together sem.order calm-held) (child_stays 1 below q)
  class_stays Eventctrl = unlabelled λ q. rule_seq (evaluates_place 0 calm).value (child_stays 1 below q)
  class_stays Wait = unlabelled λ q. rule_alt (rule_seq ((evaluates_place 0 calm).truth is_true) (child_stays 1 below q)) (rule_seq (unmet_so (evaluates_place 0 calm)) rule_stops)

held_calm : (sem : Semantics) (x n : ℕ) (f : Forest) → AllEvaluate full (nth [] n (held_evaluations sem x f))
unfolding fold held_evaluations_at
held_calm sem x n nil = no_more
held_calm sem x zero (node k s lo hi cs others) = calm_all sem x cs
held_calm sem x (suc n) (node k s lo hi cs others) = held_calm sem x n others

-- every row that stmt_cannot_escape says yes of
pub stay : (sem : Semantics) (x : ℕ) (marks : ℕ → Bool) (f : Forest) → Pairwise Stays (cannot_escapes f) (executions sem x marks f)
unfolding fold cannot_escape_at execution_at
stay sem x marks nil = no_pair
stay sem x marks (node k s lo hi cs others) =
    let below = stay sem x marks cs in
    pair (class_stays sem x marks s cs (held_evaluations sem x cs) (calm_all sem x cs) (held_calm sem x 0 cs) below (stmt_class k)) (stay sem x marks others)

-- of one of them
pub stay_at : {bs : List Bool} {rs : List Execution} (n : ℕ) → Pairwise Stays bs rs → nth true n bs ≡ true → NeverJumps (nth no_execution n rs).run
stay_at n no_pair q = rule_skip
stay_at zero (pair h hs) q = h.run q
stay_at (suc n) (pair h hs) q = stay_at n hs q

-- and of the first
pub stay_first : (sem : Semantics) (x : ℕ) (marks : ℕ → Bool) (f : Forest) → cannot_escape f ≡ true → NeverJumps (executed sem x marks f)
unfolding cannot_escape
stay_first sem x marks f q = child_stays 0 (stay sem x marks f) q
