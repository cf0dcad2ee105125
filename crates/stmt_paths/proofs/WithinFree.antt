-- Every path in row order is one in free order: by induction over the rows, a form at a time. Where free order has a choice, row order
-- is one way of it.
use mathlib.Core.Path.{◌≡◌, refl}
use mathlib.Core.Bool.{Bool, true, false, cond}
use mathlib.Core.List.{List, []}
use Prim.Native.Nat.{ℕ, suc}
use lib.Dec.{eqb}
use Rattle.table.specs.Rows.{Forest, nil, node}
use Rattle.table.specs.Fold.{fold, nth, Pairwise, no_pair, pair}
use Rattle.table.proofs.Fold.{fold_related, related_at, related_tail}
use Rattle.kinds.specs.declared.StmtClass.{StmtClass}
use Rattle.kinds.specs.declared.StmtClass.TheVariants.{Absent, Match, Default, Decl, Blocking, Nonblocking, If, Return, Case, For, While, Repeat, Forever, Block, Fork, Systask, Task, Delayctrl, Eventctrl, Wait, Disable, Null, Unmodelled, NoStmt}
use Rattle.kinds.specs.Named.{stmt_class, has_default}
use Rattle.paths.specs.Commands.{PathEvent, out_of_loop, out_of_round, Command, run_skip, run_seq, run_right}
use Rattle.paths.specs.Semantics.{row_order, free_order, under}
use Rattle.paths.specs.Evaluation.{is_true, is_false, is_unknown, Evaluation, in_order, no_evaluation}
use Rattle.paths.proofs.Within.{Within, within_refl, within_trans, within_seq, within_alt, within_right, within_star, within_catch, within_then, same_assoc}
use Rattle.paths.proofs.AnyOrder.{as_they_stand, every_order}
use Rattle.paths.proofs.WithinFree.{EvaluationWithin, none_within, together_within, evaluations_within}
use Rattle.stmt_paths.specs.Execution.{Execution, plain, no_execution, unmet, one_by_one, all_labels, no_arm, chosen_labels, chosen_arm, case_statement, loop, blocking_assignment, nonblocking_assignment, execution_of, held_evaluations_at, held_evaluations, execution_at, executions, executed, IsPath}

-- however the row runs, its labels, and whether it is a default
record ExecutionWithin (r q : Execution) : Type 0 where
  run : Within r.run q.run
  labels : Pairwise EvaluationWithin r.labels q.labels
  default : r.is_default ≡ q.is_default

plainly : {c d : Command} → Within c d → ExecutionWithin (plain c) (plain d)
plainly p = record { run = p; labels = no_pair; default = refl }

nothing_within : ExecutionWithin no_execution no_execution
nothing_within = plainly within_refl

unmet_within : {e d : Evaluation} → EvaluationWithin e d → Within (unmet e) (unmet d)
unmet_within p = within_alt (p.truth is_false) (p.truth is_unknown)

cond_within : (b : Bool) {c d c' d' : Command} → Within c c' → Within d d' → Within (cond b c d) (cond b c' d')
cond_within true p q = p
cond_within false p q = q

-- lists
rows_within : {rs qs : List Execution} → Pairwise ExecutionWithin rs qs → Within (one_by_one rs) (one_by_one qs)
rows_within no_pair = within_refl
rows_within (pair p ps) = within_seq p.run (rows_within ps)

in_order_within : {es ds : List Evaluation} → Pairwise EvaluationWithin es ds → Within (in_order es) (in_order ds)
in_order_within no_pair = within_refl
in_order_within (pair p ps) = within_seq p.value (in_order_within ps)

labels_within : {rs qs : List Execution} → Pairwise ExecutionWithin rs qs → Within (all_labels rs) (all_labels qs)
labels_within no_pair = within_refl
labels_within (pair p ps) = within_seq (in_order_within p.labels) (labels_within ps)

chosen_labels_within : {es ds : List Evaluation} → Pairwise EvaluationWithin es ds → Within (chosen_labels row_order es) (chosen_labels free_order ds)
chosen_labels_within no_pair = within_refl
chosen_labels_within (pair p ps) = within_seq p.value (within_right (chosen_labels_within ps))

-- a case
same_default : {rs qs : List Execution} → Pairwise ExecutionWithin rs qs → has_default (λ r. r.is_default) rs ≡ has_default (λ r. r.is_default) qs
same_default no_pair = refl
same_default (pair p ps) = rw (p.default, same_default ps)

no_arm_within : (b : Bool) (n : ℕ) {c d : Command} → Within c d → Within (no_arm b n c) (no_arm b n d)
no_arm_within true n p = within_refl
no_arm_within false n p = within_seq within_refl p

chosen_within : (a b : Bool) {c d c' d' : Command} → a ≡ b → Within c c' → Within d d' → Within (cond a c d) (cond b c' d')
chosen_within a b e p q = rw e (cond_within b p q)

arms_within : (n : ℕ) (default : Bool) {rs qs : List Execution} {before before' all all' : Command} → Pairwise ExecutionWithin rs qs → Within before before' → Within all all'
    → Within (chosen_arm row_order n before all default rs) (chosen_arm free_order n before' all' default qs)
arms_within n default no_pair p q = no_arm_within default n q
arms_within n default (pair {x = r} {y = s} h hs) p q =
    within_alt (within_seq within_refl (within_seq (chosen_within r.is_default s.is_default h.default q (within_seq p (chosen_labels_within h.labels))) h.run))
    (arms_within (suc n) default hs (within_seq p (in_order_within h.labels)) q)

case_within : {e d : Evaluation} {rs qs : List Execution} → EvaluationWithin e d → Pairwise ExecutionWithin rs qs → Within (case_statement row_order e rs) (case_statement free_order d qs)
case_within {qs = qs} p ps = within_seq p.value (rw (same_default ps) (arms_within 0 (has_default (λ r. r.is_default) qs) ps within_refl (labels_within ps)))

-- a loop
loop_within : (s : ℕ) {h b t e h' b' t' e' : Command} → Within h h' → Within b b' → Within t t' → Within e e' → Within (loop s h b t e) (loop s h' b' t' e')
loop_within s p q r i =
    let round = within_seq p (within_seq (within_catch out_of_round q) r) in
    let rest = within_seq (within_star round) i in
    within_catch out_of_loop (cond_within (eqb s 1) (within_seq round rest) rest)

-- an assignment: the four as they stand, then the write, which row order has in one with the selects
module _ {ds ds' : List Evaluation} {e e' t t' v v' : Evaluation} (pd : Pairwise EvaluationWithin ds ds') (pe : EvaluationWithin e e') (pt : EvaluationWithin t t') (pv : EvaluationWithin v v') where
  assignment_within : Within (blocking_assignment row_order ds e t v) (blocking_assignment free_order ds' e' t' v')
  assignment_within =
      within_trans (within_seq pv.value (within_seq (together_within pd) (within_seq pe.value (within_trans pt.store (within_seq (within_then run_skip within_refl) within_refl)))))
      (within_trans (within_seq within_refl (within_trans (within_seq within_refl same_assoc.forth) same_assoc.forth))
      (within_trans same_assoc.forth (within_seq (every_order (as_they_stand _)) within_refl)))

  -- a nonblocking: the right side, and none of the others
  nonblocking_within : Within (nonblocking_assignment row_order ds e t v) (nonblocking_assignment free_order ds' e' t' v')
  nonblocking_within =
      within_trans (within_then (run_seq (run_right run_skip) (run_seq (run_right run_skip) (run_seq (run_right run_skip) run_skip))) pv.value)
      (every_order (as_they_stand _))

module _ (x : ℕ) (marks : ℕ → Bool) (s : ℕ) (cs : Forest) {es ds : List Evaluation} (held held' : List (List Evaluation)) {rs qs : List Execution}
    (pe : Pairwise EvaluationWithin es ds) (ph : Pairwise EvaluationWithin (nth [] 0 held) (nth [] 0 held')) (pr : Pairwise ExecutionWithin rs qs) where
  expr : (n : ℕ) → EvaluationWithin (nth no_evaluation n es) (nth no_evaluation n ds)
  expr n = related_at no_evaluation no_evaluation n none_within pe

  child : (n : ℕ) → ExecutionWithin (nth no_execution n rs) (nth no_execution n qs)
  child n = related_at no_execution no_execution n nothing_within pr

  class_within : (k : StmtClass) → ExecutionWithin (execution_of (under row_order) x marks k s cs es held rs) (execution_of (under free_order) x marks k s cs ds held' qs)
  class_within Match = record { run = (child 0).run; labels = related_tail pe; default = refl }
  class_within Default = record { run = (child 0).run; labels = no_pair; default = refl }
  class_within Decl = plainly (expr 0).value
  class_within Blocking = plainly (assignment_within ph (expr 1) (expr 2) (expr 3))
  class_within Nonblocking = plainly (nonblocking_within ph (expr 1) (expr 2) (expr 3))
  class_within If = plainly (within_alt (within_seq ((expr 0).truth is_true) (child 1).run) (within_seq (unmet_within (expr 0)) (child 2).run))
  class_within Return = plainly (within_seq (expr 0).value within_refl)
  class_within Case = plainly (case_within (expr 0) (related_tail pr))
  class_within For = plainly (within_seq (child 0).run (loop_within s ((expr 1).truth is_true) (child 3).run (child 2).run (unmet_within (expr 1))))
  class_within While = plainly (loop_within s ((expr 0).truth is_true) (child 1).run within_refl (unmet_within (expr 0)))
  class_within Repeat = plainly (within_seq (expr 0).value (loop_within s within_refl (child 1).run within_refl within_refl))
  class_within Forever = plainly (loop_within s within_refl (child 0).run within_refl within_refl)
  class_within Block = plainly (rows_within pr)
  class_within Fork = plainly within_refl
  class_within Systask = plainly (together_within pe)
  class_within Task = plainly within_refl
  class_within Delayctrl = plainly (within_seq (together_within ph) (child 1).run)
  class_within Eventctrl = plainly (within_seq (expr 0).value (child 1).run)
  class_within Wait = plainly (within_alt (within_seq ((expr 0).truth is_true) (child 1).run) (within_seq (unmet_within (expr 0)) within_refl))
  class_within Disable = plainly within_refl
  class_within Null = plainly within_refl
  class_within Unmodelled = plainly within_refl
  class_within Absent = nothing_within
  class_within NoStmt = nothing_within

held_within : (x : ℕ) (f : Forest) → Pairwise EvaluationWithin (nth [] 0 (held_evaluations (under row_order) x f)) (nth [] 0 (held_evaluations (under free_order) x f))
unfolding fold held_evaluations_at
held_within x nil = no_pair
held_within x (node k s lo hi cs others) = evaluations_within x cs

module _ (x : ℕ) (marks : ℕ → Bool) where
  row_within : (k s lo hi : ℕ) (cs : Forest) → Pairwise ExecutionWithin (executions (under row_order) x marks cs) (executions (under free_order) x marks cs)
      → ExecutionWithin (execution_at (under row_order) x marks k s lo hi cs (executions (under row_order) x marks cs)) (execution_at (under free_order) x marks k s lo hi cs (executions (under free_order) x marks cs))
  unfolding execution_at
  row_within k s lo hi cs ps = class_within x marks s cs (held_evaluations (under row_order) x cs) (held_evaluations (under free_order) x cs) (evaluations_within x cs) (held_within x cs) ps (stmt_class k)

  executions_within : (f : Forest) → Pairwise ExecutionWithin (executions (under row_order) x marks f) (executions (under free_order) x marks f)
  executions_within f = fold_related (execution_at (under row_order) x marks) (execution_at (under free_order) x marks) row_within f

  pub executed_within : (f : Forest) → Within (executed (under row_order) x marks f) (executed (under free_order) x marks f)
  executed_within f = (related_at no_execution no_execution 0 nothing_within (executions_within f)).run

  -- every path in row order is one in free order
  pub row_among_free : (f : Forest) (t : List PathEvent) → IsPath (under row_order) x marks f t → IsPath (under free_order) x marks f t
  row_among_free f t p = record { ending = p.ending; runs = (executed_within f).go t p.ending p.runs }
