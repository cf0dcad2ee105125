-- The law of a statement, for every row: by induction over the tree, each class from the laws of its children. Of expressions only their
-- law is cited.
use mathlib.Core.Path.{◌≡◌, refl, sym, ◌∙◌}
use mathlib.Core.Bool.{Bool, true, false, cond, ◌&&◌, not}
use mathlib.Core.List.{List, []}
use borrow.Author.Tests.{not-true}
use Prim.Native.Nat.{ℕ}
use lib.Dec.{eqb}
use Rattle.table.specs.Rows.{Forest, nil, node}
use Rattle.table.specs.Fold.{fold, nth, Pairwise, no_pair, pair}
use Rattle.table.proofs.Fold.{related_at, related_tail}
use Rattle.kinds.specs.declared.StmtClass.{StmtClass}
use Rattle.kinds.specs.declared.StmtClass.TheVariants.{Absent, Match, Default, Decl, Blocking, Nonblocking, If, Return, Case, For, While, Repeat, Forever, Block, Fork, Systask, Task, Delayctrl, Eventctrl, Wait, Disable, Null, Unmodelled, NoStmt}
use Rattle.kinds.specs.Named.{expr_class, stmt_class, task_effect, has_default}
use Rattle.kinds.proofs.Below.{both_true, neither, true_not_false}
use Rattle.reads.specs.declared.Iff.TheVariants.{Skipped, Included}
use Rattle.reads.specs.PathRows.{is_loop_jump}
use Rattle.reads.specs.Mentions.{mentions, refers}
use Rattle.reads.specs.NoRef.{vetting, vetted, stmt_no_ref}
use Rattle.reads.specs.Iffs.{iff_quiet}
use Rattle.reads.proofs.Trees.{refers_node, refers_row, quiet_children, quiet_others, quiet_alone, refers_quiet}
use Rattle.paths.specs.Marks.{Mark, full, ◌⊑◌, ⊑_refl, ⊑_full, blank_⊑}
use Rattle.paths.specs.Commands.{read, write, Command, skip, emit, seq}
use Rattle.paths.specs.Semantics.{Order, InFreeOrder, Semantics}
use Rattle.paths.specs.Triples.{at, never, Triple}
use Rattle.paths.specs.Evaluation.{is_true, Evaluation, no_evaluation}
use Rattle.paths.specs.Evaluates.{Evaluates, AllEvaluate}
use Rattle.paths.proofs.Rules.{less, nowhere, weaken, rule_skip, rule_write, rule_read, rule_outside, rule_choice, rule_stops, rule_leaves, rule_again, rule_seq, rule_alt}
use Rattle.paths.proofs.AnyOrder.{in_free}
use Rattle.paths.proofs.Evaluating.{all_together, evaluates_lift, evaluates_place, write_keeps}
use Rattle.effect_rules.specs.Rules.{writes_when}
use Rattle.expr_effect.specs.Law.{ExprFacts, no_facts, NoneRefer, none_left, ExprLaw}
use Rattle.expr_effect.proofs.Laws.{expr_laws, no_law as no-expr-law, none_refer}
use Rattle.stmt_paths.specs.Execution.{Execution, plain, no_execution, one_by_one, if_statement, case_statement, while_loop, blocking_assignment, jump, execution_of, held_evaluations_at, held_evaluations, execution_at, executions}
use Rattle.stmt_paths.proofs.Conditions.{unmet_so}
use Rattle.stmt_paths.proofs.UnderOrder.{Target, target_keeps, right_keeps, assignment_so, Others, nonblocking_so}
use Rattle.loops.proofs.Staying.{NeverJumps, stay, stay_at}
use Rattle.da.specs.declared.DaOut.TheVariants.{Falls, Jumps}
use Rattle.std.specs.Prelude.{Ok}
use Rattle.da.specs.declared.CallEffect.TheVariants.{Inert, Writes as CallWrites, Reads as CallReads, Unknown}
use Rattle.da.specs.declared.Reason.{Reason}
use Rattle.da.specs.declared.Reason.TheVariants.{Forks, TaskReads, TaskUnknown, NotModelled}
use Rattle.da.specs.Outcome.{DaResult, State, written, is_written, gains, merge, ◌▷◌, give_up}
use Rattle.da.specs.Walk.{DaCtx, Walk, StmtRow, expr_out_writes, gains_when, stmt, no_walk, assigned, blocking, block, else_from, if_else, arms, case_of, rounds, while_true, task, referring, walk_of, held_facts_at, held_facts, stmt_row, walk_at, walks}
use Rattle.soundness.specs.Demand3.{OrderPremise}
use Rattle.soundness.proofs.Known.{known, known_written, known_all, known_gains, known_gained, gains_nothing}
use Rattle.soundness.proofs.Sound.{Sound, sound_falls, sound_jumps, sound_stop, loose, unless, by_test, sound_then, sound_or_stop, sound_next, sound_state, sound_merge}
use Rattle.soundness.proofs.Asking.{once_unmet, asked_keeps, asked_gains, unless_read_lem, when_evaluated, refers_keeps, unless_one_read_lem, calm_each, quiet_each}
use Rattle.soundness.proofs.Law.{StmtLaw, no_law}
use Rattle.soundness.proofs.Looping.{rounds_so}
use Rattle.soundness.proofs.Choosing.{arms_so}
use Rattle.soundness.proofs.Nonblocking.{OthersQuiet, others_so, row_others_quiet, quiet_below, quiet_after}

-- Constructs

-- a statement that is no arm
plain_law : {walk : State → DaResult} {c : Command} → ((a : State) → Sound (known a) c (walk a)) → StmtLaw (stmt walk) (plain c)
plain_law h = record { sound = h; labels = no_pair; default = refl; absent = λ q. true_not_false (sym q) }

-- statements one after the other
block_so : {ws : List Walk} {rs : List Execution} → Pairwise StmtLaw ws rs → (a : State) → Sound (known a) (one_by_one rs) (block ws a)
block_so no_pair a = sound_falls rule_skip
block_so (pair {xs = ws} l ls) a = sound_next (block ws) (l.sound a) (block_so ls)

-- the local is asked to be written, and then anything is fine
written_so : {c : Command} (reason : Reason) (lo hi : ℕ) (a : State) → Triple full c (at full) never → Sound (known a) c (cond (is_written a) (Ok (Falls written)) (give_up reason lo hi))
written_so {c} reason lo hi a h = by_test (Sound (known a) c) (is_written a) (λ q. sound_falls (rw (known_all a q, known_written) (loose h))) (λ q. sound_stop)

-- a task, by the tests of its effect
effect_so : (lo hi : ℕ) (a : State) (zero one two : Bool)
    → Sound (known a) (cond zero skip (cond one (emit write) (emit read))) (task (cond zero Inert (cond one CallWrites (cond two CallReads Unknown))) lo hi a)
effect_so lo hi a true one two = sound_falls rule_skip
effect_so lo hi a false true two = sound_falls {b = written} (rw known_written rule_write)
effect_so lo hi a false false true = written_so TaskReads lo hi a (rule_read ⊑_refl)
effect_so lo hi a false false false = written_so TaskUnknown lo hi a (rule_read ⊑_refl)

-- a disable
jump_so : (is_jump : Bool) (a : State) → Sound (known a) (jump is_jump) (cond is_jump (Ok Jumps) (Ok (Falls a)))
jump_so true a = sound_jumps (rule_alt (rule_seq (rule_choice 0) (loose rule_leaves)) (rule_seq (rule_choice 1) (loose rule_again)))
jump_so false a = sound_falls rule_skip

module _ (o : Order) (r : StmtRow) {delays : List ExprFacts} {event target right : ExprFacts} {ds : List Evaluation} {e t v : Evaluation}
    (ld : Pairwise ExprLaw delays ds) (le : ExprLaw event e) (lt : ExprLaw target t) (lr : ExprLaw right v) (a : State) where
  -- written before, or by the right side, where the target does not refer
  part_so : is_written (gains (not target.refers && expr_out_writes right) a) ≡ true → AllEvaluate (known a) ds → Evaluates (known a) (known a) e → Evaluates (known a) (known a) v
      → Evaluates (known a) (known (gains (expr_out_writes right) a)) v
      → Triple (known a) (blocking_assignment o ds e t v) (at full) never
  part_so q hd he hv k = go (not target.refers && expr_out_writes right) refl q
    where
      go : (w : Bool) → not target.refers && expr_out_writes right ≡ w → is_written (gains w a) ≡ true → Triple (known a) (blocking_assignment o ds e t v) (at full) never
      go true p q =
          let both = both_true (not target.refers) (expr_out_writes right) p in
          assignment_so o hd he
          (record { selects = (evaluates_lift blank_⊑ (lt.quiet (not-true target.refers both.0))).value; store = lt.calm.store; write = write_keeps t.is_plain_local })
          (record { more = ⊑_full; keeps = hv.value; gains = rw (known_gained (expr_out_writes right) a both.1) at k.value })
      go false p q = rw (known_all a (rw (gains_nothing false a refl) at q)) (assignment_so o (calm_each ld) le.calm (target_keeps lt.calm) (right_keeps lr.calm))

  -- the plain local
  plain_so : target.plain ≡ true → Target (known a) (known a) full t
  plain_so p =
      let l = lt.plainly p in
      record { selects = (evaluates_lift blank_⊑ l.unread).value; store = weaken blank_⊑ (less ⊑_refl) nowhere l.stored; write = rw l.plain rule_write }

  assigned_so : AllEvaluate (known a) ds → Evaluates (known a) (known a) e → Evaluates (known a) (known a) v → Evaluates (known a) (known (gains (expr_out_writes right) a)) v
      → Sound (known a) (blocking_assignment o ds e t v) (assigned target.plain (gains (not target.refers && expr_out_writes right) a) r.lo r.hi)
  assigned_so hd he hv hw =
      by_test (Sound _ _) target.plain
      (λ p. sound_falls (rw known_written (loose (assignment_so o hd he (plain_so p) (right_keeps hv)))))
      (λ p. by_test (Sound _ _) (is_written (gains (not target.refers && expr_out_writes right) a)) (λ q. sound_falls (rw (known_all _ q) (loose (part_so q hd he hv hw)))) (λ q. sound_stop))

  blocking_so : Sound (known a) (blocking_assignment o ds e t v) (blocking r delays event target right a)
  blocking_so =
      unless_one_read_lem (Sound _ _) (λ g. sound_stop) ld a
      (λ hd. unless (Sound _ _) (not (is_written a) && event.refers) sound_stop
      (λ he. unless_read_lem lr a (Sound _ _) (λ g. sound_stop)
      (λ hv. assigned_so hd (refers_keeps le a he) (asked_keeps lr a hv) (asked_gains lr a hv))))

else_so : {e : Walk} {x : Execution} {a : Mark} {c : Command} (after in_else : State) → StmtLaw e x → known after ⊑ known in_else → Triple a c (at (known in_else)) never → Sound a (seq c x.run) (else_from e after in_else)
else_so {e} after in_else l p h =
    by_test (Sound _ _) e.is_absent
    (λ q. sound_falls (weaken ⊑_refl (less p) nowhere (rule_seq h (l.absent q (known in_else)))))
    (λ q. sound_then (loose h) (l.sound in_else))

if_so : {c : ExprFacts} {v : Evaluation} {t e : Walk} {t_run e_run : Execution} → ExprLaw c v → StmtLaw t t_run → StmtLaw e e_run → (a : State) → Sound (known a) (if_statement v t_run e_run) (if_else c t e a)
if_so {c} {v} {t} {e} lc lt le a =
    when_evaluated lc a (Sound _ _) (λ g. sound_stop) (λ after. t.walk (gains_when c true after) ▷ λ a_then. else_from e after (gains_when c false after) ▷ λ a_else. Ok (merge a_then a_else))
    (λ h.
    let after = gains (expr_out_writes c) a in
    sound_merge (sound_then (loose (h.once_so true is_true tt)) (lt.sound (gains_when c true after))) (else_so after (gains_when c false after) le (known_gains (writes_when c.effects false) after) (once_unmet h)))

case_so : (o : Order) {c : ExprFacts} {v : Evaluation} {ws : List Walk} {rs : List Execution} → ExprLaw c v → Pairwise StmtLaw ws rs → (a : State) → Sound (known a) (case_statement o v rs) (case_of c ws a)
case_so o {c} {ws = ws} lc lw a =
    when_evaluated lc a (Sound _ _) (λ g. sound_stop) (λ after. arms ws after Jumps ▷ λ all. cond (has_default (λ w. w.is_default) ws && not (is_written after)) (Ok all) (Ok (Falls after)))
    (λ h. sound_then (loose h.evaluates.value) (arms_so o lw (gains (expr_out_writes c) a)))

-- One row, from its children

module _ (sem : Semantics) (ctx : DaCtx) (r : StmtRow) (cs : Forest) {es : List ExprFacts} {vs : List Evaluation} (held : List (List ExprFacts)) (held_vs : List (List Evaluation)) {ws : List Walk} {rs : List Execution}
    (le : Pairwise ExprLaw es vs) (lh : Pairwise ExprLaw (nth [] 0 held) (nth [] 0 held_vs)) (lw : Pairwise StmtLaw ws rs)
    (jumps : r.is_jump ≡ is_loop_jump ctx.marks cs)
    (stays : (n : ℕ) → nth true n r.cannot_escape ≡ true → NeverJumps (nth no_execution n rs).run)
    (quiet : refers Skipped ctx.local cs ≡ false → NoneRefer es) (quiet-held : refers Skipped ctx.local cs ≡ false → NoneRefer (nth [] 0 held))
    (same : refers Skipped ctx.local cs ≡ refers Included ctx.local cs) where
  expr : (n : ℕ) → ExprLaw (nth no_facts n es) (nth no_evaluation n vs)
  expr n = related_at no_facts no_evaluation n no-expr-law le

  child : (n : ℕ) → StmtLaw (nth no_walk n ws) (nth no_execution n rs)
  child n = related_at no_walk no_execution n no_law lw

  -- the tests of da_stmt: time, then no reference
  tested : {arm : State → DaResult} {c : Command} → (r.no_ref ≡ true → (a : State) → Triple (known a) c (at (known a)) never) → (r.no_ref ≡ false → (a : State) → Sound (known a) c (arm a)) → StmtLaw (referring ctx r arm) (plain c)
  tested h k = plain_law λ a. unless (Sound _ _) (ctx.timed && r.advances) sound_stop (λ q. by_test (Sound _ _) r.no_ref (λ p. sound_falls (loose (h p a))) (λ p. k p a))

  -- a form that stmt_no_ref does not vet
  unvetted : {arm : State → DaResult} {c : Command} → r.no_ref ≡ false → ((a : State) → Sound (known a) c (arm a)) → StmtLaw (referring ctx r arm) (plain c)
  unvetted n k = tested (λ p. true_not_false (sym p ∙ n)) (λ p. k)

  -- a loop that asks a condition
  while_so : (i b : ℕ) {step : Walk} {step_run : Execution} → StmtLaw step step_run → (a : State)
      → Sound (known a) (while_loop r.side (nth no_evaluation i vs) (nth no_execution b rs).run step_run.run) (while_true r (nth true b r.cannot_escape) (nth no_facts i es) (nth no_walk b ws) step a)
  while_so i b {step} {step_run} ls a =
      when_evaluated (expr i) a (Sound _ _) (λ g. sound_stop) (λ after. rounds r (nth true b r.cannot_escape) (nth no_walk b ws) step after (gains_when (nth no_facts i es) true after))
      (λ h. rounds_so (nth no_execution b rs).run step_run.run r (nth true b r.cannot_escape) _ _ (known_gains _ a) (known_gains _ _)
      (h.once_so true is_true tt) (unmet_so h.evaluates) (stays b) ((child b).sound _) (ls.sound _))

  row_law : (k : StmtClass) → r.no_ref ≡ vetted (vetting k) ctx.local cs → (k ≡ Nonblocking → InFreeOrder (OthersQuiet (nth [] 0 held) (nth no_facts 1 es) (nth no_facts 2 es)) sem.order)
      → StmtLaw (walk_of ctx k r es held ws) (execution_of sem ctx.local ctx.marks k r.side cs vs held_vs rs)
  row_law Absent n quietly = no_law
  row_law NoStmt n quietly = no_law
  row_law Match n quietly = record { sound = (child 0).sound; labels = related_tail le; default = refl; absent = λ q. true_not_false (sym q) }
  row_law Default n quietly = record { sound = (child 0).sound; labels = no_pair; default = refl; absent = λ q. true_not_false (sym q) }
  row_law Decl n quietly = plain_law λ a. unless_read_lem (expr 0) a (Sound _ _) (λ g. sound_stop) (λ q. sound_falls (loose (asked_keeps (expr 0) a q).value))
  row_law Disable n quietly = plain_law λ a. unless (Sound _ _) (ctx.timed && r.advances) sound_stop (λ q. rw jumps (jump_so (is_loop_jump ctx.marks cs) a))
  row_law Blocking n quietly =
      tested
      (λ p a. let q = not-true (refers Skipped ctx.local cs) (sym n ∙ p) in
      let all = quiet_each le (quiet q) in
      assignment_so sem.order (quiet_each lh (quiet-held q)) (evaluates_place 1 all) (target_keeps (evaluates_place 2 all)) (right_keeps (evaluates_place 3 all)))
      (λ p a. blocking_so sem.order r lh (expr 1) (expr 2) (expr 3) a)
  row_law Nonblocking n quietly =
      tested
      (λ p a. nonblocking_so sem.order (others a) (right_keeps (evaluates_place 3 (quiet_each le (quiet (not-true (refers Skipped ctx.local cs) (sym n ∙ p)))))))
      (λ p a. unless (Sound _ _) (not ctx.sole) sound_stop (λ q. unless_read_lem (expr 3) a (Sound _ _) (λ g. sound_stop)
      (λ h. sound_falls (loose (nonblocking_so sem.order (others a) (record { more = known_gains _ a; keeps = (asked_keeps (expr 3) a h).value; gains = (asked_gains (expr 3) a h).value }))))))
    where
      others : (a : State) → InFreeOrder (Others (known a) (nth [] 0 held_vs) (nth no_evaluation 1 vs) (nth no_evaluation 2 vs)) sem.order
      others a = in_free (others_so lh (expr 1) (expr 2) (known a)) (quietly refl)
  row_law If n quietly = unvetted n (if_so (expr 0) (child 1) (child 2))
  row_law Block n quietly = unvetted n (block_so lw)
  row_law Fork n quietly = unvetted n λ a. written_so Forks r.lo r.hi a (rule_outside ⊑_refl)
  row_law Unmodelled n quietly = unvetted n λ a. written_so NotModelled r.lo r.hi a (rule_outside ⊑_refl)
  row_law Null n quietly = tested (λ p a. rule_skip) (λ p a. written_so NotModelled r.lo r.hi a rule_skip)
  row_law Systask n quietly =
      tested
      (λ p a. all_together sem.order (quiet_each le (quiet (not-true (refers Skipped ctx.local cs) (sym n ∙ p)))))
      (λ p a. written_so NotModelled r.lo r.hi a (all_together sem.order (calm_each le)))
  row_law Case n quietly = unvetted n (case_so sem.order (expr 0) (related_tail lw))
  row_law For n quietly = unvetted n λ a. sound_state _ ((child 0).sound a) (while_so 1 3 (child 2))
  row_law While n quietly = unvetted n (while_so 0 1 no_law)
  row_law Repeat n quietly =
      unvetted n λ a.
      when_evaluated (expr 0) a (Sound _ _) (λ g. sound_stop) (λ after. rounds r (nth true 1 r.cannot_escape) (nth no_walk 1 ws) no_walk after after)
      (λ h. sound_then (loose h.evaluates.value) (rounds_so (nth no_execution 1 rs).run skip r (nth true 1 r.cannot_escape) _ _ ⊑_refl ⊑_refl (rule_choice 1) (rule_choice 0) (stays 1) ((child 1).sound _) (no_law.sound _)))
  row_law Forever n quietly = unvetted n λ a. rounds_so (nth no_execution 0 rs).run skip r (nth true 0 r.cannot_escape) a a ⊑_refl ⊑_refl (rule_choice 1) rule_stops (stays 0) ((child 0).sound a) (no_law.sound a)
  row_law Return n quietly = unvetted n λ a. unless_read_lem (expr 0) a (Sound _ _) (λ g. sound_stop) (λ q. sound_jumps (rule_seq (loose (asked_keeps (expr 0) a q).value) rule_stops))
  row_law Task n quietly =
      tested
      (λ p a. rw (← same, sym n ∙ p) rule_skip)
      (λ p a. rw (← same, sym n ∙ p) (effect_so r.lo r.hi a (eqb (task_effect r.side) 0) (eqb (task_effect r.side) 1) (eqb (task_effect r.side) 2)))
  row_law Delayctrl n quietly = unvetted n λ a. unless_one_read_lem (Sound _ _) (λ g. sound_stop) lh a (λ h. sound_then (loose (all_together sem.order h)) ((child 1).sound a))
  row_law Eventctrl n quietly = unvetted n λ a. unless (Sound _ _) (not (is_written a) && (nth no_facts 0 es).refers) sound_stop (λ q. sound_then (loose (refers_keeps (expr 0) a q).value) ((child 1).sound a))
  row_law Wait n quietly =
      unvetted n λ a.
      unless_read_lem (expr 0) a (Sound _ _) (λ g. sound_stop)
      (λ q. let h = asked_keeps (expr 0) a q in sound_or_stop (sound_then (loose (h.truth is_true)) ((child 1).sound a)) (unmet_so h))

-- Every row

held_laws : (sem : Semantics) (x : ℕ) (f : Forest) → iff_quiet x f ≡ true → Pairwise ExprLaw (nth [] 0 (held_facts x f)) (nth [] 0 (held_evaluations sem x f))
unfolding fold held_facts_at held_evaluations_at
held_laws sem x nil q = no_pair
held_laws sem x (node k s lo hi cs others) q = expr_laws sem x cs (quiet_children x k s lo hi cs others q)

-- what the first row holds does not refer, if none of the rows does
held_quiet : (x : ℕ) (f : Forest) → iff_quiet x f ≡ true → refers Skipped x f ≡ false → NoneRefer (nth [] 0 (held_facts x f))
unfolding fold held_facts_at
held_quiet x nil q e = none_left
held_quiet x (node k s lo hi cs others) q e = none_refer x cs (refers_quiet x cs (quiet_children x k s lo hi cs others q) ∙ below)
  where
    below : refers Included x cs ≡ false
    below =
        let here = (neither (refers Skipped x (node k s lo hi cs nil)) (refers Skipped x others) (sym (refers_node Skipped x k s lo hi cs others) ∙ e)).0 in
        let held = sym (refers_quiet x (node k s lo hi cs nil) (quiet_alone x k s lo hi cs others q)) ∙ here in
        (neither (mentions x (expr_class k) cs) (refers Included x cs) (sym (refers_row x k s lo hi cs) ∙ held)).1

pub stmt_laws : (sem : Semantics) (ctx : DaCtx) (f : Forest) → iff_quiet ctx.local f ≡ true → OrderPremise sem.order ctx.local f → Pairwise StmtLaw (walks ctx f) (executions sem ctx.local ctx.marks f)
unfolding fold walk_at execution_at stmt_no_ref
stmt_laws sem ctx nil q h = no_pair
stmt_laws sem ctx (node k s lo hi cs others) q h =
    let c = quiet_children ctx.local k s lo hi cs others q in
    pair
    (row_law sem ctx (stmt_row ctx k s lo hi cs) cs (held_facts ctx.local cs) (held_evaluations sem ctx.local cs) (expr_laws sem ctx.local cs c) (held_laws sem ctx.local cs c)
    (stmt_laws sem ctx cs c (in_free (quiet_below ctx.local k s lo hi cs others) h)) refl
    (λ n. stay_at n (stay sem ctx.local ctx.marks cs)) (none_refer ctx.local cs) (held_quiet ctx.local cs c) (refers_quiet ctx.local cs c) (stmt_class k) refl
    (λ e. in_free (λ i. row_others_quiet ctx.local k s lo hi cs others i c e) h))
    (stmt_laws sem ctx others (quiet_others ctx.local k s lo hi cs others q) (in_free (quiet_after ctx.local k s lo hi cs others) h))
