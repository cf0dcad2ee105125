-- Lists and loops of any length: each row of a block runs where those before it have fallen, each arm of a case can be chosen, by its
-- number and after the labels that document 01 names, or in free order up to any one of the arm's own, and no run of a case is another;
-- and a loop runs any number of rounds, and does nothing else. The joint facts of Strength and AllOrders know short lists and three
-- rounds only. By induction over the arms, the labels and the rounds.
use mathlib.Core.Path.{◌≡◌, refl, ap}
use mathlib.Core.Bool.{Bool, true, false, cond, ◌||◌}
use mathlib.Core.List.{List, [], ◌∷◌, ◌++◌}
use Prim.Native.Nat.{ℕ, zero, suc, ◌+◌}
use native.Mathlib.Nat.{add-zero, zero-add}
use native.Mathlib.Omega.{arith}
use lib.Dec.{eqb}
use lib.ListN.{length}
use Rattle.table.specs.Rows.{Forest}
use Rattle.table.specs.Fold.{nth}
use Rattle.kinds.specs.declared.StmtClass.{StmtClass}
use Rattle.kinds.specs.declared.StmtClass.TheVariants.{Match, Blocking, Nonblocking, Case, Block, Systask, Delayctrl}
use Rattle.kinds.specs.Named.{has_default}
use Rattle.paths.specs.Commands.{PathEvent, Ending, falls, stops, choice, out_of_loop, Command, skip, emit, exit, seq, alt, star, catch, Runs, run_stop, run_skip, run_seq, run_off, run_left, run_right, run_none, run_more, run_catch}
use Rattle.paths.specs.Semantics.{Order, row_order, free_order, Semantics, under}
use Rattle.paths.specs.AnyOrder.{any_order}
use Rattle.paths.specs.Evaluation.{Evaluation, in_order, values, write_if, no_evaluation}
use Rattle.kinds.proofs.Below.{true_not_false}
use Rattle.paths.specs.Each.{Each}
use Rattle.paths.proofs.Within.{Within, within_refl, within_trans, within_seq, within_left, within_right, within_catch, Same, same_refl, same_sym, same_trans, same_seq, same_skip, same_assoc}
use Rattle.paths.proofs.AnyOrder.{InAnyOrder, in_any_order, InAnyOrderThen, in_any_order_then}
use Rattle.paths.proofs.AnyLength.{in_turn_lem, in_order_append}
use Rattle.stmt_paths.specs.Execution.{Execution, no_execution, one_by_one, no_arm, all_labels, chosen_labels, chosen_arm, round, loop, execution_of}

-- Rows of a block, arguments of a system task

module _ (x : ℕ) (marks : ℕ → Bool) (s : ℕ) (cs : Forest) (held : List (List Evaluation)) where
  -- "Block: initialisers, then statements", however many
  pub every_row : (sem : Semantics) (es : List Evaluation) (before : List Execution) (r : Execution) (after : List Execution)
      → Same (execution_of sem x marks Block s cs es held (before ++ (r ∷ after))).run (seq (one_by_one before) (seq r.run (one_by_one after)))
  every_row sem es before r after = in_turn_lem (λ q. q.run) one_by_one refl (λ q more. refl) before (r ∷ after)

  -- "A systask evaluates its arguments", however many
  pub every_systask_argument : (rs : List Execution) (before : List Evaluation) (e : Evaluation) (after : List Evaluation)
      → Same (execution_of (under row_order) x marks Systask s cs (before ++ (e ∷ after)) held rs).run (seq (in_order before) (seq e.value (in_order after)))
  every_systask_argument rs before e after = in_order_append before (e ∷ after)

  pub systask_in_any_order : (rs : List Execution) (es : List Evaluation) → InAnyOrder (values es) (execution_of (under free_order) x marks Systask s cs es held rs).run
  systask_in_any_order rs es = in_any_order (values es)

-- What an assignment, a nonblocking and a delay control evaluate in free order, however much a delay holds
module _ (x : ℕ) (marks : ℕ → Bool) (s : ℕ) (cs : Forest) (es : List Evaluation) (held : List (List Evaluation)) (rs : List Execution) where
  abbrev free_run : StmtClass → Command
  free_run k = (execution_of (under free_order) x marks k s cs es held rs).run

  abbrev delayed : Command
  delayed = any_order (values (nth [] 0 held))

  pub blocking_in_any_order :
      InAnyOrderThen ((nth no_evaluation 3 es).value ∷ delayed ∷ (nth no_evaluation 1 es).value ∷ (nth no_evaluation 2 es).value ∷ []) (write_if (nth no_evaluation 2 es).is_plain_local) (free_run Blocking)
  blocking_in_any_order = in_any_order_then _ _

  pub nonblocking_in_any_order :
      InAnyOrder ((nth no_evaluation 3 es).value ∷ alt delayed skip ∷ alt (nth no_evaluation 1 es).value skip ∷ alt (nth no_evaluation 2 es).value skip ∷ []) (free_run Nonblocking)
  nonblocking_in_any_order = in_any_order _

  pub delay_in_any_order : InAnyOrderThen (values (nth [] 0 held)) (nth no_execution 1 rs).run (free_run Delayctrl)
  delay_in_any_order = in_any_order_then _ _

-- Arms of a case

-- the labels of these arms, in row order
abbrev pub labels_in_order : List Execution → List Evaluation
labels_in_order [] = []
labels_in_order (r ∷ rs) = r.labels ++ labels_in_order rs

-- "scrutinee, then labels in row order through the chosen arm's (all of them for a default ...), then that arm", by its number from 0;
-- in free order up to any one of the chosen arm's
abbrev pub chooses_arm : Order → Evaluation → List Execution → Execution → List Execution → Command
chooses_arm o c before r after =
    seq c.value (seq (emit (choice (length before))) (seq (cond r.is_default (in_order (labels_in_order (before ++ (r ∷ after)))) (seq (in_order (labels_in_order before)) (chosen_labels o r.labels))) r.run))

-- "all of them for ... no arm", by "the count of arms"
abbrev pub chooses_none : Evaluation → List Execution → Command
chooses_none c rs = seq c.value (seq (emit (choice (length rs))) (in_order (labels_in_order rs)))

-- "no arm only where no default stands"
abbrev pub NoDefault : List Execution → Type 0
NoDefault = Each (λ r. r.is_default ≡ false)

-- a run of a case: by one of its arms, by none, or not past the scrutinee
pub data CaseRun (order : Order) (c : Evaluation) (rs : List Execution) (t : List PathEvent) (o : Ending) : Type 0 where
  of_arm : (before : List Execution) (r : Execution) (after : List Execution) → rs ≡ before ++ (r ∷ after) → Runs (chooses_arm order c before r after) t o → CaseRun order c rs t o
  of_none : NoDefault rs → Runs (chooses_none c rs) t o → CaseRun order c rs t o
  of_scrutinee : Runs (seq c.value (exit stops)) t o → CaseRun order c rs t o

all_labels_lem : (rs : List Execution) → Same (in_order (labels_in_order rs)) (all_labels rs)
all_labels_lem [] = same_refl
all_labels_lem (r ∷ rs) = same_trans (in_order_append r.labels (labels_in_order rs)) (same_seq same_refl (all_labels_lem rs))

-- the labels of the chosen arm in free order: up to each one of them, and nothing else

pub every_label : (before : List Evaluation) (e : Evaluation) (after : List Evaluation) → Within (in_order (before ++ (e ∷ []))) (chosen_labels free_order (before ++ (e ∷ after)))
every_label [] e after = within_seq within_refl (within_left within_refl)
every_label (b ∷ before) e after = within_seq within_refl (within_right (every_label before e after))

pub data LabelsRun (es : List Evaluation) (t : List PathEvent) (o : Ending) : Type 0 where
  of_no_label : es ≡ [] → Runs skip t o → LabelsRun es t o
  up_to_label : (before : List Evaluation) (e : Evaluation) (after : List Evaluation) → es ≡ before ++ (e ∷ after) → Runs (in_order (before ++ (e ∷ []))) t o → LabelsRun es t o

pub only_labels : (es : List Evaluation) (t : List PathEvent) (o : Ending) → Runs (chosen_labels free_order es) t o → LabelsRun es t o
only_labels [] t o x = of_no_label refl x
only_labels (e ∷ es) _ _ run_stop = up_to_label [] e es refl run_stop
only_labels (e ∷ es) _ _ (run_off i x) = up_to_label [] e es refl (run_off i x)
only_labels (e ∷ es) _ _ (run_seq x run_stop) = up_to_label [] e es refl (run_seq x run_stop)
only_labels (e ∷ es) _ _ (run_seq x (run_left y)) = up_to_label [] e es refl (run_seq x y)
only_labels (e ∷ es) _ _ (run_seq {s = s} {t = t} {o = o} x (run_right y)) = later (only_labels es t o y)
  where
    later : LabelsRun es t o → LabelsRun (e ∷ es) (s ++ t) o
    later (of_no_label p z) = up_to_label [] e es refl (run_seq x z)
    later (up_to_label before d after p z) = up_to_label (e ∷ before) d after (ap (λ l. e ∷ l) p) (run_seq x z)

-- the arms from number m on, whichever is chosen: `first` are the labels that come first, `all` those of all arms
module _ (o : Order) where
  -- number m + count of `before`
  abbrev arm_from : ℕ → Command → Command → List Execution → Execution → Command
  arm_from m first all before r = seq (emit (choice (m + length before))) (seq (cond r.is_default all (seq first (seq (in_order (labels_in_order before)) (chosen_labels o r.labels)))) r.run)

  module _ (m : ℕ) (first all : Command) (r : Execution) where
    by_default : (default : Bool) {c d : Command} → Same c d → Same (cond default all c) (cond default all d)
    by_default true p = same_refl
    by_default false p = p

    arm_first : Same (seq (emit (choice m)) (seq (cond r.is_default all (seq first (chosen_labels o r.labels))) r.run)) (arm_from m first all [] r)
    arm_first = rw (add-zero m) (same_seq same_refl (same_seq (by_default r.is_default (same_seq same_refl same_skip)) same_refl))

    arm_later : (b : Execution) (before : List Execution) → Same (arm_from m first all (b ∷ before) r) (arm_from (suc m) (seq first (in_order b.labels)) all before r)
    arm_later b before =
        let e : m + suc (length before) ≡ suc m + length before = omega arith in
        rw e (same_seq same_refl (same_seq (by_default r.is_default labels) same_refl))
      where
        labels : Same (seq first (seq (in_order (b.labels ++ labels_in_order before)) (chosen_labels o r.labels))) (seq (seq first (in_order b.labels)) (seq (in_order (labels_in_order before)) (chosen_labels o r.labels)))
        labels = same_trans (same_seq same_refl (same_trans (same_seq (in_order_append b.labels (labels_in_order before)) same_refl) (same_sym same_assoc))) same_assoc

none_later : (m : ℕ) (all : Command) (rs : List Execution) (default : Bool) → no_arm default (m + suc (length rs)) all ≡ no_arm default (suc m + length rs) all
none_later m all rs default = let e : m + suc (length rs) ≡ suc m + length rs = omega arith in rw e

module _ (order : Order) (all : Command) (default : Bool) where
  arm_among : (m : ℕ) (first : Command) (before : List Execution) (r : Execution) (after : List Execution) → Within (arm_from order m first all before r) (chosen_arm order m first all default (before ++ (r ∷ after)))
  arm_among m first [] r after = within_trans (arm_first order m first all r).back (within_left within_refl)
  arm_among m first (b ∷ before) r after = within_trans (arm_later order m first all r b before).forth (within_right (arm_among (suc m) (seq first (in_order b.labels)) before r after))

  none_among : (m : ℕ) (first : Command) (rs : List Execution) → Within (no_arm default (m + length rs) all) (chosen_arm order m first all default rs)
  none_among m first [] = rw (add-zero m) within_refl
  none_among m first (r ∷ rs) = rw (none_later m all rs default) (within_right (none_among (suc m) (seq first (in_order r.labels)) rs))

  data FromRun (m : ℕ) (first : Command) (rs : List Execution) (t : List PathEvent) (o : Ending) : Type 0 where
    by_arm : (before : List Execution) (r : Execution) (after : List Execution) → rs ≡ before ++ (r ∷ after) → Runs (arm_from order m first all before r) t o → FromRun m first rs t o
    by_none : Runs (no_arm default (m + length rs) all) t o → FromRun m first rs t o

  from_run : (m : ℕ) (first : Command) (rs : List Execution) (t : List PathEvent) (o : Ending) → Runs (chosen_arm order m first all default rs) t o → FromRun m first rs t o
  from_run m first [] t o x = by_none (rw (add-zero m) x)
  from_run m first (r ∷ rs) _ _ run_stop = by_arm [] r rs refl run_stop
  from_run m first (r ∷ rs) _ _ (run_left {s = t} {o = o} x) = by_arm [] r rs refl ((arm_first order m first all r).forth.go t o x)
  from_run m first (r ∷ rs) _ _ (run_right {s = t} {o = o} x) = later (from_run (suc m) (seq first (in_order r.labels)) rs t o x)
    where
      later : FromRun (suc m) (seq first (in_order r.labels)) rs t o → FromRun m first (r ∷ rs) t o
      later (by_arm before q after e y) = by_arm (r ∷ before) q after (ap (λ l. r ∷ l) e) ((arm_later order m first all q r before).back.go t o y)
      later (by_none y) = by_none (rw (none_later m all rs default) y)

-- the labels from the first on
labels_through : (labels : Command) (rs : List Execution) (default : Bool) → Same (cond default (in_order (labels_in_order rs)) labels) (cond default (all_labels rs) (seq skip labels))
labels_through labels rs true = all_labels_lem rs
labels_through labels rs false = same_skip

arm_chosen : (o : Order) (c : Evaluation) (before : List Execution) (r : Execution) (after : List Execution) → Same (chooses_arm o c before r after) (seq c.value (arm_from o 0 skip (all_labels (before ++ (r ∷ after))) before r))
arm_chosen o c before r after =
    rw (zero-add (length before)) (same_seq same_refl (same_seq same_refl (same_seq (labels_through (seq (in_order (labels_in_order before)) (chosen_labels o r.labels)) (before ++ (r ∷ after)) r.is_default) same_refl)))

no_default : (rs : List Execution) → NoDefault rs → has_default (λ r. r.is_default) rs ≡ false
no_default [] n = refl
no_default (r ∷ rs) n = rw n.0 (no_default rs n.1)

default_nowhere : (rs : List Execution) → has_default (λ r. r.is_default) rs ≡ false → NoDefault rs
default_nowhere [] e = tt
default_nowhere (r ∷ rs) e = go r.is_default refl e (default_nowhere rs)
  where
    go : (d : Bool) → r.is_default ≡ d → d || has_default (λ r. r.is_default) rs ≡ false → (has_default (λ r. r.is_default) rs ≡ false → NoDefault rs) → NoDefault (r ∷ rs)
    go true p q h = absurd (true_not_false q)
    go false p q h = (p, h q)

module _ (sem : Semantics) (x : ℕ) (marks : ℕ → Bool) (s : ℕ) (cs : Forest) (es : List Evaluation) (held : List (List Evaluation)) where
  -- the labels of an arm are all its expressions
  pub match_labels : (body : Evaluation) (rs : List Execution) → (execution_of sem x marks Match s cs (body ∷ es) held rs).labels ≡ es
  match_labels body rs = refl

  -- each arm can be chosen, and where no default stands, none
  module _ (c : Evaluation) (q : Execution) where
    abbrev case_row : List Execution → Command
    case_row rs = (execution_of sem x marks Case s cs (c ∷ es) held (q ∷ rs)).run

    pub every_arm : (before : List Execution) (r : Execution) (after : List Execution) → Within (chooses_arm sem.order c before r after) (case_row (before ++ (r ∷ after)))
    every_arm before r after =
        let arms = before ++ (r ∷ after) in
        within_trans (arm_chosen sem.order c before r after).forth (within_seq within_refl (arm_among sem.order (all_labels arms) (has_default (λ r. r.is_default) arms) 0 skip before r after))

    pub no_arm_lem : (rs : List Execution) → NoDefault rs → Within (chooses_none c rs) (case_row rs)
    no_arm_lem rs n =
        within_seq within_refl
        (rw (no_default rs n)
        (within_trans (within_seq within_refl (all_labels_lem rs).forth) (rw (zero-add (length rs)) at (none_among sem.order (all_labels rs) false 0 skip rs))))

    -- and nothing else
    pub only_arms : (rs : List Execution) (t : List PathEvent) (o : Ending) → Runs (case_row rs) t o → CaseRun sem.order c rs t o
    only_arms rs _ _ run_stop = of_scrutinee run_stop
    only_arms rs _ _ (run_off i y) = of_scrutinee (run_off i y)
    only_arms rs _ _ (run_seq {s = u} {t = t} {o = o} y z) = chosen (from_run sem.order (all_labels rs) (has_default (λ r. r.is_default) rs) 0 skip rs t o z)
      where
        none : (d : Bool) → has_default (λ r. r.is_default) rs ≡ d → Runs (no_arm d (0 + length rs) (all_labels rs)) t o → CaseRun sem.order c rs (u ++ t) o
        none true e w = of_scrutinee (run_seq y w)
        none false e w = of_none (default_nowhere rs e) (run_seq y ((within_seq within_refl (all_labels_lem rs).back).go t o (rw (zero-add (length rs)) at w)))

        chosen : FromRun sem.order (all_labels rs) (has_default (λ r. r.is_default) rs) 0 skip rs t o → CaseRun sem.order c rs (u ++ t) o
        chosen (by_arm before r after e w) = of_arm before r after e ((arm_chosen sem.order c before r after).back.go (u ++ t) o (run_seq y (rw e at w)))
        chosen (by_none w) = none (has_default (λ r. r.is_default) rs) refl w

-- Rounds

-- so many times
abbrev pub times : ℕ → Command → Command
times zero r = skip
times (suc n) r = seq r (times n r)

times_within : (n : ℕ) (r : Command) → Within (times n r) (star r)
times_within zero r = record { go = go }
  where
    go : (t : List PathEvent) (o : Ending) → Runs skip t o → Runs (star r) t o
    go _ _ run_stop = run_stop
    go _ _ run_skip = run_none
times_within (suc n) r = record { go = λ t o x. run_more ((within_seq within_refl (times_within n r)).go t o x) }

-- how many rounds these are: one more where a first one always runs
abbrev pub round_count : Bool → ℕ → ℕ
round_count true n = suc n
round_count false n = n

record SomeTimes (first : Bool) (r : Command) (t : List PathEvent) (o : Ending) : Type 0 where
  count : ℕ
  runs : Runs (times (round_count first count) r) t o

star_times : {r : Command} (t : List PathEvent) (o : Ending) → Runs (star r) t o → SomeTimes false r t o
star_times _ _ run_stop = record { count = 0; runs = run_stop }
star_times _ _ run_none = record { count = 0; runs = run_skip }
star_times _ _ (run_more run_stop) = record { count = 0; runs = run_stop }
star_times _ _ (run_more (run_off i x)) = record { count = 1; runs = run_off i x }
star_times _ _ (run_more (run_seq {t = t} {o = o} x y)) = let more = star_times t o y in record { count = suc more.count; runs = run_seq x more.runs }

more_times : {r : Command} (t : List PathEvent) (o : Ending) → Runs (seq r (star r)) t o → SomeTimes true r t o
more_times _ _ run_stop = record { count = 0; runs = run_stop }
more_times _ _ (run_off i x) = record { count = 0; runs = run_off i x }
more_times _ _ (run_seq {t = t} {o = o} x y) = let more = star_times t o y in record { count = more.count; runs = run_seq x more.runs }

-- a run of a loop: so many rounds, then its end, a jump out of it caught
pub record LoopRun (s : ℕ) (r end : Command) (t : List PathEvent) (o : Ending) : Type 0 where
  pub count : ℕ
  pub runs : Runs (catch out_of_loop (seq (times (round_count (eqb s 1) count) r) end)) t o

module _ (r end : Command) where
  then_end : (first : Bool) {c : Command} → ((t : List PathEvent) (o : Ending) → Runs c t o → SomeTimes first r t o) → (t : List PathEvent) (o : Ending) → Runs (seq c end) t o → (n : ℕ) × Runs (seq (times (round_count first n) r) end) t o
  then_end first h _ _ run_stop = (0, run_stop)
  then_end first h _ _ (run_off {s = t} {o = o} i x) = let k = h t o x in (k.count, run_off i k.runs)
  then_end first h _ _ (run_seq {s = t} x y) = let k = h t falls x in (k.count, run_seq k.runs y)

  some_rounds : (first : Bool) (t : List PathEvent) (o : Ending) → Runs (cond first (seq r (seq (star r) end)) (seq (star r) end)) t o → (n : ℕ) × Runs (seq (times (round_count first n) r) end) t o
  some_rounds true t o x = then_end true more_times t o (same_assoc.forth.go t o x)
  some_rounds false t o x = then_end false star_times t o x

  rounds_among : (first : Bool) (n : ℕ) → Within (seq (times (round_count first n) r) end) (cond first (seq r (seq (star r) end)) (seq (star r) end))
  rounds_among true n = within_trans same_assoc.back (within_seq within_refl (within_seq (times_within n r) within_refl))
  rounds_among false n = within_seq (times_within n r) within_refl

-- "Loops run any number of rounds, at least one with side 1", and do nothing else
module _ (s : ℕ) (head body step end : Command) where
  pub any_rounds : (n : ℕ) → Within (catch out_of_loop (seq (times (round_count (eqb s 1) n) (round head body step)) end)) (loop s head body step end)
  any_rounds n = within_catch out_of_loop (rounds_among (round head body step) end (eqb s 1) n)

  pub only_rounds : (t : List PathEvent) (o : Ending) → Runs (loop s head body step end) t o → LoopRun s (round head body step) end t o
  only_rounds _ _ run_stop = record { count = 0; runs = run_stop }
  only_rounds _ _ (run_catch {s = t} {o = o} x) = let k = some_rounds (round head body step) end (eqb s 1) t o x in record { count = k.0; runs = run_catch k.1 }
