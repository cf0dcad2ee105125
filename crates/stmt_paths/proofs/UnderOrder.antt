-- The rules of triples at the forms of specs/Execution that know an order. In free order no part counts what another writes. Lists by
-- induction over them.
use mathlib.Core.List.{List}
use Rattle.paths.specs.Marks.{Mark, ◌⊑◌, ⊑_refl}
use Rattle.paths.specs.Semantics.{Order, row_order, free_order, InFreeOrder, not_asked, is_met}
use Rattle.paths.specs.Commands.{Command}
use Rattle.paths.specs.Triples.{Triple, at, never}
use Rattle.paths.specs.Evaluation.{Evaluation, write_if}
use Rattle.paths.specs.Evaluates.{Evaluates, AllEvaluate, no_more, one_more}
use Rattle.paths.proofs.Rules.{rule_skip, rule_seq, rule_alt}
use Rattle.paths.proofs.AnyOrder.{Keeps, the_first, rule_any_gains}
use Rattle.paths.proofs.Evaluating.{in_order_lem, all_together, evaluates_lift, write_keeps}
use Rattle.stmt_paths.specs.Execution.{through_one, chosen_labels, blocking_assignment, or_not, nonblocking_assignment}

-- the labels of the chosen arm
through_one_lem : {m : Mark} {es : List Evaluation} → AllEvaluate m es → Keeps m (through_one es)
through_one_lem no_more = rule_skip
through_one_lem (one_more h hs) = rule_seq h.value (rule_alt rule_skip (through_one_lem hs))

pub chosen_labels_so : (o : Order) {m : Mark} {es : List Evaluation} → AllEvaluate m es → Keeps m (chosen_labels o es)
chosen_labels_so row_order h = in_order_lem h
chosen_labels_so free_order h = through_one_lem h

-- each of a list, from more
lift_each : {a b : Mark} {es : List Evaluation} → a ⊑ b → AllEvaluate a es → AllEvaluate b es
lift_each p no_more = no_more
lift_each p (one_more h hs) = one_more (evaluates_lift p h) (lift_each p hs)

-- a target: its selects are fine from `a` on, and from `b` on its write brings `c`
pub record Target (a b c : Mark) (e : Evaluation) : Type 0 where
  pub selects : Keeps a e.value
  pub store : Triple b e.store (at c) never
  pub write : Triple b (write_if e.is_plain_local) (at c) never

-- one that keeps what is written
pub target_keeps : {m : Mark} {e : Evaluation} → Evaluates m m e → Target m m m e
target_keeps {e = e} h = record { selects = h.value; store = h.store; write = write_keeps e.is_plain_local }

-- a right side that is fine from `a` on, keeps it and brings `b`
pub record Right (a b : Mark) (e : Evaluation) : Type 0 where
  pub more : a ⊑ b
  pub keeps : Keeps a e.value
  pub gains : Triple a e.value (at b) never

pub right_keeps : {m : Mark} {e : Evaluation} → Evaluates m m e → Right m m e
right_keeps h = record { more = ⊑_refl; keeps = h.value; gains = h.value }

-- an assignment: everything but the write is asked from `a` on alone
pub assignment_so : (o : Order) {a b c : Mark} {delays : List Evaluation} {event target right : Evaluation} → AllEvaluate a delays → Evaluates a a event → Target a b c target → Right a b right
    → Triple a (blocking_assignment o delays event target right) (at c) never
assignment_so row_order d e t v = rule_seq v.gains (rule_seq (in_order_lem (lift_each v.more d)) (rule_seq (evaluates_lift v.more e).value t.store))
assignment_so free_order d e t v = rule_seq (rule_any_gains v.more _ (v.keeps, (all_together free_order d, (e.value, (t.selects, tt)))) (the_first v.gains)) t.write

-- a nonblocking, whose other expressions matter in free order alone
pub record Others (a : Mark) (ds : List Evaluation) (e t : Evaluation) : Type 0 where
  pub delays : AllEvaluate a ds
  pub event : Keeps a e.value
  pub selects : Keeps a t.value

or_not_lem : {m : Mark} {c : Command} → Keeps m c → Keeps m (or_not c)
or_not_lem h = rule_alt h rule_skip

pub nonblocking_so : (o : Order) {a b : Mark} {delays : List Evaluation} {event target right : Evaluation} → InFreeOrder (Others a delays event target) o → Right a b right
    → Triple a (nonblocking_assignment o delays event target right) (at b) never
nonblocking_so row_order not_asked v = v.gains
nonblocking_so free_order (is_met h) v = rule_any_gains v.more _ (v.keeps, (or_not_lem (all_together free_order h.delays), (or_not_lem h.event, (or_not_lem h.selects, tt)))) (the_first v.gains)
