-- Every evaluation in row order is one in free order: by induction over the rows, a form at a time. Where free order has a choice, row
-- order is the first.
use mathlib.Core.Bool.{Bool, true, false, cond}
use mathlib.Core.List.{List}
use Prim.Native.Nat.{ℕ}
use lib.Dec.{eqb}
use Rattle.table.specs.Rows.{Forest}
use Rattle.table.specs.Fold.{nth, Pairwise, no_pair, pair}
use Rattle.table.proofs.Fold.{fold_related, related_at}
use Rattle.kinds.specs.declared.ExprClass.{ExprClass}
use Rattle.kinds.specs.declared.ExprClass.TheVariants.{Ident, Call, Lident, Opaque, Event, Unary, Binary, Ternary, Paren, Other}
use Rattle.kinds.specs.Named.{expr_class}
use Rattle.reads.specs.PathRows.{begins}
use Rattle.paths.specs.Commands.{Command, seq, run_skip}
use Rattle.paths.specs.Semantics.{row_order, free_order, under}
use Rattle.paths.specs.AnyOrder.{in_turn, either_first}
use Rattle.paths.specs.Evaluation.{Truth, is_true, is_false, is_unknown, opposite, Evaluation, free, of_any, asked, both, either, conditional, in_order, values, together, called, write_if, no_evaluation, evaluation_of, evaluation_at, evaluations}
use Rattle.paths.proofs.Within.{Within, within_refl, within_trans, within_seq, within_alt, within_left, within_then, same_skip}
use Rattle.paths.proofs.AnyOrder.{as_they_stand, every_order}

-- in whatever way the row is evaluated; as a target, its selects and then the write
pub record EvaluationWithin (e d : Evaluation) : Type 0 where
  pub value : Within e.value d.value
  pub truth : (t : Truth) → Within (e.truth t) (d.truth t)
  pub store : Within e.store (seq d.value (write_if d.is_plain_local))

free_within : {c d : Command} → Within c d → EvaluationWithin (free c) (free d)
free_within p = record { value = p; truth = λ t. within_seq p within_refl; store = within_then run_skip p }

asked_within : {f g : Truth → Command} → ((t : Truth) → Within (f t) (g t)) → EvaluationWithin (asked f) (asked g)
asked_within {f} {g} p = record { value = any; truth = p; store = within_then run_skip any }
  where
    any : Within (of_any f) (of_any g)
    any = within_alt (p is_true) (within_alt (p is_false) (p is_unknown))

pub none_within : EvaluationWithin no_evaluation no_evaluation
none_within = free_within within_refl

cond_within : (b : Bool) {e d e' d' : Evaluation} → EvaluationWithin e e' → EvaluationWithin d d' → EvaluationWithin (cond b e d) (cond b e' d')
cond_within true p q = p
cond_within false p q = q

-- a part of an evaluation
truth_within : {e d : Evaluation} → EvaluationWithin e d → (t : Truth) → Within (e.truth t) (d.truth t)
truth_within p = p.truth

-- the first of two first is one of two ways
first_within : {c d c' d' : Command} → Within c c' → Within d d' → Within (either_first row_order c d) (either_first free_order c' d')
first_within p q = within_left (within_seq p q)

ruleset parts = (within_seq, within_alt, truth_within, first_within)

module _ {l r l' r' : Evaluation} (p : EvaluationWithin l l') (q : EvaluationWithin r r') where
  both_within : (t : Truth) → Within (both l r t) (both l' r' t)
  both_within is_true = search parts
  both_within is_false = search parts
  both_within is_unknown = search parts

  either_within : (t : Truth) → Within (either l r t) (either l' r' t)
  either_within is_true = search parts
  either_within is_false = search parts
  either_within is_unknown = search parts

  conditional_within : {c c' : Evaluation} → EvaluationWithin c c' → Within (conditional row_order c l r) (conditional free_order c' l' r')
  conditional_within h = search parts

-- lists
in_turn_within : {es ds : List Evaluation} → Pairwise EvaluationWithin es ds → Within (in_order es) (in_turn (values ds))
in_turn_within no_pair = within_refl
in_turn_within (pair p ps) = within_seq p.value (in_turn_within ps)

pub together_within : {es ds : List Evaluation} → Pairwise EvaluationWithin es ds → Within (together row_order es) (together free_order ds)
together_within {ds = ds} ps = within_trans (in_turn_within ps) (every_order (as_they_stand (values ds)))

called_within : (b : Bool) {es ds : List Evaluation} → Pairwise EvaluationWithin es ds → Within (called row_order b es) (called free_order b ds)
called_within b ps = within_trans (within_seq within_refl (in_turn_within ps)) (every_order (as_they_stand _))

-- rows
module _ (x s : ℕ) (cs : Forest) {es ds : List Evaluation} (ps : Pairwise EvaluationWithin es ds) where
  child : (n : ℕ) → EvaluationWithin (nth no_evaluation n es) (nth no_evaluation n ds)
  child n = related_at no_evaluation no_evaluation n none_within ps

  class_within : (k : ExprClass) → EvaluationWithin (evaluation_of (under row_order) x k s cs es) (evaluation_of (under free_order) x k s cs ds)
  class_within Ident = free_within within_refl
  class_within Opaque = free_within within_refl
  class_within Unary = cond_within (eqb s 1) (asked_within (λ t. (child 0).truth (opposite t))) (free_within (child 0).value)
  class_within Binary =
      cond_within (eqb s 1) (asked_within (both_within (child 0) (child 1)))
      (cond_within (eqb s 2) (asked_within (either_within (child 0) (child 1))) (free_within (first_within (child 0).value (child 1).value)))
  class_within Ternary = free_within (conditional_within (child 1) (child 2) (child 0))
  class_within Call = cond_within (eqb s 1) (free_within within_refl) (free_within (called_within (begins x cs) ps))
  class_within Paren = child 0
  class_within Lident = record { value = within_refl; truth = λ t. within_refl; store = same_skip.forth }
  class_within Event = free_within (together_within ps)
  class_within Other = free_within (together_within ps)

row_within : (x k s lo hi : ℕ) (cs : Forest) → Pairwise EvaluationWithin (evaluations (under row_order) x cs) (evaluations (under free_order) x cs)
    → EvaluationWithin (evaluation_at (under row_order) x k s lo hi cs (evaluations (under row_order) x cs)) (evaluation_at (under free_order) x k s lo hi cs (evaluations (under free_order) x cs))
unfolding evaluation_at
row_within x k s lo hi cs ps = class_within x s cs ps (expr_class k)

pub evaluations_within : (x : ℕ) (f : Forest) → Pairwise EvaluationWithin (evaluations (under row_order) x f) (evaluations (under free_order) x f)
evaluations_within x f = fold_related (evaluation_at (under row_order) x) (evaluation_at (under free_order) x) (row_within x) f
