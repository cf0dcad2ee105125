-- Lists of any length: of a list that runs one after the other, each member runs where those before it have fallen, and then those after
-- it; in free order all members run in whatever order. The joint facts of Strength and AllOrders know short lists only. By induction over
-- the members before.
use mathlib.Core.Path.{◌≡◌, refl}
use mathlib.Core.Bool.{false}
use mathlib.Core.List.{List, [], ◌∷◌, ◌++◌}
use Prim.Native.Nat.{ℕ}
use lib.Dec.{eqb}
use Rattle.table.specs.Rows.{Forest}
use Rattle.kinds.specs.declared.ExprClass.TheVariants.{Call, Other}
use Rattle.reads.specs.PathRows.{begins}
use Rattle.paths.specs.Commands.{Command, skip, seq}
use Rattle.paths.specs.Semantics.{row_order, free_order, under}
use Rattle.paths.specs.Evaluation.{Evaluation, read_if, in_order, values, evaluation_of}
use Rattle.paths.proofs.AnyOrder.{InAnyOrder, in_any_order}
use Rattle.paths.proofs.Within.{Same, same_refl, same_trans, same_seq, same_skip, same_assoc}

-- whatever the members are: a list may be cut anywhere
module _ {A : Type 0} (run : A → Command) (together : List A → Command) (none : together [] ≡ skip) (cons : (a : A) (more : List A) → together (a ∷ more) ≡ seq (run a) (together more)) where
  pub in_turn_lem : (xs ys : List A) → Same (together (xs ++ ys)) (seq (together xs) (together ys))
  in_turn_lem [] ys = rw none same_skip
  in_turn_lem (a ∷ xs) ys = rw (cons a (xs ++ ys), cons a xs) (same_trans (same_seq same_refl (in_turn_lem xs ys)) same_assoc)

pub in_order_append : (xs ys : List Evaluation) → Same (in_order (xs ++ ys)) (seq (in_order xs) (in_order ys))
in_order_append = in_turn_lem (λ e. e.value) in_order refl (λ e more. refl)

module _ (x s : ℕ) (cs : Forest) (before : List Evaluation) (e : Evaluation) (after : List Evaluation) where
  -- "everything else evaluates its children in row order", however many
  pub every_operand : Same (evaluation_of (under row_order) x Other s cs (before ++ (e ∷ after))).value (seq (in_order before) (seq e.value (in_order after)))
  every_operand = in_order_append before (e ∷ after)

  -- so does a call that does not write, after its own path
  pub every_argument : eqb s 1 ≡ false → Same (evaluation_of (under row_order) x Call s cs (before ++ (e ∷ after))).value (seq (read_if (begins x cs)) (seq (in_order before) (seq e.value (in_order after))))
  every_argument h = rw h (same_seq same_refl (in_order_append before (e ∷ after)))

-- in free order, a call's own path being one of its children
module _ (x s : ℕ) (cs : Forest) (es : List Evaluation) where
  pub operands_in_any_order : InAnyOrder (values es) (evaluation_of (under free_order) x Other s cs es).value
  operands_in_any_order = in_any_order (values es)

  pub arguments_in_any_order : eqb s 1 ≡ false → InAnyOrder (read_if (begins x cs) ∷ values es) (evaluation_of (under free_order) x Call s cs es).value
  arguments_in_any_order h = rw h (in_any_order (read_if (begins x cs) ∷ values es))
