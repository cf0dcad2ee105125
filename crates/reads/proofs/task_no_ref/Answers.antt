use mathlib.Core.Path.{sym, ◌∙◌}
use borrow.Author.Tests.{ne_eqb}
use Rattle.kinds.proofs.Below.{true_not_false}
use Rattle.reads.proofs.Answers.{task_answers}
use Rattle.reads.proofs.task_no_ref.Goals as goal
use Rattle.reads.proofs.task_no_ref.Goals.{then-is_pair, else-is_pair}

pub returns-then-not-begins_with : goal.returns-then-not-begins_with
returns-then-not-begins_with c =
    elim c.if-is_pair.branch [
      | then-is_pair w ↦ search task_answers
      | else-is_pair w ↦ true_not_false (sym c.if-not-begins_with.true ∙ w.value-is ∙ ne_eqb c.segments-is_pair.result 2 w.if-is_pair.false)
    ]

pub returns-else-not-begins_with : goal.returns-else-not-begins_with
returns-else-not-begins_with c =
    elim c.if-is_pair.branch [
      | then-is_pair w ↦ search task_answers
      | else-is_pair w ↦ search task_answers
    ]
