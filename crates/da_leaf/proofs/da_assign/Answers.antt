use mathlib.Core.Path.{◌∙◌}
use Rattle.da.proofs.Passed.{passed_on}
use Rattle.da_leaf.proofs.Targets.{targets}
use Rattle.da_leaf.proofs.da_assign.Goals as goal

pub returns-in_err-states : goal.returns-in_err-states
returns-in_err-states c = passed_on _ _ c.from_residual.ensures.1 ∙ search (targets, c.in_err-states.was)

pub returns : goal.returns
returns c = search (targets, c.in_ok-states.was)
