use mathlib.Core.Path.{◌∙◌}
use Rattle.da.proofs.Passed.{passed_on}
use Rattle.da_leaf.proofs.Targets.{targets}
use Rattle.da_leaf.proofs.da_blocking.Goals as goal

pub returns-in_err-unless_delay_read : goal.returns-in_err-unless_delay_read
returns-in_err-unless_delay_read c = passed_on _ _ c.from_residual.ensures.1 ∙ search (targets, c.in_err-unless_delay_read.was)

pub returns : goal.returns
returns c = search (targets, c.in_ok-unless_delay_read.was)
