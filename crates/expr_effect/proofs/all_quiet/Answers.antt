use Rattle.std.proofs.Common.{arith, tests}
use Rattle.expr_effect.proofs.Quiet.{quiet_first, quiet_told}
use Rattle.expr_effect.proofs.all_quiet.Goals as goal

pub returns-clause-to_value : goal.returns-clause-to_value
returns-clause-to_value c e = quiet_first _ _ _ _ c.head.ensures c.after_quiet.ensures.quiet (grind (arith, tests))

pub returns-clause-means : goal.returns-clause-means
returns-clause-means c e = quiet_told _ _ _ _ c.head.ensures c.after_quiet.ensures.quiet (grind (arith, tests))
