use Rattle.checks.proofs.Whole.{root}
use Rattle.checks.proofs.check.Goals as goal

pub returns-then-not-end_right : goal.returns-then-not-end_right
returns-then-not-end_right c = search root
