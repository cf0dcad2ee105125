use Rattle.reads.proofs.Quiet.{quiet_answers}
use Rattle.reads.proofs.is_quiet_call.Goals as goal

pub returns-then-not-writes : goal.returns-then-not-writes
returns-then-not-writes c = search quiet_answers
