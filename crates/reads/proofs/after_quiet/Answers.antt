use Rattle.reads.proofs.Quiet.{quiet_loop}
use Rattle.reads.proofs.after_quiet.Goals as goal

pub loop-next-init : goal.loop-next-init
loop-next-init c = search quiet_loop

pub loop-next-preserved : goal.loop-next-preserved
loop-next-preserved c = search quiet_loop

pub returns : goal.returns
returns c = search quiet_loop
