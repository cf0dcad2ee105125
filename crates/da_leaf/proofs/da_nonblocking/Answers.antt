use Rattle.da_leaf.proofs.Targets.{targets}
use Rattle.da_leaf.proofs.da_nonblocking.Goals as goal

pub returns : goal.returns
returns c = search targets
