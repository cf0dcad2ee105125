use Rattle.da_leaf.proofs.Targets.{targets}
use Rattle.da_leaf.proofs.da_event.Goals as goal

pub returns-then-refers_unwritten : goal.returns-then-refers_unwritten
returns-then-refers_unwritten c = search targets

pub returns : goal.returns
returns c = search targets
