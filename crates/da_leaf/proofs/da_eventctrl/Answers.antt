use Rattle.da_leaf.proofs.Leaves.{leaves}
use Rattle.da_leaf.proofs.da_eventctrl.Goals as goal

pub returns-then-refers_unwritten : goal.returns-then-refers_unwritten
returns-then-refers_unwritten c = search leaves

pub returns : goal.returns
returns c = search leaves
