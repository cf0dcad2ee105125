use Rattle.da_leaf.proofs.Leaves.{jumps}
use Rattle.da_leaf.proofs.is_loop_jump.Goals as goal

pub returns-in_default : goal.returns-in_default
returns-in_default c = search (jumps, c.in_default.ensures.none)

pub returns-then-is_empty : goal.returns-then-is_empty
returns-then-is_empty c = search (jumps, c.in-Some.ensures.some, c.in-Some-first.ensures.some)

pub returns-else-is_empty : goal.returns-else-is_empty
returns-else-is_empty c = search (jumps, c.in-Some.ensures.some, c.in-Some-first.ensures.some)

pub returns-in-None : goal.returns-in-None
returns-in-None c = search (jumps, c.in-Some.ensures.some, c.in-None.ensures.none)
