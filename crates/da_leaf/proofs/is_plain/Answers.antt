use Rattle.da_leaf.proofs.Targets.{plain_none, plain_other, plain_local}
use Rattle.da_leaf.proofs.is_plain.Goals as goal

pub returns-then-is_lident : goal.returns-then-is_lident
returns-then-is_lident c = search (plain_local, c.in-Some.ensures.some)

pub returns-else-is_lident : goal.returns-else-is_lident
returns-else-is_lident c = search (plain_other, c.in-Some.ensures.some)

pub returns-in-None : goal.returns-in-None
returns-in-None c = search (plain_none, c.in-None.ensures.none)
