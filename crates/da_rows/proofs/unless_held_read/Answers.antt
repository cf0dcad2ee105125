use Rattle.da_rows.proofs.Asking.{held_some, held_none}
use Rattle.da_rows.proofs.unless_held_read.Goals as goal

pub returns-in-Some : goal.returns-in-Some
returns-in-Some c = search (held_some, c.in-Some.ensures.some)

pub returns-in-None : goal.returns-in-None
returns-in-None c = search (held_none, c.in-None.ensures.none)
