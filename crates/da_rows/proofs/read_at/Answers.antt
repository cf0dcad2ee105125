use Rattle.da_rows.proofs.Asking.{read_some, read_none}
use Rattle.da_rows.proofs.read_at.Goals as goal

pub returns-in-Some : goal.returns-in-Some
returns-in-Some c = search (read_some, c.in-Some.ensures.some)

pub returns-in-None : goal.returns-in-None
returns-in-None c = search (read_none, c.in-None.ensures.none)
