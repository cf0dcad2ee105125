use Rattle.da_walk.proofs.Passing.{passing}
use Rattle.da_walk.proofs.passes_over.Goals as goal

pub returns-then-stays_written : goal.returns-then-stays_written
returns-then-stays_written c = search (passing, c.in-Some.ensures.some)

pub returns-in-Some-first : goal.returns-in-Some-first
returns-in-Some-first c = search (passing, c.in-Some.ensures.some, c.in-Some-first.ensures.some)

pub returns-in-None : goal.returns-in-None
returns-in-None c = search (passing, c.in-Some.ensures.some, c.in-None.ensures.none)
