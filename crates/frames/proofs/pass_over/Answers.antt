-- What came before and what the call gives, one after the other.
use Rattle.frames.proofs.Advancing.{advances_then}
use Rattle.frames.proofs.pass_over.Goals as goal

pub returns-in_err-n : goal.returns-in_err-n
returns-in_err-n g c = advances_then _ _ _ c.loop-left.invariant c.pass_some.ensures.advances

pub returns-then-n-eq0 : goal.returns-then-n-eq0
returns-then-n-eq0 g c = advances_then _ _ _ c.loop-left.invariant c.pass_some.ensures.advances

pub loop-left-preserved : goal.loop-left-preserved
loop-left-preserved g c = advances_then _ _ _ c.loop-left.invariant c.pass_some.ensures.advances
