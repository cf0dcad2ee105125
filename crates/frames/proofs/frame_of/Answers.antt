-- What came before and what the call gives, one after the other.
use Rattle.frames.proofs.Advancing.{advances_then}
use Rattle.frames.proofs.frame_of.Goals as goal

pub returns-in_err-pass_over-clause-advances : goal.returns-in_err-pass_over-clause-advances
returns-in_err-pass_over-clause-advances g c = advances_then _ _ _ c.read_full.ensures.advances c.pass_over.ensures

pub returns-clause-advances : goal.returns-clause-advances
returns-clause-advances g c = advances_then _ _ _ c.read_full.ensures.advances c.pass_over.ensures
