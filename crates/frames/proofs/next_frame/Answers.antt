-- What came before and what the call gives, one after the other.
use Rattle.frames.proofs.Advancing.{advances_then}
use Rattle.frames.proofs.next_frame.Goals as goal

pub returns-in_err-frame_of-in-Some-clause-advances : goal.returns-in_err-frame_of-in-Some-clause-advances
returns-in_err-frame_of-in-Some-clause-advances g c = advances_then _ _ _ c.size_of_frame.ensures c.frame_of.ensures.advances

pub returns-in_ok-frame_of-in-Some-clause-advances : goal.returns-in_ok-frame_of-in-Some-clause-advances
returns-in_ok-frame_of-in-Some-clause-advances g c = advances_then _ _ _ c.size_of_frame.ensures c.frame_of.ensures.advances
