-- What came before and what the call gives, one after the other.
use Rattle.frames.proofs.Advancing.{advances_then}
use Rattle.frames.proofs.size_of_frame.Goals as goal

pub returns-in_err-rest_of_size : goal.returns-in_err-rest_of_size
returns-in_err-rest_of_size g c = advances_then _ _ _ c.next_byte.ensures c.rest_of_size.ensures

pub returns : goal.returns
returns g c = advances_then _ _ _ c.next_byte.ensures c.rest_of_size.ensures
