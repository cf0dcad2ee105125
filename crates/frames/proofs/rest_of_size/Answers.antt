-- What came before and what the call gives, one after the other.
use Rattle.frames.proofs.Advancing.{advances_then}
use Rattle.frames.proofs.rest_of_size.Goals as goal

pub returns-in_err-next_byte : goal.returns-in_err-next_byte
returns-in_err-next_byte g c = advances_then _ _ _ c.loop.invariant c.next_byte.ensures

pub returns-in-Some-eq10 : goal.returns-in-Some-eq10
returns-in-Some-eq10 g c = advances_then _ _ _ c.loop.invariant c.next_byte.ensures

pub returns-in_default : goal.returns-in_default
returns-in_default g c = advances_then _ _ _ c.loop.invariant c.next_byte.ensures

pub returns-in_default-2 : goal.returns-in_default-2
returns-in_default-2 g c = advances_then _ _ _ c.loop.invariant c.next_byte.ensures

pub returns-in_default-3 : goal.returns-in_default-3
returns-in_default-3 g c = advances_then _ _ _ c.loop.invariant c.next_byte.ensures

pub loop-preserved : goal.loop-preserved
loop-preserved g c = advances_then _ _ _ c.loop.invariant c.next_byte.ensures
