-- What the loop keeps: the input has given some bytes. What falls: the bytes that are left to pass over.
use Rattle.frames.specs.Inputs.{Advances}
use Rattle.frames.proofs.pass_over.Given as goal

abbrev pub invariant-loop-left : goal.invariant-loop-left
invariant-loop-left g l = Advances (g.R.Read.remaining l.initial.input) (g.R.Read.remaining l.input)

abbrev pub decreases-loop-left : goal.decreases-loop-left
decreases-loop-left g l = l.left
