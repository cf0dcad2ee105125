-- What the loop keeps: the input has given some bytes.
use Rattle.frames.specs.Inputs.{Advances}
use Rattle.frames.proofs.rest_of_size.Given as goal

abbrev pub invariant-loop : goal.invariant-loop
invariant-loop g l = Advances (g.R.Read.remaining l.initial.input) (g.R.Read.remaining l.input)
