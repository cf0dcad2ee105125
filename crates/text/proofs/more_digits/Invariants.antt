use Rattle.text.proofs.Runs.{Reading}
use Rattle.text.proofs.more_digits.Given as goal

abbrev pub invariant-loop-stop : goal.invariant-loop-stop
invariant-loop-stop l = Reading l.s l.at l.first l.stop l.value
