-- What the loop keeps: the number of the text is that of the digits left, after those read.
use Rattle.case_text.proofs.Numbers.{Reading}
use Rattle.case_text.proofs.decimal.Given as goal

abbrev pub invariant-loop-b : goal.invariant-loop-b
invariant-loop-b l = Reading l.text l.b-index l.v
