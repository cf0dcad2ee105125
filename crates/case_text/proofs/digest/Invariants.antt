-- What the loop keeps: the digest of all is that of the numbers left, after those counted.
use Rattle.case_text.proofs.Numbers.{Digesting}
use Rattle.case_text.proofs.digest.Given as goal

abbrev pub invariant-loop-x : goal.invariant-loop-x
invariant-loop-x l = Digesting l.numbers l.x-index l.d
