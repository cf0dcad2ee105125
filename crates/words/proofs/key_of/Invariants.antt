use Rattle.words.proofs.Keys.{Spelling}
use Rattle.words.proofs.key_of.Given as goal

abbrev pub invariant-loop-count : goal.invariant-loop-count
invariant-loop-count l = Spelling l.front l.count l.value l.scale
