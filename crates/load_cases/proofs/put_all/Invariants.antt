-- What falls: the bytes that are left.
use Rattle.std.proofs.Common.{length}
use Rattle.load_cases.proofs.put_all.Given as goal

abbrev pub decreases-loop-rest : goal.decreases-loop-rest
decreases-loop-rest l = length l.rest
