-- What the loop keeps: the table filled from the whole text is this one filled from what is left of it, and so is the count. What falls: the
-- bytes that are left.
use Rattle.std.proofs.Common.{length}
use Rattle.case_text.proofs.Fills.{Filling}
use Rattle.case_text.proofs.set_table.Given as goal

abbrev pub invariant-loop-rest : goal.invariant-loop-rest
invariant-loop-rest l = Filling l.initial.table l.text l.table l.rest l.i

abbrev pub decreases-loop-rest : goal.decreases-loop-rest
decreases-loop-rest l = length l.rest
