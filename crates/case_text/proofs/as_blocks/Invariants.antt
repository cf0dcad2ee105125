-- What the loop keeps: the ends are those that the rows had.
use Rattle.case_text.specs.RowTexts.{EndsKept}
use Rattle.case_text.proofs.as_blocks.Given as goal

abbrev pub invariant-loop-i : goal.invariant-loop-i
invariant-loop-i l = EndsKept l.initial.rows l.rows
