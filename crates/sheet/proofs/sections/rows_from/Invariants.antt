use Rattle.sheet.proofs.RowLines.{RowLoop}
use Rattle.sheet.proofs.sections.rows_from.Given as goal

abbrev pub invariant-loop-i : goal.invariant-loop-i
invariant-loop-i l = RowLoop l.fn.names l.fn.s l.fn.from l.fn.count l.fn.rows l.rows l.at l.i
