use Rattle.sheet.proofs.NameLines.{NameLoop}
use Rattle.sheet.proofs.sections.names_from.Given as goal

abbrev pub invariant-loop-i : goal.invariant-loop-i
invariant-loop-i l = NameLoop l.fn.s l.fn.from l.fn.count l.fn.names l.names l.before l.at l.i
