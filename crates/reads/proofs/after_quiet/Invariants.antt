-- What the loop keeps: the rows passed over so far are quiet.
use Rattle.reads.specs.Steps.{AfterQuiet}
use Rattle.reads.proofs.after_quiet.Given as goal

abbrev pub invariant-loop-from : goal.invariant-loop-from
invariant-loop-from l = AfterQuiet l.local l.rows.table.now l.rows.from l.rows.to l.from
