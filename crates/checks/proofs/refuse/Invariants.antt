use Rattle.checks.specs.Checks.{fields_at}
use Rattle.checks.proofs.Rows.{Checking}
use Rattle.checks.proofs.refuse.Given as goal

abbrev pub invariant-loop-i : goal.invariant-loop-i
invariant-loop-i l = Checking (fields_at l.rows l.names) l.count l.row l.i
