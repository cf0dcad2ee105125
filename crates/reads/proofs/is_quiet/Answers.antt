use Rattle.std.proofs.Common.{rules, arith}
use Rattle.reads.proofs.Quiet.{quiet_path, quiet_answers}
use Rattle.reads.proofs.is_quiet.Goals as goal

pub returns-then-kind-lt41 : goal.returns-then-kind-lt41
returns-then-kind-lt41 c = search quiet_answers

pub returns-in-41 : goal.returns-in-41
returns-in-41 c = quiet_path c.args.local c.args.rows.table.now c.args.i c.args.rows.from c.args.rows.to _ c.args.rows.nested (search rules) (search rules) _ (omega arith) c.names_other.ensures _ c.kind_at-kind.ensures (search rules)

pub returns-in_default : goal.returns-in_default
returns-in_default c = search quiet_answers
