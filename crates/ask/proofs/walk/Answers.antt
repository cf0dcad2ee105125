use Rattle.ask.proofs.Checking.{table_statement}
use Rattle.ask.proofs.walk.Goals as goal

pub invariant_of-table : goal.invariant_of-table
invariant_of-table c = record { nested = (table_statement c.args.record _ c.requires).nested }

pub da_stmt-requires : goal.da_stmt-requires
da_stmt-requires c = table_statement c.args.record _ c.requires
