use Rattle.da_rows.proofs.Asking.{held_bare}
use Rattle.da_rows.proofs.unless_delay_read.Goals as goal

pub returns-then-rest-rows : goal.returns-then-rest-rows
returns-then-rest-rows c = search held_bare
