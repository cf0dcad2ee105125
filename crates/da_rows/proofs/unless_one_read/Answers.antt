use mathlib.Core.Path.{◌∙◌}
use Rattle.table.proofs.Parts.{some_left, none_left}
use Rattle.da.proofs.Passed.{passed_on}
use Rattle.da_rows.proofs.Asking.{unread}
use Rattle.da_rows.proofs.unless_one_read.Goals as goal

pub returns-in_err-unless_read : goal.returns-in_err-unless_read
returns-in_err-unless_read c = passed_on _ _ c.from_residual.ensures.1 ∙ search (unread, some_left, c.in_err-unless_read.was)

pub loop-left-preserved : goal.loop-left-preserved
loop-left-preserved c = search (unread, some_left, c.in_ok-unless_read.was)

pub returns : goal.returns
returns c = search (unread, none_left)
