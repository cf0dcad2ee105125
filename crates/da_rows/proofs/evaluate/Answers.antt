use Rattle.da_rows.proofs.Asking.{evaluates}
use Rattle.da_rows.proofs.evaluate.Goals as goal

pub returns-then-assigned : goal.returns-then-assigned
returns-then-assigned c = search evaluates

pub returns-then-all_quiet : goal.returns-then-all_quiet
returns-then-all_quiet c = search evaluates

pub returns-in-Reads : goal.returns-in-Reads
returns-in-Reads c = search evaluates

pub returns-in-Writes : goal.returns-in-Writes
returns-in-Writes c = search evaluates

pub returns-in-Clean : goal.returns-in-Clean
returns-in-Clean c = search evaluates
