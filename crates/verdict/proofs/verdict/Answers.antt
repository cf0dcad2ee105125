use Rattle.verdict.proofs.Demand3.{verdict_means, verdict_numbers}
use Rattle.verdict.proofs.Calls.{verdict_refused, verdict_walked, walk_asked}
use Rattle.verdict.proofs.verdict.Goals as goal

pub walk-requires : goal.walk-requires
walk-requires c = walk_asked _ _ _ _ c.in-Ok.is c.load.ensures.means

pub returns-in-Ok-clause-value : goal.returns-in-Ok-clause-value
returns-in-Ok-clause-value c = verdict_walked _ _ _ _ c.load.ensures.value _ _ _ _ c.in-Ok.is c.load.ensures.means c.load.ensures.row_table c.load.ensures.name_table c.walk.ensures

pub returns-in-Ok-clause-numbers : goal.returns-in-Ok-clause-numbers
returns-in-Ok-clause-numbers c = verdict_numbers _ _ _ _ (returns-in-Ok-clause-value c)

pub returns-in-Ok-clause-demand_3 : goal.returns-in-Ok-clause-demand_3
returns-in-Ok-clause-demand_3 c = verdict_means _ _ _ _ (returns-in-Ok-clause-value c)

pub returns-in-Err-clause-value : goal.returns-in-Err-clause-value
returns-in-Err-clause-value c = verdict_refused _ _ _ _ c.load.ensures.value _ c.in-Err.is

pub returns-in-Err-clause-numbers : goal.returns-in-Err-clause-numbers
returns-in-Err-clause-numbers c = verdict_numbers _ _ _ _ (returns-in-Err-clause-value c)

pub returns-in-Err-clause-demand_3 : goal.returns-in-Err-clause-demand_3
returns-in-Err-clause-demand_3 c = verdict_means _ _ _ _ (returns-in-Err-clause-value c)
