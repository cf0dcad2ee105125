use Rattle.std.proofs.Common.{rules}
use Rattle.capi.proofs.Telling.{asked_true_means}
use Rattle.capi.proofs.da_ask.Goals as goal

pub returns-clause-demand_3 : goal.returns-clause-demand_3
returns-clause-demand_3 c = search (rules, asked_true_means)
