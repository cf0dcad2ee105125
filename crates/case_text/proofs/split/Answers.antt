use Rattle.std.proofs.Common.{rules}
use Rattle.case_text.proofs.Places.{some_before, some_after, none_before, none_after}
use Rattle.case_text.proofs.split.Goals as goal

pub returns-in-Some-clause-before : goal.returns-in-Some-clause-before
returns-in-Some-clause-before c = search (rules, some_before)

pub returns-in-Some-clause-after : goal.returns-in-Some-clause-after
returns-in-Some-clause-after c = search (rules, some_after)

pub returns-in-None-clause-before : goal.returns-in-None-clause-before
returns-in-None-clause-before c = search (rules, none_before)

pub returns-in-None-clause-after : goal.returns-in-None-clause-after
returns-in-None-clause-after c = search (rules, none_after)
