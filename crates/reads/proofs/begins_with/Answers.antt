use Rattle.std.proofs.Common.{rules, arith}
use Rattle.reads.proofs.Answers.{begins_none, begins_short, begins_some}
use Rattle.reads.proofs.begins_with.Goals as goal

pub returns-in_default : goal.returns-in_default
returns-in_default c = search (begins_none, c.in_default.ensures.none)

pub returns-in-Some-first : goal.returns-in-Some-first
returns-in-Some-first c =
    begins_some _ _ _ _ c.in-Some.ensures.some (record { same = search rules; starts = omega arith; ends = omega arith }) _ _ c.in-Some-first.ensures.some (search rules)

pub returns-in-None : goal.returns-in-None
returns-in-None c = begins_short _ _ _ c.in-Some.ensures.some (omega (arith, c.in-None.ensures.none))
