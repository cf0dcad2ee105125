use Rattle.std.proofs.Common.{arith}
use Rattle.table.proofs.Parts.{rest_after, some_left, none_left}
use Rattle.reads.proofs.Answers.{segments_none, segments_some, count_done, count_step}
use Rattle.reads.proofs.segments.Goals as goal

pub returns-in_default : goal.returns-in_default
returns-in_default c = search (segments_none, c.in_default.ensures.none)

pub loop-left-init : goal.loop-left-init
loop-left-init c = record { few = omega arith; same = search (segments_some, c.in-Some.ensures.some) }

pub loop-left-preserved : goal.loop-left-preserved
loop-left-preserved c = record { few = omega (arith, rest_after (search some_left) c.rest-left.ensures, c.loop-left.invariant.few); same = search (count_step, some_left) }

pub returns : goal.returns
returns c = search (count_done, none_left)
