use Rattle.std.proofs.Common.{rules}
use Rattle.case_text.proofs.Blocks.{blocks_start, blocks_next}
use Rattle.case_text.proofs.as_blocks.Goals as goal

pub loop-i-init : goal.loop-i-init
loop-i-init c = search (rules, blocks_start)

pub loop-i-preserved : goal.loop-i-preserved
loop-i-preserved c = search (rules, blocks_next)
