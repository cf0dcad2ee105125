use Rattle.std.proofs.Common.{rules}
use Rattle.case_text.proofs.Numbers.{digest_on, digest_end}
use Rattle.case_text.proofs.digest.Goals as goal

pub loop-x-preserved : goal.loop-x-preserved
loop-x-preserved c = search (rules, digest_on)

pub returns : goal.returns
returns c = search (rules, digest_end)
