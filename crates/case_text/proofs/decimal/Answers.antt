use Rattle.std.proofs.Common.{rules}
use Rattle.case_text.proofs.Numbers.{read_much, read_on, read_end}
use Rattle.case_text.proofs.decimal.Goals as goal

pub returns-then-v-gt1844674407370955160 : goal.returns-then-v-gt1844674407370955160
returns-then-v-gt1844674407370955160 c = search (rules, read_much)

pub loop-b-preserved : goal.loop-b-preserved
loop-b-preserved c = search (rules, read_on)

pub returns : goal.returns
returns c = search (rules, read_end)
