-- A kind's number is below 66.
use Rattle.std.proofs.Common.{rules}
use Rattle.case_text.proofs.KindFields.{kind_told}
use Rattle.case_text.proofs.read_kind.Goals as goal

pub returns : goal.returns
returns c = search (rules, kind_told)
