use Rattle.std.proofs.Common.{◌∙◌}
use Rattle.text.specs.Numbers.{number_of}
use Rattle.text.proofs.FieldReads.{from_says}
use Rattle.text.proofs.DigitLaws.{first}
use Rattle.text.proofs.number.Goals as goal

pub returns : goal.returns
returns c = c.field_from.ensures ∙ rw c.first_digits-read.ensures.value (from_says number_of _ _ _ _ _ _ (first _ c.requires.0 _) _ c.first_digits-read.ensures.stop c.requires.1)
