use Rattle.std.proofs.Common.{◌∙◌}
use Rattle.kinds.specs.Words.{kind_of}
use Rattle.text.proofs.FieldReads.{from_says}
use Rattle.lines.proofs.NumberLaws.{space_space}
use Rattle.lines.proofs.WordLaws.{spells}
use Rattle.lines.proofs.kind_field.Goals as goal

pub returns : goal.returns
returns c = c.field_from.ensures ∙ rw c.find_kind_at-read.ensures.word (from_says kind_of _ _ _ _ _ _ (spells _) _ c.find_kind_at-read.ensures.past space_space)
