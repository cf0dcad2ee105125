-- The word, the separator and the second field, one after the other.
use Rattle.std.proofs.Common.{subst}
use Rattle.writing.specs.Putting.{PutAt}
use Rattle.writing.proofs.Puts.{put_then}
use Rattle.answers.specs.Steps.{outcome_text}
use Rattle.answers.proofs.put_outcome.Goals as goal

pub returns-clause-put_at : goal.returns-clause-put_at
unfolding outcome_text
returns-clause-put_at c =
    let word = subst (λ t. PutAt c.args.text.now.bytes c.args.text.now.size t c.put_text.new.self.bytes c.put_text.new.self.size) c.word_of.ensures.text c.put_text.ensures in
    put_then _ _ _ _ _ _ _ _ word (put_then _ _ _ _ _ _ _ _ c.put_byte.ensures c.put_field.ensures.put_at)
