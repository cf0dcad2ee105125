-- The three fields, one after the other.
use Rattle.writing.proofs.Puts.{put_then}
use Rattle.answers.specs.Steps.{stop_text}
use Rattle.answers.proofs.put_stop.Goals as goal

pub returns-clause-put_at : goal.returns-clause-put_at
unfolding stop_text
returns-clause-put_at c = put_then _ _ _ _ _ _ _ _ c.put_field.ensures.put_at (put_then _ _ _ _ _ _ _ _ c.put_field-2.ensures.put_at c.put_field-3.ensures.put_at)
