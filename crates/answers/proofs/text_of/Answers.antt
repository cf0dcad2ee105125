-- The two parts are the whole text, in front of what is left of the zeros.
use Rattle.std.proofs.Common.{rules}
use Rattle.answers.proofs.TextLaws.{text_whole, text_room, text_front}
use Rattle.answers.proofs.text_of.Goals as goal

pub returns-clause-value : goal.returns-clause-value
returns-clause-value c = text_whole _ _ _ _ _ _ c.numbers_of-n.ensures (search rules) (search rules) c.put_outcome.ensures.put_at c.put_stop.ensures.put_at (search rules)

pub returns-clause-room : goal.returns-clause-room
returns-clause-room c = text_room _ _ _ _ _ _ c.numbers_of-n.ensures (search rules) (search rules) c.put_outcome.ensures.put_at c.put_stop.ensures.put_at

pub returns-clause-front : goal.returns-clause-front
returns-clause-front c = text_front _ _ _ _ _ _ c.numbers_of-n.ensures (search rules) (search rules) c.put_outcome.ensures.put_at c.put_stop.ensures.put_at (search rules)
