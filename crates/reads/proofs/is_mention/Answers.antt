use Rattle.reads.proofs.Answers.{role_answers, other_mentions}
use Rattle.reads.proofs.is_mention.Goals as goal

pub returns-in-ByPath : goal.returns-in-ByPath
returns-in-ByPath c = search role_answers

pub returns-in-Always : goal.returns-in-Always
returns-in-Always c = search role_answers

pub returns-in-HasIff : goal.returns-in-HasIff
returns-in-HasIff c = search (other_mentions)
