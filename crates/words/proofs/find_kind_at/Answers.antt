use Rattle.std.proofs.Common.{refl}
use Rattle.words.proofs.Words.{told_at}
use Rattle.words.proofs.find_kind_at.Goals as goal

pub returns : goal.returns
returns c = told_at c.args.s.now _ c.min.result c.min.ensures _ refl _ c.key_of-read.ensures.count _ c.key_of-read.ensures.value _ c.kind_of_key.ensures
