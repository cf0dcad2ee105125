-- What is copied over a part of a slice is put there.
use Rattle.std.proofs.Common.{rules}
use Rattle.writing.proofs.Puts.{put_part}
use Rattle.writing.proofs.put_text.Goals as goal

pub returns : goal.returns
returns c = search (rules, put_part)
