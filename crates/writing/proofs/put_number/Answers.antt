-- What std calls the decimal text is the text of the number.
use Rattle.std.proofs.Common.{rules, arith}
use Rattle.writing.proofs.Spellings.{number_fits, number_put}
use Rattle.writing.proofs.put_number.Goals as goal

pub put_text-requires : goal.put_text-requires
put_text-requires c = number_fits c.args.n _ (search rules) (omega arith) _ _ c.as_bytes.ensures.value c.format.ensures.text _ _ (search rules)

pub returns : goal.returns
returns c = number_put c.args.n _ (search rules) (omega arith) _ _ c.as_bytes.ensures.value c.format.ensures.text _ _ _ _ c.put_text.ensures
