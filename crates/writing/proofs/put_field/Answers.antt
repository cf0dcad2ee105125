-- The key, the number and the byte that ends them, one after the other.
use Rattle.std.proofs.Common.{arith}
use Rattle.writing.proofs.Puts.{put_kept}
use Rattle.writing.proofs.FieldLaws.{field_length_lem, field_put, field_short}
use Rattle.writing.proofs.put_field.Goals as goal

pub put_text-value-requires : goal.put_text-value-requires
put_text-value-requires c = omega (arith, field_length_lem c.args.key.now c.args.n c.args.end)

pub put_number-stop-requires : goal.put_number-stop-requires
put_number-stop-requires c =
    omega (arith, field_length_lem c.args.key.now c.args.n c.args.end, c.put_text-value.ensures.place, put_kept _ _ _ _ _ c.put_text-value.ensures)

pub put_byte-requires : goal.put_byte-requires
put_byte-requires c =
    omega (arith, field_length_lem c.args.key.now c.args.n c.args.end, c.put_text-value.ensures.place, put_kept _ _ _ _ _ c.put_text-value.ensures, c.put_number-stop.ensures.place, put_kept _ _ _ _ _ c.put_number-stop.ensures)

pub returns-clause-put_at : goal.returns-clause-put_at
returns-clause-put_at c = field_put _ _ _ _ _ _ _ _ _ _ _ _ (omega arith) c.put_byte.ensures c.put_number-stop.ensures c.put_text-value.ensures

pub returns-clause-short : goal.returns-clause-short
returns-clause-short c = field_short _ _ _ _ _ _ _ _ _ _ _ c.put_byte.ensures c.put_number-stop.ensures c.put_text-value.ensures
