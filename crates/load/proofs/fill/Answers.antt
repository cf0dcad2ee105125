use Rattle.std.proofs.lemmas.Result.{err_from_is_err_and}
use Rattle.load.proofs.Loading.{load_long, load_lines, load_rows, load_names, fields_read, load_answer, load_filled}
use Rattle.load.proofs.fill.Goals as goal

pub returns-then-s-gt65536-clause-value : goal.returns-then-s-gt65536-clause-value
returns-then-s-gt65536-clause-value c = load_long _ _ _ c.if-s-gt65536.true

pub returns-in_err-record-clause-value : goal.returns-in_err-record-clause-value
returns-in_err-record-clause-value c = let p = err_from_is_err_and c.from_residual.result c.from_residual.ensures.1 in rw (p.1, p.2) (load_lines _ _ _ c.if-s-gt65536.false _ c.read_lines.ensures.value _ c.in_err-record.was)

pub finish-requires-clause-record_bound : goal.finish-requires-clause-record_bound
finish-requires-clause-record_bound c = (load_rows _ 0 0 c.if-s-gt65536.false _ c.read_lines.ensures.value _ c.in_ok-record.was, load_names _ 0 0 c.if-s-gt65536.false _ c.read_lines.ensures.value _ c.in_ok-record.was)

pub finish-requires-clause-fields_read : goal.finish-requires-clause-fields_read
finish-requires-clause-fields_read c = fields_read _ 0 0 c.if-s-gt65536.false _ c.read_lines.ensures.value _ c.in_ok-record.was _ _ c.read_lines.ensures.filled

pub returns-clause-value : goal.returns-clause-value
returns-clause-value c = load_answer _ _ _ c.if-s-gt65536.false _ c.read_lines.ensures.value _ c.in_ok-record.was _ _ c.read_lines.auto.rows c.read_lines.auto.names c.read_lines.ensures.filled _ c.finish.ensures.value

pub returns-clause-filled : goal.returns-clause-filled
returns-clause-filled c = load_filled _ _ _ c.if-s-gt65536.false _ c.read_lines.ensures.value _ c.in_ok-record.was _ _ c.read_lines.auto.rows c.read_lines.auto.names c.read_lines.ensures.filled _ _ _ c.finish.ensures.filled
