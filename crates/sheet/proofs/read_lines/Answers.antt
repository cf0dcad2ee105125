use Rattle.std.proofs.lemmas.Result.{err_from_is_err_and}
use Rattle.sheet.proofs.Reading.{lines_before, before_filled, few_rows, few_names, lines_rows, rows_filled, lines_extra, extra_filled, lines_done, done_filled}
use Rattle.sheet.proofs.read_lines.Goals as goal

pub returns-in_err-facts-clause-value : goal.returns-in_err-facts-clause-value
returns-in_err-facts-clause-value c = let p = err_from_is_err_and c.from_residual.result c.from_residual.ensures.1 in rw (p.1, p.2) (lines_before _ _ c.read_names.ensures.value _ c.in_err-facts.was)

pub returns-in_err-facts-clause-filled : goal.returns-in_err-facts-clause-filled
returns-in_err-facts-clause-filled c = before_filled _ _ c.read_names.ensures.value _ _ _ c.in_err-facts.was

pub rows_from-requires : goal.rows_from-requires
rows_from-requires c = (few_rows _ _ c.read_names.ensures.value _ c.in_ok-facts.was, few_names _ _ c.read_names.ensures.value _ c.in_ok-facts.was)

pub returns-in_err-end-clause-value : goal.returns-in_err-end-clause-value
returns-in_err-end-clause-value c = let p = err_from_is_err_and c.from_residual-in_err-end.result c.from_residual-in_err-end.ensures.1 in rw (p.1, p.2) (lines_rows _ _ c.read_names.ensures.value _ c.in_ok-facts.was _ c.rows_from.ensures.value _ c.in_err-end.was)

pub returns-in_err-end-clause-filled : goal.returns-in_err-end-clause-filled
returns-in_err-end-clause-filled c = rows_filled _ _ c.read_names.ensures.value _ c.in_ok-facts.was _ c.rows_from.ensures.value _ _ _ c.in_err-end.was

pub line_of-requires : goal.line_of-requires
line_of-requires c = (few_names _ _ c.read_names.ensures.value _ c.in_ok-facts.was, few_rows _ _ c.read_names.ensures.value _ c.in_ok-facts.was)

pub returns-then-end-s-clause-value : goal.returns-then-end-s-clause-value
returns-then-end-s-clause-value c = lines_extra _ _ c.read_names.ensures.value _ c.in_ok-facts.was _ c.rows_from.ensures.value _ c.in_ok-end.was c.if-end-s.true _ c.line_of.ensures

pub returns-then-end-s-clause-filled : goal.returns-then-end-s-clause-filled
returns-then-end-s-clause-filled c = extra_filled _ _ c.read_names.ensures.value _ c.in_ok-facts.was _ c.rows_from.ensures.value _ c.in_ok-end.was _ _ c.if-end-s.true

pub returns-clause-value : goal.returns-clause-value
returns-clause-value c = lines_done _ _ c.read_names.ensures.value _ c.in_ok-facts.was _ c.rows_from.ensures.value _ c.in_ok-end.was c.if-end-s.false

pub returns-clause-filled : goal.returns-clause-filled
returns-clause-filled c = done_filled _ _ c.read_names.ensures.value _ c.in_ok-facts.was _ c.rows_from.ensures.value _ c.in_ok-end.was _ _ c.rows_from.ensures.filled c.read_names.ensures.filled c.if-end-s.false
