use Rattle.std.proofs.lemmas.Result.{err_from_is_err_and}
use Rattle.sheet.proofs.RowLines.{row_loop_start, row_loop_done, row_loop_filled, row_loop_wrong, row_loop_wrong_filled, row_loop_known, row_loop_side, row_loop_side_filled, row_loop_next}
use Rattle.sheet.proofs.sections.rows_from.Goals as goal

pub loop-i-init : goal.loop-i-init
loop-i-init c = row_loop_start _ _ _ _ _

pub returns-in_err-line-clause-value : goal.returns-in_err-line-clause-value
returns-in_err-line-clause-value c = let p = err_from_is_err_and c.from_residual.result c.from_residual.ensures.1 in rw (p.1, p.2) (row_loop_wrong _ _ _ _ _ _ _ _ c.loop-i.invariant c.loop-i-test.true _ c.row_line.ensures _ c.first_row-first.ensures _ c.at_line.ensures _ c.in_err-line.was)

pub returns-in_err-line-clause-filled : goal.returns-in_err-line-clause-filled
returns-in_err-line-clause-filled c = row_loop_wrong_filled _ _ _ _ _ _ _ _ c.loop-i.invariant c.loop-i-test.true _ c.row_line.ensures _ c.first_row-first.ensures _ c.at_line.ensures _ c.in_err-line.was

pub bounds-entries-row : goal.bounds-entries-row
bounds-entries-row c = row_loop_known _ _ _ _ _ _ _ _ c.loop-i.invariant c.loop-i-test.true _ c.row_line.ensures _ c.first_row-first.ensures _ c.at_line.ensures _ c.in_ok-line.was

pub returns-then-not-side_fits-clause-value : goal.returns-then-not-side_fits-clause-value
returns-then-not-side_fits-clause-value c = row_loop_side _ _ _ _ _ _ _ _ c.loop-i.invariant c.loop-i-test.true _ c.row_line.ensures _ c.first_row-first.ensures _ c.at_line.ensures _ c.in_ok-line.was _ _ c.kinds-entries.ensures _ c.side_fits.ensures.value c.if-not-side_fits.true

pub returns-then-not-side_fits-clause-filled : goal.returns-then-not-side_fits-clause-filled
returns-then-not-side_fits-clause-filled c = row_loop_side_filled _ _ _ _ _ _ _ _ c.loop-i.invariant c.loop-i-test.true _ c.row_line.ensures _ c.first_row-first.ensures _ c.at_line.ensures _ c.in_ok-line.was _ _ c.kinds-entries.ensures _ c.side_fits.ensures.value c.if-not-side_fits.true

pub loop-i-preserved : goal.loop-i-preserved
loop-i-preserved c = row_loop_next _ _ _ _ _ _ _ _ c.loop-i.invariant c.loop-i-test.true _ c.row_line.ensures _ c.first_row-first.ensures _ c.at_line.ensures _ c.in_ok-line.was _ _ c.kinds-entries.ensures _ c.side_fits.ensures.value c.if-not-side_fits.false _ c.put.ensures

pub returns-clause-value : goal.returns-clause-value
returns-clause-value c = row_loop_done _ _ _ _ _ _ _ _ c.loop-i.invariant c.loop-i-test.false

pub returns-clause-filled : goal.returns-clause-filled
returns-clause-filled c = row_loop_filled _ _ _ _ _ _ _ _ c.loop-i.invariant c.loop-i-test.false
