use Prim.Native.Nat.{◌+◌, ◌≤◌}
use lib.ListN.{length}
use Rattle.std.proofs.Common.{rules}
use Rattle.std.proofs.lemmas.Result.{err_from_is_err_and}
use Rattle.sheet.proofs.NameLines.{name_loop_start, name_loop_done, name_loop_filled, name_loop_wrong, name_loop_wrong_filled, name_loop_within, name_loop_next}
use Rattle.sheet.proofs.sections.names_from.Goals as goal

pub loop-i-init : goal.loop-i-init
loop-i-init c = name_loop_start _ _ _ _

pub returns-in_err-line-clause-value : goal.returns-in_err-line-clause-value
returns-in_err-line-clause-value c = let p = err_from_is_err_and c.from_residual.result c.from_residual.ensures.1 in rw (p.1, p.2) (name_loop_wrong _ _ _ _ _ _ _ _ c.loop-i.invariant c.loop-i-test.true _ c.name_line.ensures _ c.at_line.ensures _ c.in_err-line.was)

pub returns-in_err-line-clause-filled : goal.returns-in_err-line-clause-filled
returns-in_err-line-clause-filled c = name_loop_wrong_filled _ _ _ _ _ _ _ _ c.loop-i.invariant c.loop-i-test.true _ c.name_line.ensures _ c.at_line.ensures _ c.in_err-line.was

pub overflow_cast-name : goal.overflow_cast-name
overflow_cast-name c =
    let w : c.in_ok-line.line.value.offset + c.in_ok-line.line.value.length ≤ length c.args.s.now = name_loop_within _ _ _ _ _ _ _ _ c.loop-i.invariant c.loop-i-test.true _ c.name_line.ensures _ c.at_line.ensures _ c.in_ok-line.was in
    search rules

pub overflow_cast-name-in-loop-i : goal.overflow_cast-name-in-loop-i
overflow_cast-name-in-loop-i c =
    let w : c.in_ok-line.line.value.offset + c.in_ok-line.line.value.length ≤ length c.args.s.now = name_loop_within _ _ _ _ _ _ _ _ c.loop-i.invariant c.loop-i-test.true _ c.name_line.ensures _ c.at_line.ensures _ c.in_ok-line.was in
    search rules

pub overflow_add-before : goal.overflow_add-before
overflow_add-before c =
    let w : c.in_ok-line.line.value.offset + c.in_ok-line.line.value.length ≤ length c.args.s.now = name_loop_within _ _ _ _ _ _ _ _ c.loop-i.invariant c.loop-i-test.true _ c.name_line.ensures _ c.at_line.ensures _ c.in_ok-line.was in
    search rules

pub slice_bounds-before-end-in-loop-i : goal.slice_bounds-before-end-in-loop-i
slice_bounds-before-end-in-loop-i c =
    let w : c.in_ok-line.line.value.offset + c.in_ok-line.line.value.length ≤ length c.args.s.now = name_loop_within _ _ _ _ _ _ _ _ c.loop-i.invariant c.loop-i-test.true _ c.name_line.ensures _ c.at_line.ensures _ c.in_ok-line.was in
    search rules

pub loop-i-preserved : goal.loop-i-preserved
loop-i-preserved c = name_loop_next _ _ _ _ _ _ _ _ c.loop-i.invariant c.loop-i-test.true _ c.name_line.ensures _ c.at_line.ensures _ c.in_ok-line.was _ c.put.ensures

pub returns-clause-value : goal.returns-clause-value
returns-clause-value c = name_loop_done _ _ _ _ _ _ _ _ c.loop-i.invariant c.loop-i-test.false

pub returns-clause-filled : goal.returns-clause-filled
returns-clause-filled c = name_loop_filled _ _ _ _ _ _ _ _ c.loop-i.invariant c.loop-i-test.false
