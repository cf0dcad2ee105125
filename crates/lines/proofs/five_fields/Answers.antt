use Rattle.std.proofs.Common.{◌∙◌, ap}
use Rattle.lines.specs.Steps.{split_row}
use Rattle.lines.proofs.RowLaws.{uneven_lo, uneven_hi, uneven_end}
use Rattle.lines.proofs.five_fields.Goals as goal

pub returns-in_err-lo : goal.returns-in_err-lo
returns-in_err-lo c = ap split_row c.from_residual-in_err-lo.ensures ∙ uneven_lo _ _ _ c.kind_field.ensures c.in_ok-kind.kind c.in_ok-kind.was _ c.number.ensures c.in_ok-side.side c.in_ok-side.was _ c.number-2.ensures c.in_err-lo.was

pub returns-in_err-hi : goal.returns-in_err-hi
returns-in_err-hi c = ap split_row c.from_residual-in_err-hi.ensures ∙ uneven_hi _ _ _ c.kind_field.ensures c.in_ok-kind.kind c.in_ok-kind.was _ c.number.ensures c.in_ok-side.side c.in_ok-side.was _ c.number-2.ensures c.in_ok-lo.lo c.in_ok-lo.was _ c.number-3.ensures c.in_err-hi.was

pub returns-in_err-end : goal.returns-in_err-end
returns-in_err-end c = ap split_row c.from_residual-in_err-end.ensures ∙ uneven_end _ _ _ c.kind_field.ensures c.in_ok-kind.kind c.in_ok-kind.was _ c.number.ensures c.in_ok-side.side c.in_ok-side.was _ c.number-2.ensures c.in_ok-lo.lo c.in_ok-lo.was _ c.number-3.ensures c.in_ok-hi.hi c.in_ok-hi.was _ c.number-4.ensures c.in_err-end.was
