use Rattle.std.proofs.Common.{rules}
use Rattle.case_text.proofs.Fills.{fill_next, count_end, table_end}
use Rattle.case_text.proofs.set_table.Goals as goal

pub loop-rest-preserved : goal.loop-rest-preserved
loop-rest-preserved c = fill_next _ _ _ _ _ c.loop-rest.invariant (search rules) _ c.split.ensures.before _ c.split.ensures.after _ c.field.ensures _ c.set_number.ensures

pub returns-clause-value : goal.returns-clause-value
returns-clause-value c = search (rules, count_end)

pub returns-clause-table_after : goal.returns-clause-table_after
returns-clause-table_after c = search (rules, table_end)
