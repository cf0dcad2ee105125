use Rattle.sheet.proofs.Going.{put_none, put_part}
use Rattle.sheet.proofs.sections.put.Goals as goal

pub returns-then-end-table : goal.returns-then-end-table
returns-then-end-table c = put_part _ _ _ _ c.if-end-table.true c.copy_from_slice.ensures.after

pub returns-else-end-table : goal.returns-else-end-table
returns-else-end-table c = put_none _ _ _ c.if-end-table.false
