use Rattle.da_rows.proofs.Parts.{body_stays}
use Rattle.da_rows.proofs.loop_body_assigns.Goals as goal

pub returns-then-side-eq1 : goal.returns-then-side-eq1
returns-then-side-eq1 c = search body_stays
