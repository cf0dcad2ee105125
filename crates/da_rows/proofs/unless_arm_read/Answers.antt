use Rattle.da_rows.proofs.Parts.{arm_labels}
use Rattle.da_rows.proofs.unless_arm_read.Goals as goal

pub returns : goal.returns
returns c = search arm_labels
