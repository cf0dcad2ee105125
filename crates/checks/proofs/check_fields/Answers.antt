use Rattle.checks.proofs.FieldLaws.{fields_told}
use Rattle.checks.proofs.check_fields.Goals as goal

pub returns-then-kind-ge66 : goal.returns-then-kind-ge66
returns-then-kind-ge66 c = search fields_told

pub returns-then-not-side_fits : goal.returns-then-not-side_fits
returns-then-not-side_fits c = search fields_told

pub returns : goal.returns
returns c = search fields_told
