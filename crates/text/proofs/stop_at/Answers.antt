use Rattle.std.proofs.Common.{rules}
use Rattle.text.specs.Fields.{is_stop}
use Rattle.text.proofs.Stops.{place_fits}
use Rattle.text.proofs.stop_at.Goals as goal

pub overflow_add-result : goal.overflow_add-result
overflow_add-result c = place_fits c.args.s.now c.args.at (is_stop c.args.sep) _ (search rules) (search rules) (search rules)
