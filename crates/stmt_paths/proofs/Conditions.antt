-- A condition that does not come out true is false or unknown, and in both it keeps to what its evaluation does.
use Rattle.paths.specs.Marks.{Mark}
use Rattle.paths.specs.Triples.{Triple, at, never}
use Rattle.paths.specs.Evaluation.{is_false, is_unknown, Evaluation}
use Rattle.paths.specs.Evaluates.{Evaluates}
use Rattle.paths.proofs.Rules.{rule_alt}
use Rattle.stmt_paths.specs.Execution.{unmet}

pub unmet_so : {a b : Mark} {e : Evaluation} → Evaluates a b e → Triple a (unmet e) (at b) never
unmet_so h = rule_alt (h.truth is_false) (h.truth is_unknown)
