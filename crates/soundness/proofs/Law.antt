-- The law of a statement: what the walk of a row says of every run of it. It is what Rows shows of every row, from the laws of its
-- children.
use mathlib.Core.Path.{◌≡◌, refl}
use mathlib.Core.Bool.{true}
use Rattle.table.specs.Fold.{Pairwise, no_pair}
use Rattle.paths.specs.Marks.{Mark}
use Rattle.paths.specs.Triples.{at, never, Triple}
use Rattle.paths.proofs.Rules.{rule_skip}
use Rattle.expr_effect.specs.Law.{ExprLaw}
use Rattle.stmt_paths.specs.Execution.{Execution, no_execution}
use Rattle.da.specs.Outcome.{State}
use Rattle.da.specs.Walk.{Walk, no_walk}
use Rattle.soundness.proofs.Known.{known}
use Rattle.soundness.proofs.Sound.{Sound, sound_falls}

pub record StmtLaw (w : Walk) (e : Execution) : Type 0 where
  -- from every state, the answer is sound
  pub sound : (a : State) → Sound (known a) e.run (w.walk a)
  -- an arm's labels, and which arms are defaults
  pub labels : Pairwise ExprLaw w.labels e.labels
  pub default : w.is_default ≡ e.is_default
  -- where no statement stands, nothing is run
  pub absent : w.is_absent ≡ true → (m : Mark) → Triple m e.run (at m) never

-- what stands where a child is missing
pub no_law : StmtLaw no_walk no_execution
no_law = record { sound = λ a. sound_falls rule_skip; labels = no_pair; default = refl; absent = λ q m. rule_skip }
