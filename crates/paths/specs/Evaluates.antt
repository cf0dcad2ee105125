-- A triple for each way in which a row may be evaluated. An evaluation never jumps.
use Rattle.std.specs.Prelude.{Bool, true, false, List, [], ◌∷◌}
use Rattle.paths.specs.Marks.{Mark}
use Rattle.paths.specs.Triples.{Triple, at, never}
use Rattle.paths.specs.Evaluation.{Evaluation, Truth, is_true, is_false, is_unknown}

-- a truth that is not the opposite of the outcome that is wanted: && goes on to its right after a left that meets true, || after one
-- that meets false
abbrev pub Meets : Bool → Truth → Type 0
Meets true is_true = Unit
Meets true is_false = ⊥
Meets true is_unknown = Unit
Meets false is_true = ⊥
Meets false is_false = Unit
Meets false is_unknown = Unit

-- however the row is evaluated, from a mark at least `a` on: no read of what is not written, at least `b` at the end, no jump
pub record Evaluates (a b : Mark) (e : Evaluation) : Type 0 where
  pub value : Triple a e.value (at b) never
  pub truth : (t : Truth) → Triple a (e.truth t) (at b) never
  pub store : Triple a e.store (at b) never

-- each of a list of rows, all of them keeping what is written
pub data AllEvaluate (m : Mark) : List Evaluation → Type 0 where
  no_more : AllEvaluate m []
  one_more : {e : Evaluation} {es : List Evaluation} → Evaluates m m e → AllEvaluate m es → AllEvaluate m (e ∷ es)
