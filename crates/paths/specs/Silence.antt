-- What reads nothing: no event of any run is a read, or counts as one. Definitions only.
use Rattle.std.specs.Prelude.{List}
use Rattle.paths.specs.Each.{Each}
use Rattle.paths.specs.Commands.{PathEvent, read, write, outside, choice, Ending, Command, Runs}
use Rattle.paths.specs.Evaluation.{Evaluation, Truth}

-- neither a read nor `outside`, which counts as one
abbrev pub NotRead : PathEvent → Type 0
NotRead read = ⊥
NotRead outside = ⊥
NotRead write = Unit
NotRead (choice n) = Unit

-- no event of the list is
abbrev pub Silent : List PathEvent → Type 0
Silent = Each NotRead

-- on every run of the command
pub record NeverReads (c : Command) : Type 0 where
  pub go : (t : List PathEvent) (o : Ending) → Runs c t o → Silent t

-- however the row is evaluated
pub record ReadsNothing (e : Evaluation) : Type 0 where
  pub value : NeverReads e.value
  pub truth : (t : Truth) → NeverReads (e.truth t)
  pub store : NeverReads e.store
