-- What is so of a truth that comes out unknown (document 02, Paper 2). Definitions only.
use Rattle.std.specs.Prelude.{◌≡◌, List, ◌++◌}
use Rattle.paths.specs.Each.{Each}
use Rattle.paths.specs.Commands.{PathEvent, read, write, outside, choice, falls, Command, Runs}
use Rattle.paths.specs.Evaluation.{Truth, is_true, is_false, is_unknown, choice_of, opposite, Evaluation}

-- neither a read nor a write of the local
abbrev pub IsChoice : PathEvent → Type 0
IsChoice read = ⊥
IsChoice outside = ⊥
IsChoice write = ⊥
IsChoice (choice n) = Unit

-- no truth that is unknown; every choice of an evaluation is a truth
abbrev pub NotUnknown : PathEvent → Type 0
NotUnknown read = Unit
NotUnknown outside = Unit
NotUnknown write = Unit
NotUnknown (choice n) = n ≡ choice_of is_unknown → ⊥

-- some run of the command falls, and neither reads nor writes
pub record Idles (c : Command) : Type 0 where
  pub events : List PathEvent
  pub idle : Each IsChoice events
  pub runs : Runs c events falls

-- what comes out unknown with choices alone can come out true so, and false; and it comes out unknown by an unknown choice only
pub record UnknownLaw (e : Evaluation) : Type 0 where
  pub as_true : Idles (e.truth is_unknown) → Idles (e.truth is_true)
  pub as_false : Idles (e.truth is_unknown) → Idles (e.truth is_false)
  pub by_choice : (t : List PathEvent) → Each NotUnknown t → Runs (e.truth is_unknown) t falls → ⊥

-- Document 01's sentence on && (settled by false) and || (settled by true): "&& is false after a false left; || is true after a true
-- left; otherwise, and only then, the right is evaluated and gives the truth".
pub data ShortCircuits (settled : Truth) (l r : Evaluation) : Truth → List PathEvent → Type 0 where
  by_left : {s : List PathEvent} → Runs (l.truth settled) s falls → ShortCircuits settled l r settled s
  by_right : {t : Truth} {s u : List PathEvent} → Runs (l.truth (opposite settled)) s falls → Runs (r.truth t) u falls → ShortCircuits settled l r t (s ++ u)

-- Document 01's sentence on ?: "A conditional expression evaluates its condition and one arm".
pub data TakesOneArm (c a b : Evaluation) : List PathEvent → Type 0 where
  first_arm : {s u : List PathEvent} → Runs (c.truth is_true) s falls → Runs a.value u falls → TakesOneArm c a b (s ++ u)
  second_arm : {s u : List PathEvent} → Runs (c.truth is_false) s falls → Runs b.value u falls → TakesOneArm c a b (s ++ u)
