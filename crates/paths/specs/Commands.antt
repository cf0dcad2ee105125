-- Paths: document 01, "How a path runs". Rows are compiled to commands, and one relation says what a command can do; kinds of
-- rows do not appear here. Commands are for proofs: nested && make them grow exponentially.
use Rattle.std.specs.Prelude.{List, [], ◌∷◌, ◌++◌, ℕ}

-- "the list of the reads and writes named here, all writes whole". `outside` is a fork or a form that is not modelled, which
-- counts as a read. A choice is the number by which document 02, Paper 6, tells it.
pub data PathEvent : Type 0 where
  read write outside : PathEvent
  choice : ℕ → PathEvent

-- how a run ends: at what stands next; stopped, or returned, or waiting for ever; by a loop jump, out of the nearest loop or
-- only of its round
pub data Ending : Type 0 where
  falls stops leaves again : Ending

-- the two loop jumps, at the place where each goes on
pub data Jump : Type 0 where
  out_of_loop out_of_round : Jump

-- what rows are compiled to
pub data Command : Type 0 where
  -- nothing happens
  skip : Command
  -- one event
  emit : PathEvent → Command
  -- control goes elsewhere
  exit : Ending → Command
  -- one after the other; one of the two
  seq alt : Command → Command → Command
  -- any number of times
  star : Command → Command
  -- a jump of this kind ends here
  catch : Jump → Command → Command

-- how a run that ends so looks from outside a catch
abbrev pub caught : Jump → Ending → Ending
caught out_of_loop falls = falls
caught out_of_loop stops = stops
caught out_of_loop leaves = falls
caught out_of_loop again = again
caught out_of_round falls = falls
caught out_of_round stops = stops
caught out_of_round leaves = leaves
caught out_of_round again = falls

-- what stands next is not run
abbrev pub Elsewhere : Ending → Type 0
Elsewhere falls = ⊥
Elsewhere stops = Unit
Elsewhere leaves = Unit
Elsewhere again = Unit

-- not by a loop jump
abbrev pub NoJump : Ending → Type 0
NoJump falls = Unit
NoJump stops = Unit
NoJump leaves = ⊥
NoJump again = ⊥

-- What a command can do. A path "may stop anywhere": before a command, and after its event.
pub data Runs : Command → List PathEvent → Ending → Type 0 where
  run_stop : {c : Command} → Runs c [] stops
  run_skip : Runs skip [] falls
  run_emit : {e : PathEvent} → Runs (emit e) (e ∷ []) falls
  run_emit_stop : {e : PathEvent} → Runs (emit e) (e ∷ []) stops
  run_exit : {o : Ending} → Runs (exit o) [] o
  run_seq : {c d : Command} {s t : List PathEvent} {o : Ending} → Runs c s falls → Runs d t o → Runs (seq c d) (s ++ t) o
  run_off : {c d : Command} {s : List PathEvent} {o : Ending} → Elsewhere o → Runs c s o → Runs (seq c d) s o
  run_left : {c d : Command} {s : List PathEvent} {o : Ending} → Runs c s o → Runs (alt c d) s o
  run_right : {c d : Command} {s : List PathEvent} {o : Ending} → Runs d s o → Runs (alt c d) s o
  run_none : {c : Command} → Runs (star c) [] falls
  run_more : {c : Command} {s : List PathEvent} {o : Ending} → Runs (seq c (star c)) s o → Runs (star c) s o
  run_catch : {j : Jump} {c : Command} {s : List PathEvent} {o : Ending} → Runs c s o → Runs (catch j c) s (caught j o)
