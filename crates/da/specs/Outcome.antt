-- What da_stmt answers: DaOut, DaGiveUp and DaResult of da/mod.rs, and what a state of the walk says. Definitions only.
use Rattle.std.specs.Prelude.{Bool, true, false, ◌&&◌, ◌||◌, ℕ, Result, Ok, Err}
use Rattle.da.specs.declared.DaOut.{DaOut}
use Rattle.da.specs.declared.DaOut.TheVariants.{Falls, Jumps}
use Rattle.da.specs.declared.Reason.{Reason}
use Rattle.da.specs.declared.Reason.TheVariants.{SharedNet, ReadUnwritten, EventReads, PartWritten, Forks, TaskReads, TaskUnknown, ControlReads, NotModelled}
use Rattle.da.specs.declared.DaGiveUp.{DaGiveUp}

-- "type DaResult = Result<DaOut, DaGiveUp>;"
abbrev pub DaResult : Type 0
DaResult = Result DaOut DaGiveUp

-- the walk's `assigned`. Every rule uses it by the five names below (document 02, Paper 5, makes it a mark a bit)
abbrev pub State : Type 0
State = Bool

-- nothing is written: `false`
abbrev pub unwritten : State
unwritten = false

-- all is: `true`
abbrev pub written : State
written = true

-- the question of every rule that asks `assigned`
abbrev pub is_written : State → Bool
is_written a = a

-- "assigned || ...": all is written where the test says so
abbrev pub gains : Bool → State → State
gains wrote a = a || wrote

-- what both say
abbrev pub meet : State → State → State
meet a b = a && b

-- DaOut::state: "A `Jumps` path never reaches it, so it contributes the identity"
abbrev pub state : DaOut → State
state (Falls a) = a
state Jumps = written

-- DaOut::merge: "A non-falling arm drops out (it never reaches the join); if BOTH jump, ... the whole construct jumps"
abbrev pub merge : DaOut → DaOut → DaOut
merge Jumps other = other
merge (Falls a) Jumps = Falls a
merge (Falls a) (Falls b) = Falls (meet a b)

-- the Rust's `?`; "A give-up ends every walk above it, unchanged"
infixr 30 ◌▷◌
abbrev pub ◌▷◌ : DaResult → (DaOut → DaResult) → DaResult
Ok out ▷ next = next out
Err stop ▷ next = Err stop

-- S::Block's match on a statement's answer: "the rest of this block is UNREACHABLE" after a jump
abbrev pub go_on : (State → DaResult) → DaOut → DaResult
go_on next (Falls a) = next a
go_on next Jumps = Ok Jumps

-- document 01's number of a reason
abbrev pub reason_number : Reason → ℕ
-- "shared net and time can advance"
reason_number SharedNet = 1
-- "read before any write"
reason_number ReadUnwritten = 2
-- "event on an assignment"
reason_number EventReads = 3
-- "only part written"
reason_number PartWritten = 4
-- "fork"
reason_number Forks = 5
-- "call reads"
reason_number TaskReads = 6
-- "call unknown"
reason_number TaskUnknown = 7
-- "event control"
reason_number ControlReads = 8
-- "form not modelled"
reason_number NotModelled = 9

-- DaGiveUp::at: a reason by its number in document 01, with a span
abbrev pub give_up : Reason → ℕ → ℕ → DaResult
give_up reason lo hi = Err (record { reason = reason_number reason; lo = lo; hi = hi })

-- "Accepted means falls or jumps"
abbrev pub Accepted : DaResult → Type 0
Accepted (Ok out) = Unit
Accepted (Err stop) = ⊥
