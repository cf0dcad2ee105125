-- Demand 3 over trees: nothing slips through. One claim over every tree, of whatever rows, and all its paths.
use Rattle.std.specs.Prelude.{◌≡◌, Bool, true, List, ℕ, Ok}
use Rattle.table.specs.Rows.{Forest}
use Rattle.reads.specs.Iffs.{iff_quiet}
use Rattle.paths.specs.Commands.{PathEvent, falls, Runs}
use Rattle.paths.specs.Semantics.{Order, InFreeOrder, under}
use Rattle.paths.specs.Written.{Written, ReadsWritten}
use Rattle.stmt_paths.specs.Execution.{executed, IsPath}
use Rattle.stmt_paths.specs.Premises.{nonblocking_quiet, Premises}
use Rattle.da.specs.declared.DaOut.TheVariants.{Falls, Jumps}
use Rattle.da.specs.Outcome.{DaResult, State, unwritten, written, Accepted}
use Rattle.da.specs.Walk.{da_ctx, da_stmt}

-- what is promised of a tree: "whatever truth its conditions take, whichever arm, if any, each case picks, whichever way each loop jump
-- goes and whatever number of rounds each loop runs" (every list of events that is a path, with the choices among them), "every read
-- of the local on its path has a whole write before it, provided" (the premises, at every row). "the call and loop facts are true":
-- a path takes the side numbers as given. And whatever order a tool takes: row order or free order.
abbrev pub SafePaths : ℕ → (ℕ → Bool) → Forest → Type 0
SafePaths x marks f = Premises x marks f → (o : Order) (t : List PathEvent) → IsPath (under o) x marks f t → ReadsWritten t

-- what is asked of a tree beside that no iff refers: in row order nothing; in free order, in which a nonblocking's timing and selects may
-- be evaluated at the statement, the premises on nonblocking rows
abbrev pub OrderPremise : Order → ℕ → Forest → Type 0
OrderPremise o x f = InFreeOrder (nonblocking_quiet x f ≡ true) o

-- every path that falls through has written, if no iff refers to the local, nor what the order asks of nonblocking rows
abbrev pub FallsWritten : ℕ → (ℕ → Bool) → Forest → Type 0
FallsWritten x marks f = iff_quiet x f ≡ true → (o : Order) → OrderPremise o x f → (t : List PathEvent) → Runs (executed (under o) x marks f) t falls → Written t

-- no path falls through, if so
abbrev pub NeverFalls : ℕ → (ℕ → Bool) → Forest → Type 0
NeverFalls x marks f = iff_quiet x f ≡ true → (o : Order) → OrderPremise o x f → (t : List PathEvent) → Runs (executed (under o) x marks f) t falls → ⊥

-- "If a sheet is accepted from the unwritten start"
abbrev pub Demand3 : Type 0
Demand3 = (x : ℕ) (marks : ℕ → Bool) (sole : Bool) (f : Forest) → Accepted (da_stmt (da_ctx x marks sole) f unwritten) → SafePaths x marks f

-- the same from the premises that it needs: no iff refers to the local, and in free order those on nonblocking rows
abbrev pub Demand3FromIff : Type 0
Demand3FromIff =
    (x : ℕ) (marks : ℕ → Bool) (sole : Bool) (f : Forest)
    → Accepted (da_stmt (da_ctx x marks sole) f unwritten)
    → iff_quiet x f ≡ true
    → (o : Order)
    → OrderPremise o x f
    → (t : List PathEvent)
    → IsPath (under o) x marks f t
    → ReadsWritten t

-- what the walk's answer for a tree means, from a start
pub record WalkMeans (x : ℕ) (marks : ℕ → Bool) (f : Forest) (start : State) (result : DaResult) : Type 0 where
  -- accepted from the unwritten start: demand 3
  pub safe : Accepted result → start ≡ unwritten → SafePaths x marks f
  -- "falls with written" 1, from that start
  pub written : result ≡ Ok (Falls written) → start ≡ unwritten → FallsWritten x marks f
  -- jumps, from either start
  pub away : result ≡ Ok Jumps → NeverFalls x marks f
