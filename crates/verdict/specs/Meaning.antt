-- Demand 3 over bytes: "a single claim over every sheet with start 0 that loads and that asking accepts with the tables as loading left
-- them, and over all its paths". It does not cover what a called function or task reads inside itself, which is left to reasons 6 and
-- 7, nor what other blocks write to a shared net, nor that the walk is the Rust's, which rests on comparison. Definitions only.
use Rattle.std.specs.Prelude.{◌≡◌, true, List, ℕ, ◌≤◌, Ok}
use Rattle.soundness.specs.Demand3.{SafePaths, FallsWritten, NeverFalls}
use Rattle.sheet_record.specs.declared.Record.{Record}
use Rattle.sheet.specs.Load.{load_of}
use Rattle.sheet.specs.Meaning.{LoadNumbers}
use Rattle.answers.specs.declared.Answer.{Answer}
use Rattle.answers.specs.declared.Answer.TheVariants.{Falls, Jumps}
use Rattle.answers.specs.declared.Numbers.{Numbers}
use Rattle.answers.specs.Answers.{AcceptedAnswer, five_numbers, WalkNumbers}
use Rattle.ask.specs.Ask.{ask_of}
use Rattle.verdict.specs.Sheets.{sheet_of}
use Rattle.verdict.specs.Verdict.{verdict_of}

-- what is promised of a sheet: provided the premises, on every path of its tree, in whatever order a tool takes, every read of its local
-- has a whole write before it
abbrev pub SafeSheet : List ℕ → Type 0
SafeSheet s = SafePaths (sheet_of s).local (sheet_of s).marks (sheet_of s).tree

-- the demand, for tables of any length that the caller lends
abbrev pub SheetDemand3 : Type 0
SheetDemand3 = (s : List ℕ) (row_room name_room : ℕ) → AcceptedAnswer (verdict_of s row_room name_room) → (sheet_of s).start ≡ 0 → SafeSheet s

-- the same where the caller makes the two calls itself, on the record and the tables as loading left them
abbrev pub AskedDemand3 : Type 0
AskedDemand3 =
    (s : List ℕ) (row_room name_room : ℕ) (r : Record)
    → (load_of s row_room name_room).answer ≡ Ok r
    → AcceptedAnswer (ask_of r (load_of s row_room name_room).rows (load_of s row_room name_room).names)
    → (sheet_of s).start ≡ 0
    → SafeSheet s

-- what a verdict tells in numbers: the walk's, or a refusal of loading with its place, never 22 or 23
pub data VerdictNumbers : Numbers → Type 0 where
  by_walk : {n : Numbers} → WalkNumbers n → VerdictNumbers n
  refused : (number place : ℕ) → 1 ≤ number → LoadNumbers number place → VerdictNumbers (five_numbers 3 0 number place 0)

-- what an answer means to whoever has the sheet
pub record VerdictMeans (s : List ℕ) (answer : Answer) : Type 0 where
  -- demand 3
  pub safe : AcceptedAnswer answer → (sheet_of s).start ≡ 0 → SafeSheet s
  -- falls with written 1, from start 0: a path that falls through has written
  pub written : answer ≡ Falls true → (sheet_of s).start ≡ 0 → FallsWritten (sheet_of s).local (sheet_of s).marks (sheet_of s).tree
  -- jumps, from either start: no path falls through
  pub away : answer ≡ Jumps → NeverFalls (sheet_of s).local (sheet_of s).marks (sheet_of s).tree
