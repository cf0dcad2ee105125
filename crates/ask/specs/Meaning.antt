-- What an answer means: demand 3 over the tables that were asked, what the accepted answers say of a path that goes on, and the
-- numbers of each answer. Definitions only.
use Rattle.std.specs.Prelude.{◌≡◌, true, List, ℕ, ◌<◌}
use Rattle.soundness.specs.Demand3.{SafePaths, FallsWritten, NeverFalls}
use Rattle.sheet_record.specs.declared.Record.{Record}
use Rattle.sheet_record.specs.Records.{marks_of}
use Rattle.answers.specs.declared.Answer.{Answer}
use Rattle.answers.specs.declared.Answer.TheVariants.{Falls, Jumps}
use Rattle.answers.specs.declared.Numbers.{Numbers}
use Rattle.answers.specs.Answers.{AcceptedAnswer, five_numbers, WalkNumbers}
use Rattle.ask.specs.Ask.{row_tree}

-- what asking tells in numbers: the walk's, or "22 (ask, name)", told no place, or "23 (ask; place is the row)", place 0 for a mark
pub data AskNumbers (r : Record) : Numbers → Type 0 where
  by_walk : {n : Numbers} → WalkNumbers n → AskNumbers r n
  wrong_record : AskNumbers r (five_numbers 3 0 22 0 0)
  wrong_table : (row : ℕ) → row < r.rows → AskNumbers r (five_numbers 3 0 23 row 0)

-- what an answer means to whoever has the record and the tables
pub record AskMeans (r : Record) (rows names : List ℕ) (answer : Answer) : Type 0 where
  -- accepted from the unwritten start: on every path, in whatever order a tool takes, every read of the local has a whole write before it,
  -- provided the premises
  pub safe : AcceptedAnswer answer → r.start ≡ 0 → SafePaths r.local (marks_of names) (row_tree r rows)
  -- falls with written 1, from that start: a path that falls through has written
  pub written : answer ≡ Falls true → r.start ≡ 0 → FallsWritten r.local (marks_of names) (row_tree r rows)
  -- jumps, from either start: no path falls through
  pub away : answer ≡ Jumps → NeverFalls r.local (marks_of names) (row_tree r rows)
