-- Load, then ask. Definitions only.
use Rattle.std.specs.Prelude.{ℕ, List, Ok, Err}
use Rattle.sheet.specs.Load.{Loaded, load_of}
use Rattle.answers.specs.declared.Answer.{Answer}
use Rattle.answers.specs.declared.Answer.TheVariants.{Refused}
use Rattle.ask.specs.Ask.{ask_of}

-- a load's refusal is the answer; a record is asked with the tables
abbrev pub after_load : Loaded → List ℕ → List ℕ → Answer
after_load (Ok r) rows names = ask_of r rows names
after_load (Err e) rows names = Refused e.refusal e.place

-- "every sheet .. that loads and that asking accepts with the tables as loading left them"
unfoldable pub verdict_of : List ℕ → ℕ → ℕ → Answer
verdict_of s row_room name_room =
    after_load (load_of s row_room name_room).answer (load_of s row_room name_room).rows (load_of s row_room name_room).names
