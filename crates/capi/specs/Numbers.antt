-- What C is told, as lists of numbers: document 01, "What the caller gets". Definitions only.
use Rattle.std.specs.Prelude.{ℕ, ◌*◌, ◌≤◌, ◌≡◌, Result, Ok, Err, List, [], ◌∷◌, get_or}
use Rattle.sheet_record.specs.declared.Record.{Record}
use Rattle.refusals.specs.declared.Refusal.{Refusal}
use Rattle.refusals.specs.Refusals.{refusal_number}
use Rattle.sheet.specs.Load.{Loaded, refusal_of, place_of, record_of, load_of}
use Rattle.answers.specs.declared.Answer.{Answer}
use Rattle.answers.specs.Answers.{numbers_of}
use Rattle.names.specs.declared.Span.{Span}

-- "fewer than 5 numbers a row": 2,000 rows
abbrev pub most_row_numbers : ℕ
most_row_numbers = 5 * 2000

-- "fewer than 3 a name": 500 names
abbrev pub most_name_numbers : ℕ
most_name_numbers = 3 * 500

-- tables of these lengths or longer are too short for no sheet: 21 is never the answer
abbrev pub RoomFor : ℕ → ℕ → Type 0
RoomFor row_room name_room =
    (s : List ℕ) (rows_lent names_lent : ℕ) → row_room ≤ rows_lent → name_room ≤ names_lent → refusal_of (load_of s rows_lent names_lent).answer ≡ 21 → ⊥

-- an answer's numbers, in the order in which they are printed
abbrev pub answer_numbers : Answer → List ℕ
answer_numbers a = (numbers_of a).answer ∷ (numbers_of a).state ∷ (numbers_of a).reason ∷ (numbers_of a).lo ∷ (numbers_of a).hi ∷ []

-- "counts of names and rows, local, start, sole", in that order
abbrev pub record_numbers : Record → List ℕ
record_numbers r = r.names ∷ r.rows ∷ r.local ∷ r.start ∷ r.sole ∷ []

-- the record that five such numbers are
unfoldable pub record_from : List ℕ → Record
record_from ns = record { names = get_or ns 0 0; rows = get_or ns 1 0; local = get_or ns 2 0; start = get_or ns 3 0; sole = get_or ns 4 0 }

-- the record's numbers, zeros where the load is refused
abbrev pub loaded_numbers : Loaded → List ℕ
loaded_numbers loaded = record_numbers (record_of loaded)

-- the refusal's number and its line, zeros where there is none
abbrev pub refusal_numbers : Loaded → List ℕ
refusal_numbers loaded = refusal_of loaded ∷ place_of loaded ∷ []

-- offset, length and 0; "A refused name is the empty part", with its number
abbrev pub place_numbers : Result Span Refusal → List ℕ
place_numbers (Ok span) = span.offset ∷ span.size ∷ 0 ∷ []
place_numbers (Err refusal) = 0 ∷ 0 ∷ refusal_number refusal ∷ []
