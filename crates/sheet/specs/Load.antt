-- The whole of loading: document 01, "What the caller gets" and "The sheet". For every list of bytes and every two lengths of
-- tables: the answer, and what both tables hold after it. Definitions only.
use Rattle.std.specs.Prelude.{ℕ, ◌+◌, ◌-◌, ◌*◌, Bool, cond, ◌&&◌, List, ◌++◌, leb, ltb, length, get_or, replicate, Result, Ok, Err}
use Rattle.refusals.specs.declared.Refusal.{Refusal}
use Rattle.refusals.specs.declared.Refusal.TheVariants.{WrongLine, TooLong, NoRoom}
use Rattle.refusals.specs.declared.Refused.{Refused}
use Rattle.refusals.specs.Refusals.{refusal_number, refused_at}
use Rattle.checks.specs.Checks.{Checked, children_of}
use Rattle.sheet_record.specs.declared.Record.{Record}
use Rattle.sheet.specs.Header.{record_by, first_row}
use Rattle.sheet.specs.Sections.{after_lines, head_from, names_from, facts_from, rows_from}

-- what loading answers: the record, or a refusal with its line
abbrev pub Loaded : Type 0
Loaded = Result Record Refused

-- what each answer is in numbers: the refusal's number, 0 for a good load; the place, "a line number from 1 .., or 0"; and the
-- record, zeros where it is refused
abbrev pub refusal_of : Loaded → ℕ
refusal_of (Ok r) = 0
refusal_of (Err e) = refusal_number e.refusal

abbrev pub place_of : Loaded → ℕ
place_of (Ok r) = 0
place_of (Err e) = e.place

abbrev pub record_of : Loaded → Record
record_of (Ok r) = r
record_of (Err e) = record { names = 0; rows = 0; local = 0; start = 0; sole = 0 }

-- what the lines before the rows tell: the record, the numbers of the names, and where the rows start; or the first refusal,
-- and its line
pub data Before : Type 0 where
  before : Record → (names : List ℕ) → (next : ℕ) → Before
  stopped : Refusal → (line : ℕ) → Before

-- "Order: `sheet=1`, `names=`, that many `name=`, `local=`, `start=`, `sole=`, `rows=`"; the count of names is the second number
unfoldable pub before_rows : List ℕ → Before
before_rows s =
    after_lines stopped (head_from s)
    (λ head at. after_lines stopped (names_from (get_or head 1 0) s at)
    (λ names at. after_lines stopped (facts_from (get_or head 1 0) s at)
    (λ facts at. before (record_by (get_or head 1 0) facts) names at)))

-- what all lines tell
pub data Parsed : Type 0 where
  parsed : Record → (names rows : List ℕ) → Parsed
  wrong : Refusal → (line : ℕ) → Parsed

abbrev pub after_before : Before → (Record → List ℕ → ℕ → Parsed) → Parsed
after_before (before r numbers next) more = more r numbers next
after_before (stopped refusal line) more = wrong refusal line

-- the line on which a row stands
abbrev pub line_of : Record → ℕ → ℕ
line_of r row = first_row r.names + row

-- "that many `row=`", and no more: "1: missing or extra line"
unfoldable pub lines_of : List ℕ → Parsed
lines_of s =
    after_before (before_rows s)
    (λ r names at. after_lines wrong (rows_from r.names r.rows s at)
    (λ rows at. cond (ltb at (length s)) (wrong WrongLine (line_of r r.rows)) (parsed r names rows)))

-- what a load gives: the answer, and what both tables hold
pub record Loading : Type 0 where
  pub answer : Loaded
  pub rows : List ℕ
  pub names : List ℕ

-- "A refused load .. leave[s] zeros"
unfoldable pub refuse : ℕ → ℕ → Refusal → ℕ → Loading
refuse row_room name_room refusal line = record { answer = refused_at refusal line; rows = replicate row_room 0; names = replicate name_room 0 }

-- "and the unused tail after a good one": a table with so much room, and these numbers in front
unfoldable pub table_of : ℕ → List ℕ → List ℕ
table_of room numbers = numbers ++ replicate (room - length numbers) 0

-- "21: the row table has fewer than 5 numbers a row, or the name table fewer than 3 a name"
unfoldable pub has_room : ℕ → ℕ → Record → Bool
has_room row_room name_room r = leb (5 * r.rows) row_room && leb (3 * r.names) name_room

-- "7 and 8 in row order, 7 before 8; then 9 in row order", each at the line of its row
abbrev pub after_checks : Checked → Record → Loaded
after_checks (Ok u) r = Ok r
after_checks (Err e) r = refused_at e.refusal (line_of r e.place)

-- the answer for lines that were read into tables with room
unfoldable pub checked_answer : Record → List ℕ → Loaded
checked_answer r rows = after_checks (children_of rows r.rows) r

-- an answer with its tables: these after a good load, zeros after a refused one
abbrev pub with_tables : ℕ → ℕ → Loaded → List ℕ → List ℕ → Loading
with_tables row_room name_room (Ok r) rows names = record { answer = Ok r; rows = rows; names = names }
with_tables row_room name_room (Err e) rows names = refuse row_room name_room e.refusal e.place

-- what follows good lines: 21, then the checks
unfoldable pub finish_of : ℕ → ℕ → Record → List ℕ → List ℕ → Loading
finish_of row_room name_room r name_numbers row_numbers =
    cond (has_room row_room name_room r)
    (with_tables row_room name_room (checked_answer r (table_of row_room row_numbers)) (table_of row_room row_numbers) (table_of name_room name_numbers))
    (refuse row_room name_room NoRoom 0)

abbrev pub after_parse : ℕ → ℕ → Parsed → Loading
after_parse row_room name_room (wrong refusal line) = refuse row_room name_room refusal line
after_parse row_room name_room (parsed r name_numbers row_numbers) = finish_of row_room name_room r name_numbers row_numbers

-- "Order: 10; then 1 to 6, first line first, lowest number on one line; 21; then 7 and 8 in row order, 7 before 8; then 9 in row order"
unfoldable pub load_of : List ℕ → ℕ → ℕ → Loading
load_of s row_room name_room = cond (leb (length s) 65536) (after_parse row_room name_room (lines_of s)) (refuse row_room name_room TooLong 0)
