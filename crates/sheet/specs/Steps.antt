-- What the code keeps of a line of the header, what it answers on its way, and what it leaves in the tables.
use Rattle.std.specs.Prelude.{ℕ, ◌+◌, ◌*◌, ◌≤◌, ◌<◌, ◌≡◌, cond, List, [], ◌∷◌, leb, length, take, get_or, Result, Ok, Err}
use Rattle.writing.specs.Putting.{put}
use Rattle.lines.specs.declared.Line.{Line}
use Rattle.checks.specs.Checks.{passed, fields_of}
use Rattle.sheet_record.specs.declared.Record.{Record}
use Rattle.refusals.specs.declared.Refusal.{Refusal}
use Rattle.refusals.specs.declared.Refused.{Refused}
use Rattle.refusals.specs.Refusals.{refused_at}
use Rattle.sheet.specs.declared.header.KeyLine.{KeyLine}
use Rattle.sheet.specs.declared.header.Limit.{Limit}
use Rattle.sheet.specs.declared.header.Limit.TheVariants.{AtMost, BelowNames}
use Rattle.sheet.specs.Header.{Greatest, at_most, below_the_names, HeaderLine, record_by}
use Rattle.sheet.specs.Sections.{Lines, read, refused}
use Rattle.sheet.specs.Load.{Loaded, Before, before, stopped, before_rows, Parsed, parsed, wrong, lines_of, Loading, finish_of}

-- the greatest number of a line, as the code has it
abbrev pub limit_of : Limit → Greatest
limit_of (AtMost n) = at_most n
limit_of BelowNames = below_the_names

-- a table of lines whose keys have bytes
pub record KeysHeld (ks : List KeyLine) : Type 0 where
  pub some : (i : ℕ) (d : KeyLine) → i < length ks → 0 < length (get_or ks i d).key.now

-- a line of the header as the code has it
pub record KeyOf (k : KeyLine) (l : HeaderLine) : Type 0 where
  pub key : k.key.now ≡ l.key
  pub low : k.low ≡ l.low
  pub high : limit_of k.high ≡ l.high

-- a table of such lines, one for one
pub data Keys : List KeyLine → List HeaderLine → Type 0 where
  no_key : Keys [] []
  one_key : {k : KeyLine} {ks : List KeyLine} {l : HeaderLine} {ls : List HeaderLine} → KeyOf k l → Keys ks ls → Keys (k ∷ ks) (l ∷ ls)

-- what is read on a line, or the line's refusal with its number
abbrev pub at_line : {A : Type 0} → ℕ → Result A Refusal → Result A Refused
at_line line (Ok x) = Ok x
at_line line (Err refusal) = refused_at refusal line

-- what the code answers of lines that hold one number each
abbrev pub numbers_of : Lines → Result (Line (List ℕ)) Refused
numbers_of (read numbers next) = Ok (record { value = numbers; next = next })
numbers_of (refused refusal line) = refused_at refusal line

-- what the code answers of lines: all but their numbers
abbrev pub section_of : Lines → Result ℕ Refused
section_of (read numbers next) = Ok next
section_of (refused refusal line) = refused_at refusal line

-- what a section leaves in its table, which had room for it: its numbers in front. If it is refused, or has no room, the
-- caller clears the table, and nothing is said of it.
pub record Filled (width count : ℕ) (lines : Lines) (table : List ℕ) : Type 0 where
  pub front : width * count ≤ length table → (numbers : List ℕ) (next : ℕ) → lines ≡ read numbers next → take (width * count) table ≡ numbers

-- numbers put into a table from a place on, if it has room for all of them
unfoldable pub put_whole : List ℕ → ℕ → List ℕ → List ℕ
put_whole table w numbers = cond (leb (w + length numbers) (length table)) (put table w numbers) table

-- a sheet that is not too long: its places fit the name table
pub record Short (s : List ℕ) : Type 0 where
  pub bytes : length s ≤ 65536

-- what the code answers of the lines before the names: their count
abbrev pub head_of : Lines → Result (Line ℕ) Refused
head_of (read numbers next) = Ok (record { value = get_or numbers 1 0; next = next })
head_of (refused refusal line) = refused_at refusal line

-- of the lines after the names: the record
abbrev pub facts_of : ℕ → Lines → Result (Line Record) Refused
facts_of names (read numbers next) = Ok (record { value = record_by names numbers; next = next })
facts_of names (refused refusal line) = refused_at refusal line

-- of all lines before the rows: all but the numbers of the names
abbrev pub before_of : Before → Result (Line Record) Refused
before_of (before r numbers next) = Ok (record { value = r; next = next })
before_of (stopped refusal line) = refused_at refusal line

abbrev pub answer_of : Parsed → Loaded
answer_of (parsed r names rows) = Ok r
answer_of (wrong refusal line) = refused_at refusal line

-- the numbers stand in front of a table that has room for them
pub record NamesFilled (s table : List ℕ) : Type 0 where
  pub front : (r : Record) (numbers : List ℕ) (next : ℕ) → before_rows s ≡ before r numbers next → 3 * r.names ≤ length table
      → take (3 * r.names) table ≡ numbers

pub record BothFilled (s rows names : List ℕ) : Type 0 where
  pub row_front : (r : Record) (name_numbers row_numbers : List ℕ) → lines_of s ≡ parsed r name_numbers row_numbers → 5 * r.rows ≤ length rows
      → take (5 * r.rows) rows ≡ row_numbers
  pub name_front : (r : Record) (name_numbers row_numbers : List ℕ) → lines_of s ≡ parsed r name_numbers row_numbers → 3 * r.names ≤ length names
      → take (3 * r.names) names ≡ name_numbers

-- tables with room for the counts of a record in its ranges
pub record Room (r : Record) (rows names : List ℕ) : Type 0 where
  pub few_rows : r.rows ≤ 2000
  pub few_names : r.names ≤ 500
  pub for_rows : 5 * r.rows ≤ length rows
  pub for_names : 3 * r.names ≤ length names

-- a table whose rows, if it has room for them, were read from lines: in every table that has them in front the fields pass
pub record FieldsRead (r : Record) (rows : List ℕ) : Type 0 where
  pub pass : 5 * r.rows ≤ length rows → (table : List ℕ) → 5 * r.rows ≤ length table → take (5 * r.rows) table ≡ take (5 * r.rows) rows
      → fields_of table r.rows r.names ≡ passed

-- what follows good lines whose numbers stand in front of the tables
unfoldable pub finish_fronts : Record → List ℕ → List ℕ → Loading
finish_fronts r rows names = finish_of (length rows) (length names) r (take (3 * r.names) names) (take (5 * r.rows) rows)

-- the tables of a good load, which the code has filled; those of a refused one it clears after
pub record GoodFilled (answer : Loaded) (result : Loading) (rows names : List ℕ) : Type 0 where
  pub row_table : (r : Record) → answer ≡ Ok r → rows ≡ result.rows
  pub name_table : (r : Record) → answer ≡ Ok r → names ≡ result.names
