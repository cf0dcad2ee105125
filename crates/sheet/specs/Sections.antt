-- The sheet's lines, section by section: document 01, "Order: `sheet=1`, `names=`, that many `name=`, `local=`, `start=`, `sole=`, `rows=`, that many
-- `row=`", with "1 to 6, first line first". By place and count: a line is read where the one before it ended. Definitions only.
use Rattle.std.specs.Prelude.{ℕ, zero, suc, ◌+◌, List, [], ◌∷◌, ◌++◌, length, take, drop, Result, Ok, Err}
use Rattle.refusals.specs.declared.Refusal.{Refusal}
use Rattle.refusals.specs.declared.Refusal.TheVariants.{WrongLine}
use Rattle.lines.specs.declared.Line.{Line as LineRead}
use Rattle.lines.specs.declared.Name.{Name}
use Rattle.lines.specs.declared.Row.{Row}
use Rattle.lines.specs.Lines.{number_line, name_line, row_at}
use Rattle.sheet.specs.Header.{HeaderLine, greatest, head_lines, fact_lines, first_name, first_fact, first_row}

-- what is told of a line: its numbers, what the lines after it go by, and where the next one starts; or what is wrong
pub data Line (A : Type 0) : Type 0 where
  right_line : (numbers : List ℕ) → (after : A) → (next : ℕ) → Line A
  wrong_line : Refusal → Line A

-- what is told of lines: their numbers, and where the line after them starts; or the first refusal, and its line
pub data Lines : Type 0 where
  read : (numbers : List ℕ) → (next : ℕ) → Lines
  refused : Refusal → (line : ℕ) → Lines

abbrev pub prepend : List ℕ → Lines → Lines
prepend numbers (read others next) = read (numbers ++ others) next
prepend numbers (refused refusal line) = refused refusal line

-- the lines after one that is right; one that is wrong is refused at its number
abbrev pub after_line : {A : Type 0} → Line A → ℕ → (A → ℕ → Lines) → Lines
after_line (right_line numbers after next) line more = prepend numbers (more after next)
after_line (wrong_line refusal) line more = refused refusal line

-- so many lines from a place and a line number on, by what is told of a line at a place and of what it goes by
unfoldable pub lines_from : {A : Type 0} → (A → ℕ → Line A) → ℕ → A → ℕ → ℕ → Lines
lines_from step zero by at line = read [] at
lines_from step (suc n) by at line = after_line (step by at) line (λ after next. lines_from step n after next (line + 1))

-- what follows lines that are right
abbrev pub after_lines : {A : Type 0} → (Refusal → ℕ → A) → Lines → (List ℕ → ℕ → A) → A
after_lines refuse (read numbers next) more = more numbers next
after_lines refuse (refused refusal line) more = refuse refusal line

-- a line with one number goes by the list of those still to come
abbrev pub of_number : List HeaderLine → Result (LineRead ℕ) Refusal → Line (List HeaderLine)
of_number others (Ok l) = right_line (l.value ∷ []) others l.next
of_number others (Err refusal) = wrong_line refusal

unfoldable pub number_step : ℕ → List ℕ → List HeaderLine → ℕ → Line (List HeaderLine)
number_step names s [] at = wrong_line WrongLine
number_step names s (l ∷ others) at = of_number others (number_line l.key l.low (greatest l.high names) s at)

-- the first lines of the sheet; no range of theirs asks for the count of names
abbrev pub head_from : List ℕ → Lines
head_from s = lines_from (number_step 0 s) (length head_lines) head_lines 0 1

-- the lines after the names
abbrev pub facts_from : ℕ → List ℕ → ℕ → Lines
facts_from names s at = lines_from (number_step names s) (length fact_lines) fact_lines at (first_fact names)

-- "A name's three numbers are byte offset, length and jump mark"
abbrev pub name_numbers : Name → List ℕ
name_numbers name = name.offset ∷ name.length ∷ name.mark ∷ []

-- the bytes that a name's offset and length give
abbrev pub name_text : List ℕ → Name → List ℕ
name_text s name = take name.length (drop name.offset s)

abbrev pub of_name : List ℕ → Result (LineRead Name) Refusal → Line (List ℕ)
of_name s (Ok l) = right_line (name_numbers l.value) (name_text s l.value) l.next
of_name s (Err refusal) = wrong_line refusal

-- a name goes by the text of the one before it
unfoldable pub name_step : List ℕ → List ℕ → ℕ → Line (List ℕ)
name_step s before at = of_name s (name_line before s at)

abbrev pub names_from : ℕ → List ℕ → ℕ → Lines
names_from count s at = lines_from (name_step s) count [] at first_name

-- "row=kind side lo hi end", five numbers a row
abbrev pub row_numbers : Row → List ℕ
row_numbers row = row.kind ∷ row.side ∷ row.lo ∷ row.hi ∷ row.end ∷ []

abbrev pub of_row : Result (LineRead Row) Refusal → Line (Unit {0})
of_row (Ok l) = right_line (row_numbers l.value) tt l.next
of_row (Err refusal) = wrong_line refusal

-- a row goes by nothing but the count of names
unfoldable pub row_step : ℕ → List ℕ → Unit {0} → ℕ → Line (Unit {0})
row_step names s nothing at = of_row (row_at names s at)

abbrev pub rows_from : ℕ → ℕ → List ℕ → ℕ → Lines
rows_from names count s at = lines_from (row_step names s) count tt at (first_row names)
