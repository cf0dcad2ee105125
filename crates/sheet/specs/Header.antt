-- The lines that hold one number each: document 01, "The sheet", and refusal 3. A line's key, its range, its line number, which is its place in
-- the sheet, and the number of the record that it tells are read from the two lists here (law `facts_placed`). Definitions only.
use Rattle.std.specs.Prelude.{ℕ, ◌+◌, ◌-◌, List, [], ◌∷◌, length, get_or}
use Prim.Native.String.{String}
use Rattle.kinds.specs.Kinds.{bytes}
use Rattle.sheet_record.specs.declared.Record.{Record}

-- the greatest number that a line may hold: one that is given, or the greatest that is "below names"
pub data Greatest : Type 0 where
  at_most : ℕ → Greatest
  below_the_names : Greatest

abbrev pub greatest : Greatest → ℕ → ℕ
greatest (at_most n) names = n
greatest below_the_names names = names - 1

-- a line with its key, the least and the greatest number that it may hold, and the number of a record that it tells
pub record HeaderLine : Type 0 where
  pub key : List ℕ
  pub low : ℕ
  pub high : Greatest
  pub number : Record → ℕ

abbrev pub line : String → ℕ → Greatest → (Record → ℕ) → HeaderLine
line key low high number = record { key = bytes key; low = low; high = high; number = number }

-- "`sheet=1`, `names=`": the lines before the names; "sheet not 1, names outside 1..500"
abbrev pub head_lines : List HeaderLine
head_lines = line "sheet=" 1 (at_most 1) (λ r. 1) ∷ line "names=" 1 (at_most 500) (λ r. r.names) ∷ []

-- "`local=`, `start=`, `sole=`, `rows=`": those after the names; "local not below names, start or sole above 1, rows outside 1..2,000"
abbrev pub fact_lines : List HeaderLine
fact_lines =
    line "local=" 0 below_the_names (λ r. r.local) ∷
    line "start=" 0 (at_most 1) (λ r. r.start) ∷
    line "sole=" 0 (at_most 1) (λ r. r.sole) ∷
    line "rows=" 1 (at_most 2000) (λ r. r.rows) ∷
    []

-- the record of so many names and the numbers of the lines after them, each in the place that its line tells of
abbrev pub record_by : ℕ → List ℕ → Record
record_by names facts = record { names = names; rows = get_or facts 3 0; local = get_or facts 0 0; start = get_or facts 1 0; sole = get_or facts 2 0 }

-- lines are counted from 1: the names stand after the head, the facts after the names, the rows after the facts
abbrev pub first_name : ℕ
first_name = 1 + length head_lines

abbrev pub first_fact : ℕ → ℕ
first_fact names = first_name + names

abbrev pub first_row : ℕ → ℕ
first_row names = first_fact names + length fact_lines
