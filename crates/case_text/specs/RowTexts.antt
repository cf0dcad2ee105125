-- A record and a table's rows as a case's text gives them. Definitions only.
use Rattle.std.specs.Prelude.{ℕ, ◌+◌, ◌*◌, ◌/◌, ◌%◌, ◌≡◌, cond, List, eqb, leb, length, set}
use Rattle.table.specs.Rows.{end_at}
use Rattle.kinds.specs.Words.{kind_of}
use Rattle.kinds.specs.Named.{kind_number}
use Rattle.sheet_record.specs.declared.Record.{Record}
use Rattle.case_text.specs.Texts.{saturating_decimal, number_before, text_after}

-- the record of five numbers, parted by spaces
unfoldable pub record_text : List ℕ → Record
record_text text = record {
  names = number_before 32 text;
  rows = number_before 32 (text_after 32 text);
  local = number_before 32 (text_after 32 (text_after 32 text));
  start = number_before 32 (text_after 32 (text_after 32 (text_after 32 text)));
  sole = saturating_decimal 0 (text_after 32 (text_after 32 (text_after 32 (text_after 32 text))));
}

-- the kind of a word or, where it is no kind's, of a number
unfoldable pub kind_field : List ℕ → ℕ
kind_field text = cond (eqb (kind_number (kind_of text)) 66) (saturating_decimal 0 text % 4294967296) (kind_number (kind_of text))

-- the five numbers of row i set, a row that the table lacks left out; lo and hi are free
unfoldable pub set_row : List ℕ → ℕ → ℕ → ℕ → ℕ → List ℕ
set_row rows i kind side end =
    cond (leb (length rows / 5) i) rows
    (set (set (set (set (set rows (5 * i) kind) (5 * i + 1) side) (5 * i + 2) 4294967295) (5 * i + 3) 0) (5 * i + 4) end)

-- what `as_blocks` leaves of a table: how many numbers there are, and the ends
pub record EndsKept (rows after : List ℕ) : Type 0 where
  pub size : length after ≡ length rows
  pub ends : (i : ℕ) → end_at after i ≡ end_at rows i
