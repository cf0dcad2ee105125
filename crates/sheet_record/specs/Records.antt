-- The record and the name table: document 01, "What the caller gets" and "The sheet". Definitions only.
use Rattle.std.specs.Prelude.{ℕ, zero, suc, ◌+◌, ◌*◌, Bool, true, ◌&&◌, List, eqb, leb, ltb, take, drop, get_or}
use Rattle.sheet_record.specs.declared.Record.{Record}

-- "22: the record has counts outside the ranges of 3, a local not below names, a start or sole above 1"
unfoldable pub record_fits : Record → Bool
record_fits r =
    leb 1 r.names && (leb r.names 500
    && (leb 1 r.rows && (leb r.rows 2000
    && (ltb r.local r.names && (leb r.start 1 && leb r.sole 1)))))

-- "or tables too short for it", which is 22 as well: tables of so many numbers
unfoldable pub record_held : Record → ℕ → ℕ → Bool
record_held r row_room name_room = record_fits r && (leb (5 * r.rows) row_room && leb (3 * r.names) name_room)

-- where a name of a name table starts in the sheet
abbrev pub offset_at : List ℕ → ℕ → ℕ
offset_at table i = get_or table (3 * i) 0

-- how many bytes it has
abbrev pub size_at : List ℕ → ℕ → ℕ
size_at table i = get_or table (3 * i + 1) 0

-- its bytes in the sheet
abbrev pub text_at : List ℕ → List ℕ → ℕ → List ℕ
text_at s table i = take (size_at table i) (drop (offset_at table i) s)

-- its jump mark
abbrev pub mark_at : List ℕ → ℕ → ℕ
mark_at table i = get_or table (3 * i + 2) 0

-- "a disable whose path is one segment with jump mark 1": the names that are marked
abbrev pub marks_of : List ℕ → ℕ → Bool
marks_of table i = eqb (mark_at table i) 1

-- "23: .. a jump mark is above 1": of the first names of a table, so many, none has such a mark
unfoldable pub marks_fit : List ℕ → ℕ → Bool
marks_fit names zero = true
marks_fit names (suc n) = leb (mark_at names n) 1 && marks_fit names n
