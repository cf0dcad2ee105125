-- The lines of a sheet: document 01, "The sheet", and refusals 1 to 6. Each line is read from the place where it starts, and
-- the tests stand in the order of the refusals, so that the lowest number on a line comes first. Definitions only.
use Rattle.std.specs.Prelude.{ℕ, ◌+◌, Bool, cond, ◌&&◌, ◌||◌, Option, Some, None, Result, Ok, Err, List, leb, length, drop}
use Rattle.kinds.specs.Kinds.{bytes, entry, side_fits}
use Rattle.kinds.specs.Words.{kind_of}
use Rattle.text.specs.Fields.{field, ends_by, after, starts_with, below, all_graphic}
use Rattle.text.specs.Numbers.{number_of}
use Rattle.refusals.specs.declared.Refusal.{Refusal}
use Rattle.refusals.specs.declared.Refusal.TheVariants.{WrongLine, WrongNumber, OutOfRange, WrongName, UnknownKind, WrongSide}
use Rattle.lines.specs.declared.Line.{Line}
use Rattle.lines.specs.declared.Name.{Name}
use Rattle.lines.specs.declared.Row.{Row}

-- "Lines end in byte 10": the text at a place up to the end of its line, and where the next line starts
abbrev pub line_text : List ℕ → ℕ → List ℕ
line_text = field 10

abbrev pub next_line : List ℕ → ℕ → ℕ
next_line = after 10

-- "1: wrong key, a last line without byte 10": whether a line starts with this key, and is ended
unfoldable pub keyed : List ℕ → List ℕ → ℕ → Bool
keyed key s at = starts_with key (drop at s) && ends_by 10 10 s (at + length key)

-- "3: .. outside ..": a number from low to high
abbrev pub in_range : ℕ → ℕ → ℕ → Option ℕ → Result (Line ℕ) Refusal
in_range low high next None = Err WrongNumber
in_range low high next (Some v) = cond (leb low v && leb v high) (Ok (record { value = v; next = next })) (Err OutOfRange)

-- a line `key` with a number: 1, then 2, then 3
unfoldable pub number_line : List ℕ → ℕ → ℕ → List ℕ → ℕ → Result (Line ℕ) Refusal
number_line key low high s at =
    cond (keyed key s at)
    (in_range low high (next_line s (at + length key)) (number_of (line_text s (at + length key))))
    (Err WrongLine)

-- "A name's three numbers are byte offset, length and jump mark: 1 if it begins `$break$` or `$continue$`"
unfoldable pub jump_mark : List ℕ → ℕ
jump_mark name = cond (starts_with (bytes "$break$") name || starts_with (bytes "$continue$") name) 1 0

-- "4: a name outside 1..64 bytes, .. or not above the one before it in byte order". Before the first name stands the empty
-- text, which every other is above.
unfoldable pub name_of : List ℕ → List ℕ → ℕ → ℕ → Result (Line Name) Refusal
name_of before name offset next =
    cond (leb 1 (length name) && (leb (length name) 64 && below before name))
    (Ok (record { value = record { offset = offset; length = length name; mark = jump_mark name }; next = next }))
    (Err WrongName)

-- a line `name=` with a name: 1, then 4, also for "a byte outside 33..126"
unfoldable pub name_line : List ℕ → List ℕ → ℕ → Result (Line Name) Refusal
name_line before s at =
    cond (keyed (bytes "name=") s at)
    (cond (all_graphic (line_text s (at + 5))) (name_of before (line_text s (at + 5)) (at + 5) (next_line s (at + 5))) (Err WrongName))
    (Err WrongLine)

-- "a row without exactly five fields split by single spaces" is 1: four fields that a space ends and one that byte 10 ends.
-- The places are where the fields start.
unfoldable pub five_fields : List ℕ → ℕ → ℕ → ℕ → ℕ → ℕ → Bool
five_fields s a b c d e =
    ends_by 32 32 s a && (ends_by 32 32 s b && (ends_by 32 32 s c && (ends_by 32 32 s d && ends_by 32 10 s e)))

-- what follows where a field spells a number: else 2
abbrev pub with_number : Option ℕ → (ℕ → Result (Line Row) Refusal) → Result (Line Row) Refusal
with_number None more = Err WrongNumber
with_number (Some v) more = more v

-- what follows where a word is a kind's: else 5
abbrev pub with_kind : Option ℕ → (ℕ → Result (Line Row) Refusal) → Result (Line Row) Refusal
with_kind None more = Err UnknownKind
with_kind (Some k) more = more k

-- "row=kind side lo hi end", read from its fields: 2 for any of its four numbers, then 5
unfoldable pub row_of : Option ℕ → Option ℕ → Option ℕ → Option ℕ → Option ℕ → ℕ → Result (Line Row) Refusal
row_of side lo hi end word next =
    with_number side
    (λ side. with_number lo
    (λ lo. with_number hi
    (λ hi. with_number end
    (λ end. with_kind word
    (λ kind. Ok (record { value = record { kind = kind; side = side; lo = lo; hi = hi; end = end }; next = next }))))))

unfoldable pub row_from : List ℕ → ℕ → ℕ → ℕ → ℕ → ℕ → Result (Line Row) Refusal
row_from s a b c d e =
    cond (five_fields s a b c d e)
    (row_of (number_of (field 32 s b)) (number_of (field 32 s c)) (number_of (field 32 s d)) (number_of (field 32 s e)) (kind_of (field 32 s a)) (after 32 s e))
    (Err WrongLine)

-- the row from where its word starts: 1, 2, 5
unfoldable pub row_fields : List ℕ → ℕ → Result (Line Row) Refusal
row_fields s a =
    row_from s a (after 32 s a)
    (after 32 s (after 32 s a))
    (after 32 s (after 32 s (after 32 s a)))
    (after 32 s (after 32 s (after 32 s (after 32 s a))))

-- a line `row=` with its fields
unfoldable pub row_line : List ℕ → ℕ → Result (Line Row) Refusal
row_line s at = cond (starts_with (bytes "row=") (drop at s)) (row_fields s (at + 4)) (Err WrongLine)

-- "6: side number not allowed for the kind", the last refusal of a row's line
abbrev pub sided : ℕ → Result (Line Row) Refusal → Result (Line Row) Refusal
sided names (Err refusal) = Err refusal
sided names (Ok line) = cond (side_fits (entry line.value.kind).sides names line.value.side) (Ok line) (Err WrongSide)

-- a row's line with so many names
unfoldable pub row_at : ℕ → List ℕ → ℕ → Result (Line Row) Refusal
row_at names s at = sided names (row_line s at)
