-- The refusals and their numbers: document 01, "What the caller gets", the table "From the input" and "From the state". Definitions only.
use Rattle.std.specs.Prelude.{ℕ, Result, Err}
use Rattle.refusals.specs.declared.Refusal.{Refusal}
use Rattle.refusals.specs.declared.Refused.{Refused}
use Rattle.refusals.specs.declared.Refusal.TheVariants.{WrongLine, WrongNumber, OutOfRange, WrongName, UnknownKind, WrongSide, WrongEnd}
use Rattle.refusals.specs.declared.Refusal.TheVariants.{TooDeep, WrongChildren, TooLong, NoRoom, WrongRecord, WrongTable, NoName}

-- "No." and "when"
abbrev pub refusal_number : Refusal → ℕ
-- "missing or extra line, wrong key, a last line without byte 10, a row without exactly five fields split by single spaces"
refusal_number WrongLine = 1
-- "a number that is empty, has a non-digit, has a leading zero and more digits, or is above 4,294,967,295"
refusal_number WrongNumber = 2
-- "sheet not 1, names outside 1..500, local not below names, start or sole above 1, rows outside 1..2,000"
refusal_number OutOfRange = 3
-- "a name outside 1..64 bytes, with a byte outside 33..126, or not above the one before it in byte order"
refusal_number WrongName = 4
-- "unknown kind word"
refusal_number UnknownKind = 5
-- "side number not allowed for the kind"
refusal_number WrongSide = 6
-- "wrong end"
refusal_number WrongEnd = 7
-- "a row deeper than 100"
refusal_number TooDeep = 8
-- "children that don't fit the kind; row 0 not a statement"
refusal_number WrongChildren = 9
-- "sheet over 65,536 bytes"
refusal_number TooLong = 10
-- "the row table has fewer than 5 numbers a row, or the name table fewer than 3 a name"
refusal_number NoRoom = 21
-- "the record has counts outside the ranges of 3, a local not below names, a start or sole above 1, or tables too short for it"
refusal_number WrongRecord = 22
-- "a row number in the table breaks 5 to 9, a segment names no listed name, or (place 0) a jump mark is above 1"
refusal_number WrongTable = 23
-- "number not below names, or its place passes the end of the bytes lent"
refusal_number NoName = 24

-- "No." and "place": an answer that is a refusal, with the line or row that is told with it
abbrev pub refused_at : {A : Type 0} → Refusal → ℕ → Result A Refused
refused_at refusal place = Err (record { refusal = refusal; place = place })
