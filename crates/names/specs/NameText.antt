-- A name's text as a part of the sheet: document 01, "A third call returns a name's text", refusals 22 and 24. Definitions only.
use Rattle.std.specs.Prelude.{ℕ, ◌+◌, ◌*◌, ◌≤◌, ◌≡◌, cond, ◌&&◌, Result, Ok, Err, List, [], leb, ltb, length, take, drop}
use Rattle.sheet_record.specs.Records.{record_fits, offset_at, size_at}
use Rattle.sheet_record.specs.declared.Record.{Record}
use Rattle.refusals.specs.declared.Refusal.{Refusal}
use Rattle.refusals.specs.declared.Refusal.TheVariants.{WrongRecord, NoName}
use Rattle.refusals.specs.Refusals.{refusal_number}
use Rattle.names.specs.declared.Span.{Span}

-- the place of a name: 22, "or tables too short for it", which for a name is the name table; then 24, "number not below names,
-- or its place passes the end of the bytes lent"
unfoldable pub name_place : List ℕ → Record → List ℕ → ℕ → Result Span Refusal
name_place s r table i =
    cond (record_fits r && leb (3 * r.names) (length table))
    (cond (ltb i r.names && leb (offset_at table i + size_at table i) (length s))
    (Ok (record { offset = offset_at table i; size = size_at table i }))
    (Err NoName))
    (Err WrongRecord)

-- a part of the sheet; the empty part where it does not lie in it
unfoldable pub part_at : List ℕ → ℕ → ℕ → List ℕ
part_at s at size = cond (leb (at + size) (length s)) (take size (drop at s)) []

-- "as a part of the sheet bytes lent to it"; "A refused name is the empty part"
abbrev pub part_of : List ℕ → Result Span Refusal → List ℕ
part_of s (Ok span) = part_at s span.offset span.size
part_of s (Err refusal) = []

-- "A third call returns a name's text"
unfoldable pub text_of : List ℕ → Record → List ℕ → ℕ → List ℕ
text_of s r table i = part_of s (name_place s r table i)

-- what the place of a name is in numbers: 0 where there is one, and else the refusal's
abbrev pub refusal_in : Result Span Refusal → ℕ
refusal_in (Ok span) = 0
refusal_in (Err refusal) = refusal_number refusal

-- "22 (ask, name)", "24 (name)", and no other
pub data NameNumbers (number : ℕ) : Type 0 where
  found : number ≡ 0 → NameNumbers number
  wrong_record : number ≡ 22 → NameNumbers number
  no_name : number ≡ 24 → NameNumbers number

-- what the place of a name means to whoever has the sheet: it lies in the bytes lent
pub record NameMeans (s : List ℕ) (r : Result Span Refusal) : Type 0 where
  pub within : (span : Span) → r ≡ Ok span → span.offset + span.size ≤ length s
