-- After a good load the call of a name gives back the text of its line: the tests of the call pass by what loading tells of its tables.
use Prim.Native.Nat.{ℕ, ◌+◌, ◌*◌, ◌≤◌, ◌<◌}
use mathlib.Core.Path.{◌≡◌, ◌∙◌}
use mathlib.Core.List.{List}
use lib.ListN.{length, take, drop}
use borrow.Author.Tests.{le-leb, lt-ltb}
use Rattle.text.specs.Fields.{field}
use Rattle.sheet_record.specs.declared.Record.{Record}
use Rattle.sheet_record.specs.Records.{offset_at, size_at, text_at}
use Rattle.sheet.proofs.ReadLaws.{NameEntry}
use Rattle.std.specs.Prelude.{Ok}
use Rattle.sheet.specs.Load.{load_of}
use Rattle.sheet.specs.Meaning.{Asked}
use Rattle.load.proofs.GoodLoad.{load_asked, load_entry}
use Rattle.names.specs.NameText.{name_place, part_at, text_of}

part_within : (s : List ℕ) (at size : ℕ) → at + size ≤ length s → part_at s at size ≡ take size (drop at s)
unfolding part_at
part_within s at size h = rw (le-leb (at + size) (length s) h)

-- a name whose entry lies in the bytes is found
found : (s : List ℕ) (r : Record) (rows table : List ℕ) (i : ℕ) → i < r.names → Asked r rows table → NameEntry s table i → text_of s r table i ≡ text_at s table i
unfolding text_of name_place
found s r rows table i h a e =
    rw
    (a.fits, le-leb (3 * r.names) (length table) a.names_held, lt-ltb i r.names h, le-leb (offset_at table i + size_at table i) (length s) e.within)
    (part_within s (offset_at table i) (size_at table i) e.within)

pub load_name : (s : List ℕ) (row_room name_room : ℕ) (r : Record)
    → (load_of s row_room name_room).answer ≡ Ok r
    → (i : ℕ)
    → i < r.names
    → text_of s r (load_of s row_room name_room).names i ≡ field 10 s (offset_at (load_of s row_room name_room).names i)
load_name s row_room name_room r e i h =
    let entry = load_entry s row_room name_room r e i h in
    found s r (load_of s row_room name_room).rows (load_of s row_room name_room).names i h (load_asked s row_room name_room r e) entry ∙ entry.line
