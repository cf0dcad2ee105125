-- The checks of a row table: document 01, refusals 5 to 9 of a load, which are 23 of a table that is asked.
-- Each check gives the first refusal in row order, with its row. Definitions only.
use Rattle.std.specs.Prelude.{ℕ, zero, suc, ◌+◌, ◌*◌, Bool, cond, ◌&&◌, List, [], ◌∷◌, Result, Ok, Err, eqb, leb, ltb, length}
use Rattle.table.specs.Rows.{kind_at, side_at, end_at, Forest, tree}
use Rattle.table.specs.Fold.{Alg, fold}
use Rattle.kinds.specs.Kinds.{S, entry, is_kind, in_class, side_fits, fits}
use Rattle.refusals.specs.declared.Refusal.TheVariants.{WrongRecord, UnknownKind, WrongSide, WrongEnd, TooDeep, WrongChildren}
use Rattle.refusals.specs.declared.Refused.{Refused}
use Rattle.refusals.specs.Refusals.{refused_at}

-- what a check answers: it passed, or the first refusal, with its row
abbrev pub Checked : Type 0
Checked = Result (Unit {0}) Refused

abbrev pub passed : Checked
passed = Ok tt

-- "rows outside 1..2,000"; "fewer than 5 numbers a row"
unfoldable pub holds : List ℕ → ℕ → Bool
holds rows count = leb 1 count && (leb count 2000 && leb (5 * count) (length rows))

-- two checks, one after the other: the second is asked where the first passed
abbrev pub and_then : Checked → Checked → Checked
and_then (Ok u) next = next
and_then (Err e) next = Err e

-- "in row order": the first refusal of the n rows from row i on
unfoldable pub first_from : (ℕ → Checked) → ℕ → ℕ → Checked
first_from test zero i = passed
first_from test (suc n) i = and_then (test i) (first_from test n (i + 1))

-- what is found in a table that holds its rows; no other is read, and is 22: "counts outside the ranges of 3, .. or tables too short for it"
unfoldable pub when_held : List ℕ → ℕ → Checked → Checked
when_held rows count found = cond (holds rows count) found (refused_at WrongRecord 0)

-- "5: unknown kind", here a kind number above 65; "6: side number not allowed for the kind". lo and hi are free.
unfoldable pub fields_at : List ℕ → ℕ → ℕ → Checked
fields_at rows names i =
    cond (is_kind (kind_at rows i))
    (cond (side_fits (entry (kind_at rows i)).sides names (side_at rows i)) passed (refused_at WrongSide i))
    (refused_at UnknownKind i)

-- "then fields, ends and depth, children, each in row order": the fields
abbrev pub fields_of : List ℕ → ℕ → ℕ → Checked
fields_of rows count names = when_held rows count (first_from (fields_at rows names) count 0)

-- the ends of the rows before row i, the last row's first
unfoldable pub ends_before : List ℕ → ℕ → List ℕ
ends_before rows zero = []
ends_before rows (suc i) = end_at rows i ∷ ends_before rows i

-- those of a list of ends that are above i, in its order
unfoldable pub above : ℕ → List ℕ → List ℕ
above i [] = []
above i (e ∷ es) = cond (ltb i e) (e ∷ above i es) (above i es)

-- "the row it stands in: the last earlier row whose end is above this number". The ends above i of the rows before row i,
-- the last row's first: those of the rows that row i stands in. The first of them is the end of the row it stands in.
unfoldable pub enclosing : List ℕ → ℕ → List ℕ
enclosing rows i = above i (ends_before rows i)

-- "7: wrong end": "Row 0's end is rows. Any other end is above its own row number and at most the end of the row it stands in".
-- Row 0 is the row that nothing encloses; if its end is right, there is no other.
unfoldable pub end_fits : ℕ → ℕ → ℕ → List ℕ → Bool
end_fits count i end [] = eqb end count
end_fits count i end (e ∷ es) = ltb i end && leb end e

-- "A row may stand at most 100 deep, row 0 being depth 1"
unfoldable pub depth_at : List ℕ → ℕ → ℕ
depth_at rows i = 1 + length (enclosing rows i)

-- "7 and 8 in row order, 7 before 8"
unfoldable pub ends_at : List ℕ → ℕ → ℕ → Checked
ends_at rows count i =
    cond (end_fits count i (end_at rows i) (enclosing rows i))
    (cond (leb (depth_at rows i) 100) passed (refused_at TooDeep i))
    (refused_at WrongEnd i)

-- the ends and the depth
abbrev pub ends_of : List ℕ → ℕ → Checked
ends_of rows count = when_held rows count (first_from (ends_at rows count) count 0)

-- the kinds of these siblings
unfoldable pub kind_alone : Alg ℕ
kind_alone k s lo hi cs ks = k

abbrev pub kinds_of : Forest → List ℕ
kinds_of = fold kind_alone

-- whether the children of row i are those of its kind
abbrev pub children_fit : List ℕ → ℕ → Bool
children_fit rows i = fits (entry (kind_at rows i)).children (kinds_of (tree rows (i + 1) (end_at rows i)))

-- "9: children that don't fit the kind"; a kind that is not in the table has none that fit
unfoldable pub children_at : List ℕ → ℕ → Checked
children_at rows i = cond (is_kind (kind_at rows i) && children_fit rows i) passed (refused_at WrongChildren i)

-- "row 0 not a statement", which is 9 as well
unfoldable pub root_at : List ℕ → Checked
root_at rows = cond (in_class S (kind_at rows 0)) passed (refused_at WrongChildren 0)

-- the children, after the ends: "7 and 8 in row order, 7 before 8; then 9 in row order". Only rows whose ends nest have children, so the ends come first.
abbrev pub children_of : List ℕ → ℕ → Checked
children_of rows count = and_then (ends_of rows count) (and_then (root_at rows) (first_from (children_at rows) count 0))

-- "fields, ends and depth, children, each in row order": the whole check of a table
unfoldable pub checked_rows : List ℕ → ℕ → ℕ → Checked
checked_rows rows count names = and_then (fields_of rows count names) (children_of rows count)
