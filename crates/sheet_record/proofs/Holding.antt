-- What marks_fit answers. The marks are told from the front and defined from the back, so what is told of the names from one on, and what is defined
-- of those before it, is joined by induction on their count.
use Prim.Native.Nat.{ℕ, zero, suc, ◌+◌}
use mathlib.Core.Path.{◌≡◌, refl, ◌∙◌}
use mathlib.Core.Bool.{Bool, true, false, ◌&&◌, and-true}
use mathlib.Core.List.{List}
use native.Mathlib.Omega.{arith}
use native.Mathlib.Numerals.{add-one}
use lib.Dec.{leb}
use Rattle.std.specs.List.{list_all, range_with_len}
use Rattle.sheet_record.specs.Records.{mark_at, marks_fit}

-- the test of one name's mark
abbrev pub mark_right : List ℕ → ℕ → Bool
mark_right names i = leb (mark_at names i) 1

moved : (a b c : Bool) → (a && b) && c ≡ b && (a && c)
moved true b c = refl
moved false true c = refl
moved false false c = refl

marks_from : (names : List ℕ) (n a : ℕ) → list_all (mark_right names) (range_with_len a n) && marks_fit names a ≡ marks_fit names (a + n)
unfolding marks_fit
marks_from names zero a = let z : a + 0 ≡ a = omega arith in rw z
marks_from names (suc n) a =
    let z : a + suc n ≡ a + 1 + n = omega arith in
    moved (mark_right names a) (list_all (mark_right names) (range_with_len (a + 1) n)) (marks_fit names a)
    ∙ rw (z, add-one a) (rw (add-one a) at (marks_from names n (a + 1)))

pub marks_all : (names : List ℕ) (count : ℕ) → list_all (mark_right names) (range_with_len 0 count) ≡ marks_fit names count
unfolding marks_fit
marks_all names count =
    let z : 0 + count ≡ count = omega arith in
    rw (and-true (list_all (mark_right names) (range_with_len 0 count)), z) at (marks_from names count 0)
