-- Tables for 2,000 rows and 500 names are too short for no sheet: 21 says that one of them has fewer numbers than that.
use Prim.Native.Nat.{ℕ, ◌≤◌}
use native.Mathlib.Omega.{arith}
use Rattle.load.proofs.Refusals.{TooShort, few_rows, few_names, no_room_short}
use Rattle.capi.specs.Numbers.{most_row_numbers, most_name_numbers, RoomFor}

long_enough : (rows_lent names_lent : ℕ) → most_row_numbers ≤ rows_lent → most_name_numbers ≤ names_lent → TooShort rows_lent names_lent → ⊥
long_enough rows_lent names_lent h k (few_rows l) = omega (arith, h, l)
long_enough rows_lent names_lent h k (few_names l) = omega (arith, k, l)

pub room_for_all : RoomFor most_row_numbers most_name_numbers
room_for_all s rows_lent names_lent h k e = long_enough rows_lent names_lent h k (no_room_short s rows_lent names_lent e)
