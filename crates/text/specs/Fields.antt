-- Bytes of a sheet from a place on: document 01, "The sheet". Definitions only.
use Rattle.std.specs.Prelude.{ℕ, zero, suc, ◌+◌, Bool, true, false, cond, ◌&&◌, ◌||◌, List, [], ◌∷◌, eqb, leb, ltb, length, take, drop, get_or}

-- the byte at a place, 0 past the end
abbrev pub byte_at : List ℕ → ℕ → ℕ
byte_at s at = get_or s at 0

-- "Lines end in byte 10": a field is ended by a byte `sep`, and by the end of its line
unfoldable pub is_stop : ℕ → ℕ → Bool
is_stop sep b = eqb b sep || eqb b 10

-- how many bytes a field has that starts with the first of these
unfoldable pub field_length : ℕ → List ℕ → ℕ
field_length sep [] = zero
field_length sep (b ∷ t) = cond (is_stop sep b) zero (suc (field_length sep t))

-- its bytes
unfoldable pub field_of : ℕ → List ℕ → List ℕ
field_of sep t = take (field_length sep t) t

-- the field that starts at a place, and the place of the byte that ends it
abbrev pub field : ℕ → List ℕ → ℕ → List ℕ
field sep s at = field_of sep (drop at s)

unfoldable pub stop_at : ℕ → List ℕ → ℕ → ℕ
stop_at sep s at = at + field_length sep (drop at s)

-- whether this byte stands at a place
unfoldable pub stands : ℕ → List ℕ → ℕ → Bool
stands byte s at = ltb at (length s) && eqb (byte_at s at) byte

-- whether the field at a place is ended by this byte
unfoldable pub ends_by : ℕ → ℕ → List ℕ → ℕ → Bool
ends_by sep end s at = stands end s (stop_at sep s at)

-- where what follows the field starts
unfoldable pub after : ℕ → List ℕ → ℕ → ℕ
after sep s at = stop_at sep s at + 1

-- whether the second list of bytes begins with the first
unfoldable pub starts_with : List ℕ → List ℕ → Bool
starts_with [] t = true
starts_with (x ∷ xs) [] = false
starts_with (x ∷ xs) (y ∷ ys) = eqb x y && starts_with xs ys

-- "in byte order": whether the first text comes before the second
unfoldable pub below : List ℕ → List ℕ → Bool
below [] [] = false
below [] (y ∷ ys) = true
below (x ∷ xs) [] = false
below (x ∷ xs) (y ∷ ys) = cond (eqb x y) (below xs ys) (ltb x y)

-- "4: .. a byte outside 33..126": whether a name may hold this byte, and whether all of a text may stand in one
unfoldable pub is_graphic : ℕ → Bool
is_graphic b = leb 33 b && leb b 126

unfoldable pub all_graphic : List ℕ → Bool
all_graphic [] = true
all_graphic (b ∷ t) = is_graphic b && all_graphic t
