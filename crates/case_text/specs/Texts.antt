-- A case's text taken apart, and text and digests put together, byte by byte. Definitions only.
use Rattle.std.specs.Prelude.{ℕ, zero, suc, ◌+◌, ◌-◌, ◌*◌, ◌/◌, ◌%◌, cond, List, [], ◌∷◌, eqb, leb, ltb, take, drop, set}

-- the place of the first such byte, or the length where there is none
unfoldable pub first_place : ℕ → List ℕ → ℕ
first_place byte [] = zero
first_place byte (b ∷ t) = cond (eqb b byte) zero (suc (first_place byte t))

-- the number that digits spell after some whose number is v, or the largest of 64 bits where one more digit may not fit
unfoldable pub saturating_decimal : ℕ → List ℕ → ℕ
saturating_decimal v [] = v
saturating_decimal v (b ∷ t) = cond (ltb 1844674407370955160 v) 18446744073709551615 (saturating_decimal (v * 10 + b % 16) t)

-- the number that a text spells up to such a byte, and the text after it
abbrev pub number_before : ℕ → List ℕ → ℕ
number_before byte text = saturating_decimal 0 (take (first_place byte text) text)

abbrev pub text_after : ℕ → List ℕ → List ℕ
text_after byte text = drop (first_place byte text + 1) text

-- parts, the first of them with one more byte before it
unfoldable pub longer : ℕ → List (List ℕ) → List (List ℕ)
longer b [] = (b ∷ []) ∷ []
longer b (part ∷ rest) = (b ∷ part) ∷ rest

-- a text taken apart at each such byte, with no part after one at its end
unfoldable pub parts : ℕ → List ℕ → List (List ℕ)
parts byte [] = []
parts byte (b ∷ t) = cond (eqb b byte) ([] ∷ parts byte t) (longer b (parts byte t))

-- a table with the numbers that parts spell from a place on, those past its end dropped
unfoldable pub set_numbers : List ℕ → ℕ → List (List ℕ) → List ℕ
set_numbers table i [] = table
set_numbers table i (part ∷ rest) = set_numbers (set table i (saturating_decimal 0 part % 4294967296)) (i + 1) rest

-- the byte of a number's last decimal figure
abbrev pub figure_of : ℕ → ℕ
figure_of n = 48 + n % 10

-- the bytes of its last four, the highest first
abbrev pub four_figures : ℕ → List ℕ
four_figures n = figure_of (n / 1000) ∷ figure_of (n / 100) ∷ figure_of (n / 10) ∷ figure_of n ∷ []

-- the value of a hexadecimal digit, of a byte that is none some number below 16
unfoldable pub hex_digit : ℕ → ℕ
hex_digit b = cond (leb 97 b) ((b - 87) % 16) (b % 16)

-- the byte of two hexadecimal digits
abbrev pub hex_byte : ℕ → ℕ → ℕ
hex_byte high low = hex_digit high * 16 + hex_digit low

-- a digest with one more number, which counts as one more than it is
abbrev pub digest_step : ℕ → ℕ → ℕ
digest_step d x = (d * 31 + x + 1) % 4294967296

-- a digest with more numbers
unfoldable pub digest_of : ℕ → List ℕ → ℕ
digest_of d [] = d
digest_of d (x ∷ t) = digest_of (digest_step d x) t
