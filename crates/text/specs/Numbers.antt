-- The number that a text spells: document 01, refusal 2, "a number that is empty, has a non-digit, has a leading zero and more
-- digits, or is above 4,294,967,295". Definitions only.
use Rattle.std.specs.Prelude.{ℕ, ◌+◌, ◌-◌, ◌*◌, Bool, true, false, cond, not, ◌&&◌, Option, Some, None, List, [], ◌∷◌, eqb, leb}

unfoldable pub is_digit : ℕ → Bool
is_digit b = leb 48 b && leb b 57

unfoldable pub all_digits : List ℕ → Bool
all_digits [] = true
all_digits (b ∷ t) = is_digit b && all_digits t

-- "empty"
unfoldable pub is_empty : List ℕ → Bool
is_empty [] = true
is_empty (b ∷ t) = false

-- "a leading zero and more digits"
unfoldable pub zero_first : List ℕ → Bool
zero_first [] = false
zero_first (b ∷ []) = false
zero_first (b ∷ c ∷ t) = eqb b 48

-- the number that digits spell after some whose number is v
unfoldable pub decimal : ℕ → List ℕ → ℕ
decimal v [] = v
decimal v (b ∷ t) = decimal (v * 10 + (b - 48)) t

-- "above 4,294,967,295", the largest number of 32 bits, is none
unfoldable pub bounded : ℕ → Option ℕ
bounded v = cond (leb v 4294967295) (Some v) None

-- what a text spells: a number, or none
unfoldable pub number_of : List ℕ → Option ℕ
number_of t = cond (not (is_empty t) && (not (zero_first t) && all_digits t)) (bounded (decimal 0 t)) None
