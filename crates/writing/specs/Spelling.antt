-- The decimal text of a number: document 01, "The sheet", "all numbers decimal". No zero leads it, as refusal 2 asks of a number.
-- Definitions only.
use Rattle.std.specs.Prelude.{ℕ, zero, suc, ◌+◌, ◌/◌, ◌%◌, cond, List, [], ◌∷◌, ◌++◌, ltb}

-- the byte of a number's last digit
abbrev pub digit_of : ℕ → ℕ
digit_of n = 48 + n % 10

-- the text of a number that has at most k digits: of one below ten its digit, of another the text of its tenth and its last digit
unfoldable pub spelled_by : ℕ → ℕ → List ℕ
spelled_by zero n = []
spelled_by (suc k) n = cond (ltb n 10) (digit_of n ∷ []) (spelled_by k (n / 10) ++ digit_of n ∷ [])

-- 20 digits are enough for every number of 64 bits, since these are below 10 ^ 20
unfoldable pub spelled : ℕ → List ℕ
spelled n = spelled_by 20 n

-- a key with its value and the byte that ends them, as `lo=4;` in document 01's listing
unfoldable pub field_text : List ℕ → List ℕ → ℕ → List ℕ
field_text key value end = key ++ (value ++ end ∷ [])
