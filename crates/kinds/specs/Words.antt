-- From a kind's word to its number: document 01, refusal 5, "unknown kind word".
use Rattle.std.specs.Prelude.{ℕ, suc, Bool, true, false, cond, ◌&&◌, Option, Some, None, List, [], ◌∷◌, eqb}
use Rattle.kinds.specs.Kinds.{Entry, kinds}

-- two byte strings are the same
unfoldable pub same : List ℕ → List ℕ → Bool
same [] [] = true
same [] (y ∷ ys) = false
same (x ∷ xs) [] = false
same (x ∷ xs) (y ∷ ys) = eqb x y && same xs ys

-- the place of the first entry that has the word, counted from n
unfoldable pub place_from : ℕ → List ℕ → List Entry → Option ℕ
place_from n w [] = None
place_from n w (e ∷ es) = cond (same w e.word) (Some n) (place_from (suc n) w es)

-- the kind whose word a byte string is, if it is one
unfoldable pub kind_of : List ℕ → Option ℕ
kind_of w = place_from 0 w kinds
