-- The keys by which the code finds a word, and how it reads them. Nothing here is document 01's: that a key finds the kind of a word is
-- proved in proofs/Words.
use Rattle.std.specs.Prelude.{ℕ, zero, suc, ◌+◌, ◌-◌, ◌*◌, ◌≡◌, Bool, true, cond, ◌&&◌, Option, List, [], ◌∷◌, take, drop, leb}
use Rattle.kinds.specs.Words.{kind_of}

-- five bits a letter, the first letter lowest
unfoldable pub key : List ℕ → ℕ
key [] = 0
key (b ∷ w) = (b - 96) + 32 * key w

unfoldable pub is_letter : ℕ → Bool
is_letter b = leb 97 b && leb b 122

unfoldable pub letters : List ℕ → Bool
letters [] = true
letters (b ∷ w) = is_letter b && letters w

-- how many of the first n bytes are small letters, before the first other one
unfoldable pub letters_up_to : ℕ → List ℕ → ℕ
letters_up_to zero t = zero
letters_up_to (suc n) [] = zero
letters_up_to (suc n) (b ∷ t) = cond (is_letter b) (suc (letters_up_to n t)) zero

-- these letters
abbrev pub letters_of : ℕ → List ℕ → List ℕ
letters_of n t = take (letters_up_to n t) t

-- what `find_kind_at` tells of the letters from a place on
pub record KindTold (s : List ℕ) (at : ℕ) (kind : Option ℕ) (stop : ℕ) : Type 0 where
  pub word : kind ≡ kind_of (letters_of 12 (drop at s))
  pub past : stop ≡ at + letters_up_to 12 (drop at s)
