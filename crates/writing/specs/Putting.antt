-- Numbers or bytes put into a slice: what stands in it then, and the place after them. Definitions only.
use Rattle.std.specs.Prelude.{ℕ, ◌+◌, ◌≡◌, List, length}
use Rattle.std.proofs.lemmas.List.Edits.{sets}

-- a slice once others are put into it one by one from a place on, as far as it has room
abbrev pub put : List ℕ → ℕ → List ℕ → List ℕ
put out at others = sets out at others

-- what each call that puts a text tells: the place after the text, and the slice's bytes
pub record PutAt (out : List ℕ) (at : ℕ) (text after : List ℕ) (next : ℕ) : Type 0 where
  pub place : next ≡ at + length text
  pub bytes : after ≡ put out at text
