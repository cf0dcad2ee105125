-- Whether a key, a number and the byte that ends them fit, one after the other: sums of their lengths, of which that of a number is at most 20.
use Prim.Native.Nat.{ℕ, ◌+◌, ◌≤◌}
use mathlib.Core.Path.{◌≡◌}
use mathlib.Core.List.{List, [], ◌∷◌}
use native.Mathlib.Omega.{arith}
use lib.ListN.{length, length-append}
use Rattle.writing.specs.Spelling.{spelled, field_text}
use Rattle.writing.specs.Putting.{PutAt}
use Rattle.writing.proofs.Puts.{put_then}
use Rattle.writing.proofs.Spellings.{spelled_few}

pub field_length_lem : (key : List ℕ) (n end : ℕ) → length (field_text key (spelled n) end) ≡ length key + length (spelled n) + 1
unfolding field_text
field_length_lem key n end = simp length-append (omega arith)

-- room for every number
pub field_fits : (at : ℕ) (key : List ℕ) (n end room : ℕ) → at + length key + 21 ≤ room → at + length (field_text key (spelled n) end) ≤ room
field_fits at key n end room h = omega (arith, field_length_lem key n end, spelled_few n)

-- after the byte that ends them
pub field_put : (out o p q : List ℕ) (at r s u : ℕ) (key : List ℕ) (n last end : ℕ) → last ≡ end → PutAt p s (last ∷ []) q u → PutAt o r (spelled n) p s → PutAt out at key o r → PutAt out at (field_text key (spelled n) end) q u
unfolding field_text
field_put out o p q at r s u key n last end e x v w = put_then out o q at r u key _ w (put_then o p q r s u (spelled n) (end ∷ []) v (rw (← e) x))

pub field_short : (out o p q : List ℕ) (at r s u : ℕ) (key : List ℕ) (n end : ℕ) → PutAt p s (end ∷ []) q u → PutAt o r (spelled n) p s → PutAt out at key o r → u ≤ at + length key + 21
field_short out o p q at r s u key n end x v w = omega (arith, x.place, v.place, w.place, spelled_few n)
