-- The ends of the open rows, which the code keeps in an array from its front, as a list with the innermost row's first: what is kept when a row is opened,
-- and when rows are closed.
use Prim.Native.Nat.{ℕ, zero, suc, ◌+◌, ◌-◌, ◌≤◌, ◌<◌}
use mathlib.Core.Path.{◌≡◌, refl, sym, ap}
use mathlib.Core.List.{List, [], ◌∷◌}
use native.Mathlib.Omega.{arith}
use native.Mathlib.Numerals.{add-one}
use lib.ListN.{length, get_or, set}
use lib.Seq.{get_or-set_same, get_or-set_other}
use borrow.Author.Tests.{le-ltb}
use Rattle.checks.specs.Checks.{above}
use Rattle.checks.specs.Steps.{Closes, stays, closes}
use Rattle.checks.proofs.Enclosing.{Rises, at_least_trans, all_above}

-- the first n numbers of a list, the last one first
unfoldable pub last_first : List ℕ → ℕ → List ℕ
last_first xs zero = []
last_first xs (suc n) = get_or xs n 0 ∷ last_first xs n

pub top : (xs : List ℕ) (d : ℕ) → 0 < d → last_first xs d ≡ get_or xs (d - 1) 0 ∷ last_first xs (d - 1)
unfolding last_first
top xs zero h = absurd (omega arith)
top xs (suc d) h = let e : suc d - 1 ≡ d = omega arith in rw e

untouched : (xs : List ℕ) (i v d : ℕ) → d ≤ i → last_first (set xs i v) d ≡ last_first xs d
unfolding last_first
untouched xs i v zero h = refl
untouched xs i v (suc d) h = rw (untouched xs i v d (omega arith), get_or-set_other xs i d v 0 (λ q. omega arith))

pub pushed : (xs : List ℕ) (d v : ℕ) → d < length xs → last_first (set xs d v) (d + 1) ≡ v ∷ last_first xs d
unfolding last_first
pushed xs d v h = rw (add-one, untouched xs d v d (omega arith), get_or-set_same xs d v 0 h)

pub last_length : (xs : List ℕ) (d : ℕ) → length (last_first xs d) ≡ d
unfolding last_first
last_length xs zero = refl
last_length xs (suc d) = ap suc (last_length xs d)

-- rows are closed
pub close_down : (ends left own : List ℕ) (row depth first d f : ℕ) → Closes ends left own row depth first d f → d ≤ depth
close_down ends left own row depth first d f (stays a) = omega arith
close_down ends left own row (suc depth) first d f (closes {found = g} a s c) = omega (arith, close_down ends left own row depth g d f c)

pub close_above : (ends left own : List ℕ) (row depth first d f : ℕ) → Rises (last_first ends depth) → Closes ends left own row depth first d f → last_first ends d ≡ above row (last_first ends depth)
unfolding above last_first
close_above ends left own row zero first d f r (stays a) = refl
close_above ends left own row (suc n) first d f r (stays a) =
    let z : suc n - 1 ≡ n = omega arith in
    let l : row < get_or ends n 0 = rw z at (a (omega arith)) in
    sym (all_above row (last_first ends (suc n)) (l, at_least_trans (suc row) (get_or ends n 0) l (last_first ends n) r.0))
close_above ends left own row (suc n) first d f r (closes {found = g} a s c) = rw (le-ltb row (get_or ends n 0) a) (close_above ends left own row n g d f r.1 c)
