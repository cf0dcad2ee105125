-- A rule of the whole table, from a test that is computed once over it: true of all numbers below one, it is true of each. The induction is on
-- that number.
use Prim.Native.Nat.{ℕ, zero, suc, ◌<◌}
use mathlib.Core.Path.{◌≡◌, refl}
use mathlib.Core.Bool.{Bool, true, false, ◌&&◌, ◌||◌, true≢false, and-eq-true_iff}
use mathlib.Core.Logic.{⊎_elim}
use native.Mathlib.Nat.{not-suc-le-zero, le_of_suc-le-suc, eq-or-lt_of_le}

pub true_not_false : {A : Type 0} → true ≡ false → A
true_not_false e = absurd (true≢false e)

pub both_true : (a b : Bool) → a && b ≡ true → (a ≡ true) × (b ≡ true)
both_true a b = (and-eq-true_iff a b).0

pub neither : (a b : Bool) → a || b ≡ false → (a ≡ false) × (b ≡ false)
neither true b e = true_not_false e
neither false b e = (refl, e)

-- a test passes at each number below n
unfoldable pub every_below : (ℕ → Bool) → ℕ → Bool
every_below f zero = true
every_below f (suc n) = f n && every_below f n

pub below : (f : ℕ → Bool) (n : ℕ) → every_below f n ≡ true → (k : ℕ) → k < n → f k ≡ true
unfolding every_below
below f zero t k h = absurd (not-suc-le-zero h)
below f (suc n) t k h =
    let b = both_true (f n) (every_below f n) t in
    ⊎_elim (λ e. rw e b.0) (λ l. below f n b.1 k l) (eq-or-lt_of_le (le_of_suc-le-suc h))
