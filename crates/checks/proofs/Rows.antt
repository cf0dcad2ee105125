-- A check that goes over the rows, one by one: what its loop keeps, and that it passes exactly where it passes at each row.
-- The number of rows that are left falls.
use Rattle.std.specs.Prelude.{Ok, Err}
use Prim.Native.Nat.{ℕ, zero, suc, ◌+◌, ◌-◌, ◌≤◌, ◌<◌}
use mathlib.Core.Path.{◌≡◌, refl, ◌∙◌}
use native.Mathlib.Omega.{arith}
use native.Mathlib.Numerals.{add-one}
use Rattle.refusals.specs.declared.Refusal.{Refusal}
use Rattle.checks.specs.Checks.{Checked}
use Rattle.refusals.specs.Refusals.{refused_at}
use Rattle.checks.specs.Checks.{passed}
use Rattle.checks.specs.Checks.{and_then, first_from}

-- a refusal does not pass
pub never : {A : Type 0} {refusal : Refusal} {row : ℕ} → refused_at refusal row ≡ passed → A
never e = absurd (let z : ◌≡◌ {A = ℕ} 0 1 = cc in omega arith)

-- a check of the rows from `from` on has come to row i: the rows that are left give what all of them give
pub record Checking (test : ℕ → Checked) (count from i : ℕ) : Type 0 where
  pub same : first_from test (count - from) from ≡ first_from test (count - i) i

pub checking_start : (test : ℕ → Checked) (count from : ℕ) → Checking test count from from
checking_start test count from = record { same = refl }

module _ {test : ℕ → Checked} {count from i : ℕ} (w : Checking test count from i) where
  pub checking_done : count ≤ i → first_from test (count - from) from ≡ passed
  unfolding first_from
  checking_done h = let z : count - i ≡ 0 = omega arith in w.same ∙ rw z

  module _ (h : i < count) where
    pub checking_step : first_from test (count - from) from ≡ and_then (test i) (first_from test (count - (i + 1)) (i + 1))
    unfolding first_from
    checking_step = let z : count - i ≡ suc (count - (i + 1)) = omega arith in w.same ∙ rw z

    pub checking_stop : (refusal : Refusal) (row : ℕ) → test i ≡ refused_at refusal row → first_from test (count - from) from ≡ refused_at refusal row
    checking_stop refusal row e = checking_step ∙ rw e

    pub checking_next : test i ≡ passed → Checking test count from (i + 1)
    checking_next e = record { same = checking_step ∙ rw e }

pub from_zero : (test : ℕ → Checked) (count : ℕ) → first_from test count 0 ≡ first_from test (count - 0) 0
from_zero test count = let z : count - 0 ≡ count = omega arith in rw z

-- the rows before row n pass
pub checking_upto : (test : ℕ → Checked) (count n : ℕ) → n ≤ count → ((i : ℕ) → i < n → test i ≡ passed) → Checking test count 0 n
checking_upto test count zero h t = checking_start test count 0
checking_upto test count (suc n) h t = rw add-one at (checking_next (checking_upto test count n (omega arith) (λ i l. t i (omega arith))) h (t n (omega arith)))

-- two checks that passed, one after the other
pub both_pass : (a b : Checked) → and_then a b ≡ passed → (a ≡ passed) × (b ≡ passed)
both_pass (Ok u) b e = (refl, e)
both_pass (Err r) b e = never e

all_from : (test : ℕ → Checked) (n i : ℕ) → first_from test n i ≡ passed → (k : ℕ) → i ≤ k → k < i + n → test k ≡ passed
unfolding first_from
all_from test zero i e k a b = absurd (omega arith)
all_from test (suc n) i e k a b =
    let p = both_pass (test i) (first_from test n (i + 1)) e in
    go (k - i) refl p.0 (λ l. all_from test n (i + 1) p.1 k l (omega arith))
  where
    go : (d : ℕ) → k - i ≡ d → test i ≡ passed → (i + 1 ≤ k → test k ≡ passed) → test k ≡ passed
    go zero q t more = let s : k ≡ i = omega arith in rw s t
    go (suc d) q t more = more (omega arith)

-- a check that passed passes at each row
pub all_pass : (test : ℕ → Checked) (count : ℕ) → first_from test count 0 ≡ passed → (i : ℕ) → i < count → test i ≡ passed
all_pass test count e i h = all_from test count 0 e i (omega arith) (omega arith)

pass_from : (test : ℕ → Checked) (n i : ℕ) → ((k : ℕ) → i ≤ k → k < i + n → test k ≡ passed) → first_from test n i ≡ passed
unfolding first_from
pass_from test zero i t = refl
pass_from test (suc n) i t = rw (t i (omega arith) (omega arith)) (pass_from test n (i + 1) (λ k a b. t k (omega arith) (omega arith)))

-- and one that passes at each row passes
pub pass_all : (test : ℕ → Checked) (count : ℕ) → ((i : ℕ) → i < count → test i ≡ passed) → first_from test count 0 ≡ passed
pass_all test count t = pass_from test count 0 (λ k a b. t k (omega arith))
