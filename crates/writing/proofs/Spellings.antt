-- The text of a number, digit by digit from its last: it has at most 20 digits, and is what std calls the decimal text. What is left of the number
-- falls to a tenth.
use Prim.Native.Nat.{ℕ, zero, suc, ◌+◌, ◌/◌, ◌%◌, ◌^◌, ◌≤◌, ◌<◌}
use mathlib.Core.Path.{◌≡◌, sym, ◌∙◌}
use mathlib.Core.Bool.{Bool, true, false, cond}
use mathlib.Core.List.{List, [], ◌∷◌, ◌++◌}
use native.Mathlib.Nat.{div-lt_iff_lt-mul, pow-suc}
use native.Mathlib.Omega.{arith}
use lib.Dec.{ltb}
use lib.ListN.{length, length-append}
use borrow.Author.Tests.{lt-ltb, le-ltb}
use Rattle.writing.specs.Putting.{PutAt}
use Rattle.writing.specs.Spelling.{digit_of, spelled_by, spelled}
use Rattle.std.specs.Fmt.{decimal}
use Rattle.std.proofs.lemmas.Fmt.{decimal_from_appends, length-decimal-le}

-- at most 20 digits
by_few : (k n : ℕ) → length (spelled_by k n) ≤ k
unfolding spelled_by
by_few zero n = omega arith
by_few (suc k) n = go (ltb n 10) (by_few k (n / 10))
  where
    go : (b : Bool) → length (spelled_by k (n / 10)) ≤ k → length (cond b (digit_of n ∷ []) (spelled_by k (n / 10) ++ digit_of n ∷ [])) ≤ suc k
    go true h = omega arith
    go false h = simp length-append (omega arith)

pub spelled_few : (n : ℕ) → length (spelled n) ≤ 20
unfolding spelled
spelled_few n = by_few 20 n

-- the text of one digit, and of more
pub by_last : (k n : ℕ) → n ≤ 9 → spelled_by (suc k) n ≡ digit_of n ∷ []
unfolding spelled_by
by_last k n h = let l : n < 10 = omega arith in rw (lt-ltb n 10 l)

pub by_more : (k n : ℕ) → 9 < n → spelled_by (suc k) n ≡ spelled_by k (n / 10) ++ digit_of n ∷ []
unfolding spelled_by
by_more k n h = let l : 10 ≤ n = omega arith in rw (le-ltb n 10 l)

-- a number with at most k + 1 digits has a tenth with at most k
pub tenth : (k n : ℕ) → n < 10 ^ suc k → n / 10 < 10 ^ k
tenth k n h = (div-lt_iff_lt-mul {k = 10} {x = n} {y = 10 ^ k} (omega arith)).1 (rw pow-suc at h)

-- it is what std calls the decimal text
by_last_plain : (k n : ℕ) → n < 10 → spelled_by (suc k) n ≡ (48 + n) ∷ []
by_last_plain k n l = let e : n % 10 ≡ n = omega arith in by_last k n (omega arith) ∙ rw e

spelled_decimal : (n : ℕ) → n < 18446744073709551616 → decimal n ≡ spelled n
unfolding spelled
spelled_decimal n h = sym (decimal_from_appends spelled_by (record { one = by_last_plain; more = λ k n l. by_more k n (omega arith) }) 20 n (omega arith) (length-decimal-le 20 n (omega arith) (omega arith) (omega arith)))

-- so a text that std spells so is the text of the number: where it fits, and where it is put
module _ (n m : ℕ) (h : n < 18446744073709551616) (same : m ≡ n) (text bytes : List ℕ) (e : text ≡ bytes) (f : bytes ≡ decimal m) where
  pub number_fits : (at room : ℕ) → at + length (spelled n) ≤ room → at + length text ≤ room
  number_fits at room l = rw (e, f, same, spelled_decimal n h) l

  pub number_put : (at next : ℕ) (out after : List ℕ) → PutAt out at text after next → PutAt out at (spelled n) after next
  number_put at next out after w = rw (← spelled_decimal n h, ← same, ← f, ← e) w
