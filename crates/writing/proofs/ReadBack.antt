-- The text of a number, read as document 01 reads numbers, spells that number: each property of the text is kept by one more digit at its end. The
-- induction is on the digits.
use Prim.Native.Nat.{ℕ, zero, suc, ◌+◌, ◌-◌, ◌*◌, ◌/◌, ◌%◌, ◌^◌, ◌≤◌, ◌<◌}
use mathlib.Core.Path.{◌≡◌, refl, ◌∙◌}
use mathlib.Core.Bool.{Bool, true, false, ◌&&◌}
use mathlib.Core.List.{List, [], ◌∷◌, ◌++◌}
use native.Mathlib.Omega.{arith}
use lib.Dec.{leb}
use borrow.Author.Tests.{leb-true, leb-false, le-leb, ne_eqb}
use Rattle.std.specs.Prelude.{Some}
use Rattle.text.specs.Numbers.{is_digit, all_digits, is_empty, zero_first, decimal, bounded, number_of}
use Rattle.writing.specs.Spelling.{digit_of, spelled_by, spelled}
use Rattle.writing.proofs.Spellings.{by_last, by_more, tenth}

-- what holds of one digit, and of a text with its next digit if it holds of the text, holds of the text of every number
spelling : (P : ℕ → List ℕ → Type 0)
    → ((n : ℕ) → n ≤ 9 → P n (digit_of n ∷ []))
    → ((n : ℕ) (t : List ℕ) → 9 < n → P (n / 10) t → P n (t ++ digit_of n ∷ []))
    → (k n : ℕ) → n < 10 ^ suc k → P n (spelled_by (suc k) n)
spelling P one more zero n h = let l : n ≤ 9 = omega arith in rw (by_last 0 n l) (one n l)
spelling P one more (suc k) n h = go (leb n 9) refl (spelling P one more k (n / 10) (tenth (suc k) n h))
  where
    go : (b : Bool) → leb n 9 ≡ b → P (n / 10) (spelled_by (suc k) (n / 10)) → P n (spelled_by (suc (suc k)) n)
    go true e w = let l = leb-true n 9 e in rw (by_last (suc k) n l) (one n l)
    go false e w = let l = leb-false n 9 e in rw (by_more (suc k) n l) (more n (spelled_by (suc k) (n / 10)) l w)

-- a text whose first byte is no zero
data Leads : List ℕ → Type 0 where
  leads : {b : ℕ} {t : List ℕ} → (b ≡ 48 → ⊥) → Leads (b ∷ t)

leads_more : {t : List ℕ} (s : List ℕ) → Leads t → Leads (t ++ s)
leads_more s (leads n) = leads n

leads_some : {t : List ℕ} → Leads t → is_empty t ≡ false
unfolding is_empty
leads_some (leads n) = refl

leads_plain : {t : List ℕ} → Leads t → zero_first t ≡ false
unfolding zero_first
leads_plain (leads {b = b} {t = []} n) = refl
leads_plain (leads {b = b} {t = c ∷ t} n) = ne_eqb b 48 n

digit_told : (n : ℕ) → is_digit (digit_of n) ≡ true
unfolding is_digit
digit_told n = rw (le-leb 48 (48 + n % 10) (omega arith), le-leb (48 + n % 10) 57 (omega arith))

-- one digit more
digits_last : (t : List ℕ) (b : ℕ) → is_digit b ≡ true → all_digits t ≡ true → all_digits (t ++ b ∷ []) ≡ true
unfolding all_digits
digits_last [] b e h = rw e
digits_last (x ∷ t) b e h = go (is_digit x) h (digits_last t b e)
  where
    go : (d : Bool) → d && all_digits t ≡ true → (all_digits t ≡ true → all_digits (t ++ b ∷ []) ≡ true) → d && all_digits (t ++ b ∷ []) ≡ true
    go true h ih = ih h
    go false h ih = h

decimal_last : (v : ℕ) (t : List ℕ) (b : ℕ) → decimal v (t ++ b ∷ []) ≡ decimal v t * 10 + (b - 48)
unfolding decimal
decimal_last v [] b = refl
decimal_last v (x ∷ t) b = decimal_last (v * 10 + (x - 48)) t b

-- not "empty", no "leading zero and more digits", no "non-digit", and the number; the next digit needs a first byte that is no zero
record Spells (n : ℕ) (t : List ℕ) : Type 0 where
  some : is_empty t ≡ false
  plain : zero_first t ≡ false
  digits : all_digits t ≡ true
  value : decimal 0 t ≡ n
  first : 1 ≤ n → Leads t

spells_one : (n : ℕ) → n ≤ 9 → Spells n (digit_of n ∷ [])
unfolding is_empty zero_first all_digits decimal
spells_one n h =
    record {
      some = refl;
      plain = refl;
      digits = rw (digit_told n);
      value = omega arith;
      first = λ l. leads (λ (z : 48 + n % 10 ≡ 48). omega arith);
    }

spells_more : (n : ℕ) (t : List ℕ) → 9 < n → Spells (n / 10) t → Spells n (t ++ digit_of n ∷ [])
spells_more n t h w =
    let l : Leads (t ++ digit_of n ∷ []) = leads_more (digit_of n ∷ []) (w.first (omega arith)) in
    record {
      some = leads_some l;
      plain = leads_plain l;
      digits = digits_last t (digit_of n) (digit_told n) w.digits;
      value = decimal_last 0 t (digit_of n) ∙ rw w.value (omega arith);
      first = λ s. l;
    }

spells : (n : ℕ) → n < 10 ^ 20 → Spells n (spelled n)
unfolding spelled
spells n h = spelling Spells spells_one spells_more 19 n h

-- the digits of every number of 64 bits have its value, so no two have one text
pub spelled_value : (n : ℕ) → n < 18446744073709551616 → decimal 0 (spelled n) ≡ n
spelled_value n h = (spells n (omega arith)).value

-- each number up to the largest that document 01 reads is read back
pub spelled_number : (n : ℕ) → n ≤ 4294967295 → number_of (spelled n) ≡ Some n
unfolding number_of bounded
spelled_number n h = let w = spells n (omega arith) in rw (w.some, w.plain, w.digits, w.value, le-leb n 4294967295 h)
