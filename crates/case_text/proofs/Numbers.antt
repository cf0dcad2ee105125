-- The numbers that the code makes of bytes and numbers, one after another: what a loop knows at a place, and the step to the next.
-- Nothing recurses.
use Prim.Native.Nat.{ℕ, suc, ◌+◌, ◌*◌, ◌%◌, ◌≤◌, ◌<◌}
use mathlib.Core.Path.{◌≡◌, refl, sym, ap, ◌∙◌}
use mathlib.Core.List.{List}
use native.Mathlib.Numerals.{add-one}
use native.Mathlib.Omega.{arith}
use lib.ListN.{length, get_or, drop, drop_of_length-le}
use lib.Seq.{drop-cons}
use borrow.Author.Tests.{lt-ltb, le-ltb}
use Rattle.case_text.specs.Texts.{saturating_decimal, digest_step, digest_of}

-- what the reading of a number knows at place i, with the number v
pub record Reading (text : List ℕ) (i v : ℕ) : Type 0 where
  pub bound : v ≤ 18446744073709551615
  pub same : saturating_decimal 0 text ≡ saturating_decimal v (drop i text)

pub read_start : (text : List ℕ) → Reading text 0 0
read_start text = record { bound = omega arith; same = refl }

module _ (text : List ℕ) (i v : ℕ) (w : Reading text i v) where
  pub read_end : length text ≤ i → v ≡ saturating_decimal 0 text
  unfolding saturating_decimal
  read_end h = sym (w.same ∙ rw (drop_of_length-le text h))

  module _ (h : i < length text) where
    pub read_much : 1844674407370955160 < v → 18446744073709551615 ≡ saturating_decimal 0 text
    unfolding saturating_decimal
    read_much l = sym (w.same ∙ rw (drop-cons text i 0 h, lt-ltb 1844674407370955160 v l))

    pub read_on : v ≤ 1844674407370955160 → (d : ℕ) → d ≤ 15 → d ≡ get_or text i 0 % 16 → Reading text (i + 1) (v * 10 + d)
    unfolding saturating_decimal
    read_on l d m e = record {
      bound = omega arith;
      same = w.same ∙ rw (drop-cons text i 0 h, le-ltb 1844674407370955160 v l, ← e, add-one);
    }

-- what the digest of some numbers knows at number i, with the digest d
pub record Digesting (numbers : List ℕ) (i d : ℕ) : Type 0 where
  pub few : i ≤ length numbers
  pub bound : d < 4294967296
  pub same : digest_of 0 numbers ≡ digest_of d (drop i numbers)

pub digest_start : (numbers : List ℕ) → Digesting numbers 0 0
digest_start numbers = record { few = omega arith; bound = omega arith; same = refl }

module _ (numbers : List ℕ) (i d : ℕ) (w : Digesting numbers i d) where
  pub digest_end : length numbers ≤ i → d ≡ digest_of 0 numbers
  unfolding digest_of
  digest_end h = sym (w.same ∙ rw (drop_of_length-le numbers h))

  pub digest_on : i < length numbers → (r : ℕ) → r < 4294967296 → r ≡ digest_step d (get_or numbers i 0) → Digesting numbers (i + 1) r
  unfolding digest_of
  digest_on h r m e = record {
    few = omega arith;
    bound = m;
    same = w.same ∙ rw (drop-cons numbers i 0 h, add-one) (ap (λ (s : ℕ). digest_of s (drop (suc i) numbers)) (sym e));
  }

pub ruleset answers = (read_start, read_end, read_much, read_on, digest_start, digest_end, digest_on)
