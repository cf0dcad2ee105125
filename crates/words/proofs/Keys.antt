-- Keys: a key stands for one word, and is worked out letter by letter. A letter is a digit in base 32, so equal keys have equal letters, by induction
-- on the word; in the loop the bytes left fall.
use Prim.Native.Nat.{ℕ, zero, suc, ◌+◌, ◌-◌, ◌*◌, ◌≤◌, ◌<◌}
use mathlib.Core.Path.{◌≡◌, refl, sym, ap, ◌∙◌}
use mathlib.Core.Bool.{Bool, true, false, cond}
use mathlib.Core.List.{List, [], ◌∷◌}
use native.Mathlib.Nat.{add-zero, add-suc, add_assoc, mul-zero, mul_comm, mul_assoc, mul-add, mul-le-mul_right}
use native.Mathlib.Numerals.{add-one}
use native.Mathlib.Omega.{arith}
use lib.ListN.{length, length-take, get_or, take, drop, drop_of_length-le}
use lib.Seq.{drop-cons}
use lib.Dec.{leb}
use borrow.Author.Tests.{leb-true}
use mir.Val.{Fits}
use mir.Syntax.{w64}
use Rattle.std.specs.Prelude.{min}
use Rattle.std.proofs.lemmas.List.{take_min}
use Rattle.std.specs.Char.{is_ascii_lowercase}
use Rattle.words.specs.Steps.{key, letters, is_letter, letters_up_to, letters_of}
use Rattle.kinds.proofs.Below.{both_true}

record Letter (b : ℕ) : Type 0 where
  low : 97 ≤ b
  high : b ≤ 122

letter : (b : ℕ) → is_letter b ≡ true → Letter b
unfolding is_letter
letter b e = let t = both_true (leb 97 b) (leb b 122) e in record { low = leb-true 97 b t.0; high = leb-true b 122 t.1 }

-- two words of letters with one key are one word
pub one_word : (v w : List ℕ) → letters v ≡ true → letters w ≡ true → key v ≡ key w → v ≡ w
unfolding letters key
one_word [] [] p q e = refl
one_word [] (b ∷ w) p q e = let l = letter b (both_true (is_letter b) (letters w) q).0 in absurd (omega arith)
one_word (a ∷ v) [] p q e = let l = letter a (both_true (is_letter a) (letters v) p).0 in absurd (omega arith)
one_word (a ∷ v) (b ∷ w) p q e =
    let s = both_true (is_letter a) (letters v) p in
    let t = both_true (is_letter b) (letters w) q in
    let l = letter a s.0 in
    let m = letter b t.0 in
    let x : a ≡ b = omega arith in
    let y : v ≡ w = one_word v w s.1 t.1 (omega arith) in
    cc

-- the letters that are read
module _ (n b : ℕ) (t : List ℕ) where
  one_more : is_letter b ≡ true → letters_up_to (suc n) (b ∷ t) ≡ suc (letters_up_to n t)
  unfolding letters_up_to
  one_more e = rw e

  no_more : is_letter b ≡ false → letters_up_to (suc n) (b ∷ t) ≡ 0
  unfolding letters_up_to
  no_more e = rw e

none_left : (n : ℕ) → letters_up_to n [] ≡ 0
unfolding letters_up_to
none_left zero = refl
none_left (suc n) = refl

pub letters_read : (n : ℕ) (t : List ℕ) → letters (letters_of n t) ≡ true
unfolding letters_up_to letters
letters_read zero t = refl
letters_read (suc n) [] = refl
letters_read (suc n) (b ∷ t) = go (is_letter b) refl (letters_read n t)
  where
    go : (l : Bool) → is_letter b ≡ l → letters (letters_of n t) ≡ true → letters (letters_of (suc n) (b ∷ t)) ≡ true
    go true e ih = rw (e, e) ih
    go false e ih = rw e

-- a word of at most n letters is read whole
pub whole_word : (n : ℕ) (w : List ℕ) → letters w ≡ true → length w ≤ n → letters_up_to n w ≡ length w
unfolding letters
whole_word n [] p h = none_left n
whole_word zero (b ∷ w) p h = absurd (omega arith)
whole_word (suc n) (b ∷ w) p h =
    let s = both_true (is_letter b) (letters w) p in
    one_more n b w s.0 ∙ ap suc (whole_word n w s.1 (omega arith))

-- twelve bytes at the front have the letters that are read
front_count : (n : ℕ) (t : List ℕ) → letters_up_to n (take n t) ≡ letters_up_to n t
unfolding letters_up_to
front_count zero t = refl
front_count (suc n) [] = refl
front_count (suc n) (b ∷ t) = rw (front_count n t)

front_letters : (n : ℕ) (t : List ℕ) → letters_of n (take n t) ≡ letters_of n t
unfolding letters_up_to
front_letters zero t = refl
front_letters (suc n) [] = refl
front_letters (suc n) (b ∷ t) = go (is_letter b) (front_letters n t)
  where
    go : (l : Bool) → letters_of n (take n t) ≡ letters_of n t → take (cond l (suc (letters_up_to n (take n t))) 0) (b ∷ take n t) ≡ take (cond l (suc (letters_up_to n t)) 0) (b ∷ t)
    go true ih = ap (λ (u : List ℕ). b ∷ u) ih
    go false ih = refl

pub few : (n : ℕ) (t : List ℕ) → letters_up_to n t ≤ length t
unfolding letters_up_to
few zero t = omega arith
few (suc n) [] = omega arith
few (suc n) (b ∷ t) = go (is_letter b) (few n t)
  where
    go : (l : Bool) → letters_up_to n t ≤ length t → cond l (suc (letters_up_to n t)) 0 ≤ suc (length t)
    go true h = omega arith
    go false h = omega arith

-- what a letter after n others counts for in a key
unfoldable pub bound : ℕ → ℕ
bound zero = 1
bound (suc n) = 32 * bound n

grows : (n d : ℕ) → bound n ≤ bound (n + d)
unfolding bound
grows n zero = rw add-zero (omega arith)
grows n (suc d) = let h = grows n d in rw add-suc (omega arith)

few_bound : (n : ℕ) → n ≤ 11 → bound n ≤ 36028797018963968
unfolding bound
few_bound n h =
    let e : n + (11 - n) ≡ 11 = omega arith in
    rw e at (grows n (11 - n))

step : (v c d k : ℕ) → v + c * (d + 32 * k) ≡ v + d * c + c * 32 * k
step v c d k = rw (mul-add c d (32 * k), mul_comm c d, ← mul_assoc c 32 k) (sym (add_assoc v (d * c) (c * 32 * k)))

-- what the reading of letters knows after i of them: the key of the letters passed, and what a letter there adds to it
pub record Spelling (t : List ℕ) (i value scale : ℕ) : Type 0 where
  pub scaled : scale ≡ bound i
  pub small : value < scale
  pub is : key (letters_of 12 t) ≡ value + scale * key (letters_of (12 - i) (drop i t))
  pub count : letters_up_to 12 t ≡ i + letters_up_to (12 - i) (drop i t)

pub spell_start : (t : List ℕ) → Spelling t 0 0 1
unfolding bound
spell_start t = record { scaled = refl; small = omega arith; is = omega arith; count = omega arith }

-- what it tells of the whole once it ends, and of the list whose first twelve bytes they are
pub record Spelled (t : List ℕ) (i value : ℕ) : Type 0 where
  pub value_is : value ≡ key (letters_of 12 t)
  pub count_is : i ≡ letters_up_to 12 t

pub front_few : (n : ℕ) (t : List ℕ) → n ≡ min (length t) 12 → length (take n t) ≤ 12
front_few n t e = omega (arith, length-take n t)

pub of_front : (t u : List ℕ) (i value : ℕ) → u ≡ take (min (length t) 12) t → Spelled u i value → Spelled t i value
of_front t u i value e w =
    let m : min (length t) 12 ≡ min 12 (length t) = omega arith in
    let f : u ≡ take 12 t = e ∙ rw m (take_min 12 t) in
    record { value_is = w.value_is ∙ rw f (ap key (front_letters 12 t)); count_is = w.count_is ∙ rw f (front_count 12 t) }

module _ (t : List ℕ) (i value scale : ℕ) (w : Spelling t i value scale) where
  -- no letter is read from here on
  ended : letters_up_to (12 - i) (drop i t) ≡ 0 → Spelled t i value
  unfolding key
  ended z = record { value_is = sym (w.is ∙ rw (z, mul-zero, add-zero)); count_is = sym (w.count ∙ rw (z, add-zero)) }

  pub spell_end : length t ≤ i → Spelled t i value
  spell_end h = ended (rw (drop_of_length-le t h) (none_left (12 - i)))

  module _ (h : i < length t) (m : length t ≤ 12) (d : Bool) (q : d ≡ is_ascii_lowercase (get_or t i 0)) where
    rest : ℕ
    rest = 12 - (i + 1)

    left : 12 - i ≡ suc rest
    unfolding rest
    left = omega arith

    b : ℕ
    b = get_or t i 0

    here : drop i t ≡ b ∷ drop (i + 1) t
    unfolding b
    here = drop-cons t i 0 h ∙ rw add-one

    pub spell_stop : d ≡ false → Spelled t i value
    unfolding is_letter b
    spell_stop e = ended (rw (left, here) (no_more rest b (drop (i + 1) t) (sym q ∙ e)))

    module _ (e : d ≡ true) where
      is_letter_lem : is_letter b ≡ true
      unfolding is_letter b
      is_letter_lem = sym q ∙ e

      room : scale ≤ 36028797018963968
      room = rw w.scaled (few_bound i (omega arith))

      product : (b - 96) * scale ≤ 26 * scale
      product = mul-le-mul_right scale (omega (arith, (letter b is_letter_lem).high))

      pub spell_product : Fits w64 ((get_or t i 0 - 96) * scale)
      unfolding b
      spell_product = record { fits = omega (arith, product, room) }

      pub spell_sum : Fits w64 (value + (get_or t i 0 - 96) * scale)
      unfolding b
      spell_sum = record { fits = omega (arith, product, room, w.small) }

      pub spell_scale : Fits w64 (scale * 32)
      spell_scale = record { fits = omega (arith, room) }

      pub spell_on : (n : ℕ) → n ≡ get_or t i 0 - 96 → Spelling t (i + 1) (value + n * scale) (scale * 32)
      unfolding bound rest key b
      spell_on n p =
          let z : i + 1 ≡ suc i = omega arith in
          rw p
          (record {
            scaled = rw z (omega (arith, w.scaled));
            small = omega (arith, product, w.small);
            is = w.is ∙ rw (left, here, one_more rest b (drop (i + 1) t) is_letter_lem) (step value scale (b - 96) _);
            count = w.count ∙ rw (left, here, one_more rest b (drop (i + 1) t) is_letter_lem) (omega arith);
          })
