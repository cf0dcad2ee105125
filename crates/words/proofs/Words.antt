-- The word lookup: a kind's key is no other word's, so the key of some small letters finds their kind, if they have one. That the 66 words differ, and
-- that each has its key, is computed once; the rest is by induction on the list of kinds.
use Prim.Native.Nat.{ℕ, zero, suc, ◌+◌, ◌-◌, ◌^◌, ◌≤◌, ◌<◌}
use mathlib.Core.Path.{◌≡◌, refl, sym, ap, ◌∙◌}
use mathlib.Core.Bool.{Bool, true, false, ◌&&◌}
use mathlib.Core.List.{List, [], ◌∷◌}
use native.Mathlib.Nat.{zero-add}
use native.Mathlib.Omega.{arith}
use lib.ListN.{length, get_or, take, drop, length-drop}
use lib.Seq.{take-length}
use lib.Dec.{eqb, leb, ltb}
use borrow.Author.Tests.{eqb-true, leb-true, ltb-true}
use Rattle.std.specs.Prelude.{Option, Some, None, min}
use Rattle.std.proofs.lemmas.List.{drop_min}
use mir.Val.{Fits}
use mir.Syntax.{w64}
use Rattle.kinds.specs.Kinds.{Entry, kinds, no_entry, entry}
use Rattle.kinds.specs.Words.{same, place_from, kind_of}
use Rattle.words.specs.Steps.{key, letters, is_letter, letters_up_to, letters_of, KindTold}
use Rattle.kinds.proofs.Below.{true_not_false, both_true, every_below, below}
use Rattle.words.proofs.Keys.{one_word, letters_read, whole_word, few}
use Rattle.kinds.proofs.Numbers.{kinds_count}

abbrev word_of : ℕ → List ℕ
word_of k = (entry k).word

-- the computed test of the whole table: each word is found, and is spelt in few small letters

is_at : ℕ → Option ℕ → Bool
is_at k (Some j) = eqb j k
is_at k None = false

at_is : (k : ℕ) (f : Option ℕ) → is_at k f ≡ true → f ≡ Some k
unfolding is_at
at_is k (Some j) e = ap Some (eqb-true j k e)
at_is k None e = true_not_false (cc)

good : ℕ → Bool
good k = is_at k (kind_of (word_of k)) && (leb (length (word_of k)) 12 && letters (word_of k))

all_good : every_below good 66 ≡ true
unfolding every_below good is_at kind_of place_from entry kinds same letters is_letter
all_good = refl

record Good (k : ℕ) : Type 0 where
  found : kind_of (word_of k) ≡ Some k
  short : length (word_of k) ≤ 12
  spelt : letters (word_of k) ≡ true

good_at : (k : ℕ) → k < 66 → Good k
unfolding good
good_at k h =
    let a = both_true (is_at k (kind_of (word_of k))) _ (below good 66 all_good k h) in
    let b = both_true (leb (length (word_of k)) 12) (letters (word_of k)) a.1 in
    record { found = at_is k (kind_of (word_of k)) a.0; short = leb-true (length (word_of k)) 12 b.0; spelt = b.1 }

-- letters with the key of a kind's word are that word
find_known : (s : List ℕ) (k : ℕ) → k < 66 → letters s ≡ true → key (word_of k) ≡ key s → Some k ≡ kind_of s
find_known s k h p e = rw (one_word s (word_of k) p (good_at k h).spelt (sym e)) (sym (good_at k h).found)

same_is : (a b : List ℕ) → same a b ≡ true → a ≡ b
unfolding same
same_is [] [] t = refl
same_is [] (y ∷ ys) t = true_not_false (cc)
same_is (x ∷ xs) [] t = true_not_false (cc)
same_is (x ∷ xs) (y ∷ ys) t =
    let b = both_true (eqb x y) (same xs ys) t in
    let e = eqb-true x y b.0 in
    let r = same_is xs ys b.1 in
    cc

-- what is found stands in the table
record Hit (w : List ℕ) (es : List Entry) (n j : ℕ) : Type 0 where
  i : ℕ
  within : i < length es
  at : j ≡ n + i
  word : w ≡ (get_or es i no_entry).word

hit : (n : ℕ) (w : List ℕ) (es : List Entry) (j : ℕ) → place_from n w es ≡ Some j → Hit w es n j
unfolding place_from
hit n w [] j e = absurd (let z : ◌≡◌ {A = ℕ} 0 1 = cc in omega arith)
hit n w (x ∷ es) j e = go (same w x.word) refl (λ q. hit (suc n) w es j q)
  where
    go : (b : Bool) → same w x.word ≡ b → (place_from (suc n) w es ≡ Some j → Hit w es (suc n) j) → Hit w (x ∷ es) n j
    go true q more = let f : Some n ≡ Some j = rw q at e in let m : n ≡ j = cc in record { i = 0; within = omega arith; at = omega arith; word = same_is w x.word q }
    go false q more = let h = more (rw q at e) in record { i = suc h.i; within = omega (arith, h.within); at = omega (arith, h.at); word = h.word }

-- a kind that is found is a number of the table, and the byte string is its word; and each kind's word is found
module _ (s : List ℕ) (r : Option ℕ) (k : ℕ) (q : r ≡ kind_of s) (e : r ≡ Some k) where
  found : Hit s kinds 0 k
  unfolding kind_of
  found = hit 0 s kinds k (sym q ∙ e)

  pub found_below : k < 66
  found_below = omega (arith, found.within, found.at, kinds_count)

  pub found_word : s ≡ (entry k).word
  unfolding entry
  found_word = let z : k ≡ found.i = omega (arith, found.at) in rw z found.word

pub word_found : (k : ℕ) → k < 66 → kind_of (entry k).word ≡ Some k
word_found k h = (good_at k h).found

-- a byte string that is no kind's word has no kind
find_unknown : (s : List ℕ) → ((k : ℕ) → k < 66 → s ≡ word_of k → ⊥) → None ≡ kind_of s
unfolding kind_of entry
find_unknown s differs = go (kind_of s) refl
  where
    go : (f : Option ℕ) → kind_of s ≡ f → None ≡ f
    go None q = refl
    go (Some j) q =
        let h = hit 0 s kinds j q in
        absurd (differs h.i (omega (arith, h.within, kinds_count)) h.word)

-- the letters that are read at its front are all of a kind's word
pub not_whole : (s : List ℕ) → (letters_up_to 12 s ≡ length s → ⊥) → None ≡ kind_of s
not_whole s n = find_unknown s (λ k h e. n (whole_word 12 s (rw e (good_at k h).spelt) (rw e (good_at k h).short)))

-- an arm of the match: the key is that of the kind k
pub arm : (k v : ℕ) → ltb k 66 ≡ true → v ≡ key (entry k).word → (w : List ℕ) → letters w ≡ true → v ≡ key w → Some k ≡ kind_of w
arm k v h q w p e = find_known w k (ltb-true k 66 h) p (sym q ∙ e)

-- what the last arm knows: the key differs from that of each entry, beside what was known before
unfoldable pub Differs : ℕ → Type 0 → List Entry → Type 0
Differs v known [] = known
Differs v known (x ∷ es) = Differs v (known × (v ≡ key x.word → ⊥)) es

differs_known : (v : ℕ) (known : Type 0) (es : List Entry) → Differs v known es → known
unfolding Differs
differs_known v known [] d = d
differs_known v known (x ∷ es) d = (differs_known v (known × (v ≡ key x.word → ⊥)) es d).0

differs_at : (v : ℕ) (known : Type 0) (es : List Entry) → Differs v known es → (k : ℕ) → k < length es → v ≡ key (get_or es k no_entry).word → ⊥
unfolding Differs
differs_at v known [] d k h = absurd (omega arith)
differs_at v known (x ∷ es) d zero h = (differs_known v (known × (v ≡ key x.word → ⊥)) es d).1
differs_at v known (x ∷ es) d (suc k) h = differs_at v (known × (v ≡ key x.word → ⊥)) es d k (omega arith)

pub no_arm_lem : (v : ℕ) → Differs v (Unit {0}) kinds → (w : List ℕ) → letters w ≡ true → v ≡ key w → None ≡ kind_of w
unfolding entry
no_arm_lem v d w p e = find_unknown w (λ k h q. differs_at v (Unit {0}) kinds d k (omega (arith, kinds_count)) (e ∙ ap key q))

-- `find_kind_at`, once the key of the letters from the place on has found a kind
module _ (s : List ℕ) (at n : ℕ) (e : n ≡ min at (length s)) (t : List ℕ) (f : t ≡ take (length s - n) (drop n s)) (count : ℕ) (q : count ≡ letters_up_to 12 t) where
  from : t ≡ drop at s
  from = f ∙ rw (← length-drop n s, take-length, e) (drop_min at s)

  pub stop_fits : at < 2 ^ 64 → length s < 2 ^ 64 → Fits w64 (at + count)
  stop_fits h l = let g : length t ≡ length s - at = rw from (length-drop at s) in record { fits = omega (arith, q, few 12 t) }

  pub told_at : (value : ℕ) → value ≡ key (letters_of 12 t) → (r : Option ℕ) → ((w : List ℕ) → letters w ≡ true → value ≡ key w → r ≡ kind_of w) → KindTold s at r (at + count)
  told_at value p r g =
      record { word = g (letters_of 12 (drop at s)) (letters_read 12 (drop at s)) (p ∙ rw from); past = ap (λ (m : ℕ). at + m) (q ∙ rw from) }

-- `find_kind`, by the letters at the front of a word
module _ (s : List ℕ) (r : Option ℕ) (stop : ℕ) (t : KindTold s 0 r stop) where
  pub word_part : (stop ≡ length s → ⊥) → None ≡ kind_of s
  word_part n = not_whole s (λ e. n (t.past ∙ zero-add _ ∙ e))

  pub word_whole : stop ≡ length s → r ≡ kind_of s
  word_whole e =
      let z : letters_up_to 12 s ≡ length s = sym (zero-add _) ∙ sym t.past ∙ e in
      t.word ∙ rw (z, take-length)
