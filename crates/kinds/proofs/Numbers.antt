-- The numbers of the table say what its entries say: side numbers, classes, items. What is said of a class is a test computed over the table; what is
-- said of items is how their number divides.
use Prim.Native.Nat.{ℕ, zero, suc, ◌+◌, ◌*◌, ◌/◌, ◌%◌, ◌≤◌, ◌<◌}
use mathlib.Core.Path.{◌≡◌, refl, sym, ◌∙◌}
use mathlib.Core.Bool.{or-true, or-false, and-true, Bool, true, false, ◌&&◌, beq, and-false}
use mathlib.Core.List.{List, [], ◌∷◌, map}
use native.Mathlib.Nat.{pos_of_ne-zero}
use native.Mathlib.Omega.{arith}
use lib.ListN.{length, get_or, length-map, get_or-map}
use lib.Dec.{eqb, leb, ltb, leb-suc-suc}
use borrow.Author.Tests.{ltb-true, ltb-false, lt-ltb, le-ltb, le-leb, lt-leb, leb-true, eqb-true, eqb-false, eq-eqb, ne_eqb}
use Rattle.kinds.specs.declared.SideNumbers.{SideNumbers}
use Rattle.kinds.specs.declared.Kind.{Kind}
use Rattle.kinds.specs.Kinds.{Class, absent, path, seg, delay, intra, star_or_list, event, arm, decl, S, E, L, Sides, zero_only, up_to, name_number, Item, kinds, no_entry, entry, class_number, of_class, is_kind, in_class, side_fits, takes}
use Rattle.kinds.specs.Steps.{sides_number, side_below, count_before, amount, first_of, past_of, bit, item_number, items_number, of_first, takes_first, repeats_first, rest_first, numbers}
use Rattle.kinds.proofs.Below.{true_not_false, both_true, every_below, below}

pub kinds_count : length kinds ≡ 66
unfolding kinds
kinds_count = refl

-- the numbers below 1: 0
below_one : (n : ℕ) → ltb n 1 ≡ eqb n 0
below_one n = go (eqb n 0) refl
  where
    go : (b : Bool) → eqb n 0 ≡ b → ltb n 1 ≡ b
    go true e = rw (eqb-true n 0 e)
    go false e = le-ltb n 1 (pos_of_ne-zero (eqb-false n 0 e))

-- the side numbers that the code holds are the kind's
side_number : (s : Sides) (names side : ℕ) → side_below (sides_number s) names side ≡ side_fits s names side
unfolding side_below sides_number side_fits
side_number zero_only names side = below_one side
side_number (up_to n) names side = leb-suc-suc side n
side_number name_number names side = refl

-- The computed test of a class: the kinds from its first up to the number past its last are those of the class and no other,
-- and two hex digits hold each of the two numbers, with room for a mark.
in_range : Class → ℕ → Bool
in_range c k = leb (first_of c) k && ltb k (past_of c)

agrees : Class → ℕ → Bool
agrees c k = beq (in_range c k) (in_class c k)

right : Class → Bool
right c = every_below (agrees c) 66 && (ltb (first_of c) 128 && (leb (past_of c) 66 && ltb 0 (past_of c)))

all_right : (c : Class) → right c ≡ true
unfolding right every_below agrees in_range first_of past_of count_before amount of_class in_class is_kind class_number entry kinds
all_right absent = refl
all_right path = refl
all_right seg = refl
all_right delay = refl
all_right intra = refl
all_right star_or_list = refl
all_right event = refl
all_right arm = refl
all_right decl = refl
all_right S = refl
all_right E = refl
all_right L = refl

record Right (c : Class) : Type 0 where
  tied : every_below (agrees c) 66 ≡ true
  low : first_of c < 128
  high : past_of c ≤ 66
  some : 0 < past_of c

class_right : (c : Class) → Right c
unfolding right
class_right c =
    let p = both_true (every_below (agrees c) 66) _ (all_right c) in
    let q = both_true (ltb (first_of c) 128) _ p.1 in
    let r = both_true (leb (past_of c) 66) _ q.1 in
    record { tied = p.0; low = ltb-true (first_of c) 128 q.0; high = leb-true (past_of c) 66 r.0; some = ltb-true 0 (past_of c) r.1 }

same_bool : (a b : Bool) → beq a b ≡ true → a ≡ b
same_bool true true e = refl
same_bool true false e = true_not_false (cc)
same_bool false true e = true_not_false (cc)
same_bool false false e = refl

pub in_range_lem : (c : Class) (k : ℕ) → leb (first_of c) k && ltb k (past_of c) ≡ in_class c k
unfolding in_range agrees in_class is_kind
in_range_lem c k = go (ltb k 66) refl
  where
    go : (b : Bool) → ltb k 66 ≡ b → in_range c k ≡ in_class c k
    go true e = same_bool _ _ (below (agrees c) 66 (class_right c).tied k (ltb-true k 66 e))
    go false e =
        rw (e, le-ltb k (past_of c) (omega (arith, ltb-false k 66 e, (class_right c).high)))
        (and-false (leb (first_of c) k))

-- the kinds 11 to 39 are statements
module _ (k : ℕ) where
  pub statement_is : 11 ≤ k → k ≤ 39 → true ≡ in_class S k
  unfolding first_of past_of count_before amount kinds of_class class_number
  statement_is l h = sym (rw (le-leb 11 k l, lt-ltb k 40 (omega arith))) ∙ in_range_lem S k

  pub statement_below : k < 11 → false ≡ in_class S k
  unfolding first_of past_of count_before amount kinds of_class class_number
  statement_below l = sym (rw (lt-leb 11 k l)) ∙ in_range_lem S k

  pub statement_above : 39 < k → false ≡ in_class S k
  unfolding first_of past_of count_before amount kinds of_class class_number
  statement_above l = sym (rw (le-ltb k 40 l, and-false (leb 11 k))) ∙ in_range_lem S k

pub ruleset statements = (statement_is, statement_below, statement_above)

-- the kind `none` is 0
is_absent_lem : (k : ℕ) → eqb k 0 ≡ in_class absent k
unfolding first_of past_of count_before amount of_class class_number kinds
is_absent_lem k = sym (below_one k) ∙ sym (rw (le-leb 0 k (omega arith))) ∙ in_range_lem absent k

-- the digits of a number whose first item is of a class from a up to b, with the marks p and q, and whose other items are m
record Digits (n a b m : ℕ) (p q : Bool) : Type 0 where
  first : n % 128 ≡ a
  past : n / 256 % 128 ≡ b
  optional : leb 128 (n % 256) ≡ p
  repeats : leb 32768 (n % 65536) ≡ q
  rest : n / 65536 ≡ m

bit_small : (p : Bool) → bit p ≤ 1
bit_small true = omega arith
bit_small false = omega arith

digits : (n a b m : ℕ) (p q : Bool) → a < 128 → b ≤ 66 → n ≡ a + 128 * bit p + 256 * (b + 128 * bit q) + 65536 * m → Digits n a b m p q
digits n a b m p q l h e =
    let x = bit_small p in
    let y = bit_small q in
    record { first = omega arith; past = omega arith; optional = under p (omega arith); repeats = over q (omega arith); rest = omega arith }
  where
    under : (p : Bool) → n % 256 ≡ a + 128 * bit p → leb 128 (n % 256) ≡ p
    under true v = le-leb 128 (n % 256) (omega arith)
    under false v = lt-leb 128 (n % 256) (omega arith)

    over : (q : Bool) → 256 * (b + 128 * bit q) ≤ n % 65536 × (n % 65536 < 256 * (b + 128 * bit q) + 256) → leb 32768 (n % 65536) ≡ q
    over true v = le-leb 32768 (n % 65536) (omega arith)
    over false v = lt-leb 32768 (n % 65536) (omega arith)

first_digits : (i : Item) (items : List Item) → Digits (items_number (i ∷ items)) (first_of i.class) (past_of i.class) (items_number items) i.may_be_absent i.may_repeat
unfolding items_number item_number
first_digits i items =
    let f = class_right i.class in
    digits (items_number (i ∷ items)) (first_of i.class) (past_of i.class) (items_number items) i.may_be_absent i.may_repeat f.low f.high refl

-- the first item of a number takes the kinds that the item takes
pub takes_first_lem : (i : Item) (items : List Item) (k : ℕ) → takes_first (items_number (i ∷ items)) k ≡ takes i k
unfolding takes_first of_first takes
takes_first_lem i items k = let d = first_digits i items in rw (d.first, d.past, d.optional, is_absent_lem, in_range_lem i.class k)

-- it may repeat where the item may
pub repeats_first_lem : (i : Item) (items : List Item) → repeats_first (items_number (i ∷ items)) ≡ i.may_repeat
unfolding repeats_first
repeats_first_lem i items = (first_digits i items).repeats

-- the other items
pub rest_number : (i : Item) (items : List Item) → rest_first (items_number (i ∷ items)) ≡ items_number items
unfolding rest_first
rest_number i items = (first_digits i items).rest

-- a number with an item is not 0
pub some_number : (i : Item) (items : List Item) → 0 < items_number (i ∷ items)
unfolding items_number item_number
some_number i items = omega (arith, (class_right i.class).some)

-- A result that is read from the code's table, and what it means where that holds a kind's side numbers or items.
pub side_told : (sides : SideNumbers) (names side : ℕ) (r : Bool) → r ≡ side_below sides names side → (s : Sides) → sides ≡ sides_number s → r ≡ side_fits s names side
side_told sides names side r q s e = q ∙ rw e (side_number s names side)

module _ (items : ℕ) where
  pub takes_told : (k : ℕ) (r : Bool) → r ≡ takes_first items k → (i : Item) (others : List Item) → items ≡ items_number (i ∷ others) → r ≡ takes i k
  takes_told k r q i others e = q ∙ rw e (takes_first_lem i others k)

  -- by its class, or as `none` where the item may be absent
  module _ (k : ℕ) (b : Bool) (e : b ≡ of_first items k) where
    pub taken_of : b ≡ true → true ≡ takes_first items k
    unfolding takes_first
    taken_of h = rw (← e, h) (sym (or-true (leb 128 (items % 256) && eqb k 0)))

    pub taken_not : b ≡ false → (k ≡ 0 → ⊥) → false ≡ takes_first items k
    unfolding takes_first
    taken_not h n = rw (← e, h, ne_eqb k 0 n, and-false (leb 128 (items % 256)))

    pub taken_none : b ≡ false → k ≡ 0 → leb 128 (items % 256) ≡ takes_first items k
    unfolding takes_first
    taken_none h z = rw (← e, h, eq-eqb k 0 z, and-true (leb 128 (items % 256)), or-false (leb 128 (items % 256)))

  pub repeats_told : (r : Bool) → r ≡ repeats_first items → (i : Item) (others : List Item) → items ≡ items_number (i ∷ others) → r ≡ i.may_repeat
  repeats_told r q i others e = q ∙ rw e (repeats_first_lem i others)

  pub rest_told : (r : ℕ) → r ≡ rest_first items → (i : Item) (others : List Item) → items ≡ items_number (i ∷ others) → r ≡ items_number others
  rest_told r q i others e = q ∙ rw e (rest_number i others)

pub ruleset taking = (taken_of, taken_not, taken_none)

-- no item takes nothing
pub takes_none : (k : ℕ) → takes_first 0 k ≡ false
unfolding takes_first of_first
takes_none k = rw (le-ltb k 0 (omega arith), and-false (leb 0 k))

pub repeats_none : repeats_first 0 ≡ false
unfolding repeats_first
repeats_none = refl

-- an element of a list does not depend on what stands for a missing one
any_default : {A : Type 0} (l : List A) (k : ℕ) (d e : A) → k < length l → get_or l k d ≡ get_or l k e
any_default [] k d e h = absurd (omega arith)
any_default (x ∷ l) zero d e h = refl
any_default (x ∷ l) (suc k) d e h = any_default l k d e (omega arith)

-- an entry of the code's table holds the numbers of the list's
kind_numbers : (entries : List Kind) (k : ℕ) (d : Kind) → entries ≡ map numbers kinds → k < 66 → get_or entries k d ≡ numbers (entry k)
unfolding entry
kind_numbers entries k d e h = rw e (any_default (map numbers kinds) k d (numbers no_entry) (simp (length-map, kinds_count) (omega arith)) ∙ get_or-map numbers kinds k no_entry)

-- what its numbers say: the side numbers, and the items
module _ (entries : List Kind) (k : ℕ) (d : Kind) (t : entries ≡ map numbers kinds) (u : k < 66) where
  pub entry_sides : (names side : ℕ) → side_below (get_or entries k d).sides names side ≡ side_fits (entry k).sides names side
  unfolding numbers
  entry_sides names side = rw (kind_numbers entries k d t u) (side_number (entry k).sides names side)

  pub entry_items : (get_or entries k d).children ≡ items_number (entry k).children
  unfolding numbers
  entry_items = rw (kind_numbers entries k d t u)
