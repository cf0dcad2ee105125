-- Children against the number of a kind's items, as code meets them: one child, and the first item of what is left. `Left` says that the children to
-- come fit the items left exactly where all fit, and each step keeps it. The number of the items falls, or the children left.
use Prim.Native.Nat.{ℕ, ◌%◌, ◌<◌}
use mathlib.Core.Path.{◌≡◌, refl, sym, ◌∙◌}
use mathlib.Core.Bool.{Bool, true, false, cond}
use mathlib.Core.List.{List, [], ◌∷◌}
use native.Mathlib.Omega.{arith}
use lib.Dec.{eqb}
use borrow.Author.Tests.{leb-true, ne_eqb}
use Rattle.kinds.specs.Kinds.{Item, takes, fits}
use Rattle.kinds.specs.Steps.{items_number, takes_first, repeats_first, rest_first, after_first}
use Rattle.kinds.proofs.Below.{true_not_false}
use Rattle.kinds.proofs.Numbers.{takes_first_lem, repeats_first_lem, rest_number, some_number, takes_none, repeats_none}
use Rattle.kinds.proofs.Items.{all_repeat, fits_none, fits_once, fits_again, fits_skip, fits_not}

-- the items of a number, against which children of these kinds fit where the test says
pub record Left (left : ℕ) (kinds : List ℕ) (whole : Bool) : Type 0 where
  pub items : List Item
  pub number : left ≡ items_number items
  pub same : whole ≡ fits items kinds

-- a first item's tests, by the item
module _ (left : ℕ) (i : Item) (items : List Item) (e : left ≡ items_number (i ∷ items)) where
  takes_is : (k : ℕ) (b : Bool) → takes_first left k ≡ b → takes i k ≡ b
  takes_is k b t = sym (takes_first_lem i items k) ∙ (rw e at t)

  repeats_is : repeats_first left ≡ i.may_repeat
  repeats_is = rw e (repeats_first_lem i items)

  rest_is : rest_first left ≡ items_number items
  rest_is = rw e (rest_number i items)

-- no item is left: nothing is taken, nothing repeats
module _ {A : Type 0} (left : ℕ) (e : left ≡ 0) where
  takes_never : (k : ℕ) → takes_first left k ≡ true → A
  takes_never k t = true_not_false (sym t ∙ rw e (takes_none k))

  repeats_never : repeats_first left ≡ true → A
  repeats_never t = true_not_false (sym t ∙ rw e repeats_none)

module _ (left k : ℕ) (ks : List ℕ) (whole : Bool) where
  taken : (items : List Item) → left ≡ items_number items → whole ≡ fits items (k ∷ ks) → takes_first left k ≡ true → Left (after_first left) ks whole
  unfolding after_first items_number
  taken [] e s t = takes_never left e k t
  taken (i ∷ items) e s t = go i.may_repeat refl
    where
      go : (b : Bool) → i.may_repeat ≡ b → Left (cond (repeats_first left) left (rest_first left)) ks whole
      go true q = record { items = i ∷ items; number = rw (repeats_is left i items e ∙ q) e; same = s ∙ fits_again i items k ks (takes_is left i items e k true t) q }
      go false q = record { items = items; number = rw (repeats_is left i items e ∙ q) (rest_is left i items e); same = s ∙ fits_once i items k ks (takes_is left i items e k true t) q }

  skipped : (items : List Item) → left ≡ items_number items → whole ≡ fits items (k ∷ ks) → takes_first left k ≡ false → repeats_first left ≡ true → Left (rest_first left) (k ∷ ks) whole
  unfolding items_number
  skipped [] e s t r = repeats_never left e r
  skipped (i ∷ items) e s t r = record { items = items; number = rest_is left i items e; same = s ∙ fits_skip i items k ks (takes_is left i items e k false t) (sym (repeats_is left i items e) ∙ r) }

  refused : (items : List Item) → left ≡ items_number items → whole ≡ fits items (k ∷ ks) → takes_first left k ≡ false → repeats_first left ≡ false → false ≡ whole
  unfolding fits
  refused [] e s t r = sym s
  refused (i ∷ items) e s t r = sym (s ∙ fits_not i items k ks (takes_is left i items e k false t) (sym (repeats_is left i items e) ∙ r))

module _ {left k : ℕ} {ks : List ℕ} {whole : Bool} (w : Left left (k ∷ ks) whole) where
  -- the first item takes the child
  pub left_taken : takes_first left k ≡ true → Left (after_first left) ks whole
  left_taken t = taken left k ks whole w.items w.number w.same t

  -- it does not, and the child is for the next item
  pub left_skipped : takes_first left k ≡ false → repeats_first left ≡ true → Left (rest_first left) (k ∷ ks) whole
  left_skipped t r = skipped left k ks whole w.items w.number w.same t r

  -- it does not, and it must
  pub left_refused : takes_first left k ≡ false → repeats_first left ≡ false → false ≡ whole
  left_refused t r = refused left k ks whole w.items w.number w.same t r

-- no child is left: an item that may repeat is passed, and any other is missed
module _ (left : ℕ) (whole : Bool) where
  passed : (items : List Item) → left ≡ items_number items → whole ≡ fits items [] → repeats_first left ≡ true → Left (rest_first left) [] whole
  unfolding all_repeat items_number
  passed [] e s r = repeats_never left e r
  passed (i ∷ items) e s r =
      let q : i.may_repeat ≡ true = sym (repeats_is left i items e) ∙ r in
      record { items = items; number = rest_is left i items e; same = s ∙ fits_none (i ∷ items) ∙ rw q (sym (fits_none items)) }

  ended : (items : List Item) → left ≡ items_number items → whole ≡ fits items [] → repeats_first left ≡ false → eqb left 0 ≡ whole
  unfolding fits items_number all_repeat
  ended [] e s r = rw e (sym s)
  ended (i ∷ items) e s r =
      let q : i.may_repeat ≡ false = sym (repeats_is left i items e) ∙ r in
      let n : eqb left 0 ≡ false = ne_eqb left 0 (λ z. omega (arith, e, some_number i items)) in
      n ∙ sym (s ∙ fits_none (i ∷ items) ∙ rw q)

module _ {left : ℕ} {whole : Bool} (w : Left left [] whole) where
  pub left_passed : repeats_first left ≡ true → Left (rest_first left) [] whole
  left_passed r = passed left whole w.items w.number w.same r

  pub left_ended : repeats_first left ≡ false → eqb left 0 ≡ whole
  left_ended r = ended left whole w.items w.number w.same r

-- measure: what is left becomes less without a first item
pub rest_less : (left : ℕ) → repeats_first left ≡ true → rest_first left < left
unfolding repeats_first rest_first
rest_less left r = omega (arith, leb-true 32768 (left % 65536) r)
