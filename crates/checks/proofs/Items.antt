-- A kind's items against the children, as the code meets them: no child is left, or one is next. The items, as a number, fall in both loops.
use Prim.Native.Nat.{ℕ, min, ◌<◌}
use mathlib.Core.Path.{◌≡◌, refl, sym, ◌∙◌}
use mathlib.Core.Bool.{Bool, true, false, not}
use mathlib.Core.List.{List, [], ◌∷◌}
use native.Mathlib.Omega.{arith}
use lib.ListN.{get_or, set}
use lib.Seq.{set-get_or, set-set}
use lib.Dec.{eqb}
use borrow.Author.Tests.{not-true, not-false}
use Rattle.kinds.specs.Kinds.{Item, fits}
use Rattle.kinds.specs.Steps.{items_number, takes_first, repeats_first, rest_first, after_first}
use Rattle.kinds.proofs.Numbers.{repeats_none}
use Rattle.kinds.proofs.Steps.{Left, left_taken, left_skipped, left_refused, left_passed, left_ended, rest_less}
use Rattle.checks.specs.Steps.{Settles, whole, missing, taken, unfit, Takes}

-- the loop of `all_repeat`: the items left when no child is
pub record LeftOver (items left : ℕ) : Type 0 where
  pub all : (full : List Item) → items ≡ items_number full → Left left [] (fits full [])

pub ending_start : (items : ℕ) → LeftOver items items
ending_start items = record { all = λ full e. record { items = full; number = e; same = refl } }

module _ (items left : ℕ) (w : LeftOver items left) (r : Bool) (q : r ≡ repeats_first left) where
  pub ending_next : (after : ℕ) → r ≡ true → after ≡ rest_first left → LeftOver items after
  ending_next after y a = record { all = λ full e. rw a (left_passed (w.all full e) (sym q ∙ y)) }

  pub ending_done : r ≡ false → (full : List Item) → items ≡ items_number full → eqb left 0 ≡ fits full []
  ending_done f full e = left_ended (w.all full e) (sym q ∙ f)

pub ending_falls : (left after : ℕ) (r : Bool) → after ≡ rest_first left → r ≡ repeats_first left → r ≡ true → after < left
ending_falls left after r a q y = omega (arith, rest_less left (sym q ∙ y))

pub ruleset ending = (ending_start, ending_done, ending_next, ending_falls)

-- what `settle` tells
module _ (left own first : ℕ) where
  pub settle_none : left ≡ 0 → Settles left own first first
  settle_none z = whole refl (λ b l. (let e = left_ended l (rw z repeats_none) in rw z at e))

  module _ (r : Bool) (t : (items : List Item) → left ≡ items_number items → r ≡ fits items []) where
    told : (b : Bool) → Left left [] b → r ≡ b
    told b l = t l.items l.number ∙ sym l.same

    pub settle_whole : r ≡ true → Settles left own first first
    settle_whole y = whole refl (λ b l. sym y ∙ told b l)

    pub settle_missing : (out : ℕ) → r ≡ false → out ≡ min own first → Settles left own first out
    settle_missing out n e = missing e (λ b l. sym n ∙ told b l)

pub ruleset settling = (settle_none, settle_whole, settle_missing)

-- the loop of `take`: these items are in the array, and the child is for them
pub record Taking (before : List ℕ) (i kind : ℕ) (left : List ℕ) (items : ℕ) : Type 0 where
  pub changed : left ≡ set before i items
  pub same : (ks : List ℕ) (b : Bool) → Left (get_or before i 0) (kind ∷ ks) b → Left items (kind ∷ ks) b

pub taking_start : (before : List ℕ) (i kind : ℕ) → Taking before i kind before (get_or before i 0)
taking_start before i kind = record { changed = sym (set-get_or before i 0); same = λ ks b l. l }

module _ (before : List ℕ) (i kind : ℕ) (left : List ℕ) (items : ℕ) (w : Taking before i kind left items) (own : List ℕ) (first : ℕ) (b : Bool) (t : b ≡ takes_first items kind) (r : Bool) (q : r ≡ repeats_first items) where
  module _ (y : not b ≡ true) where
    pub taking_refused : (out : ℕ) → not r ≡ true → out ≡ min (get_or own i 0) first → Takes before own i kind first left out
    taking_refused out n e = record { items = items; changed = w.changed; took = unfit e (λ ks b' l. left_refused (w.same ks b' l) (sym t ∙ not-true b y) (sym q ∙ not-true r n)) }

    pub taking_next : (after : ℕ) → not r ≡ false → after ≡ rest_first items → Taking before i kind (set left i after) after
    taking_next after n a = record {
      changed = rw w.changed (set-set before i items after);
      same = λ ks b' l. rw a (left_skipped (w.same ks b' l) (sym t ∙ not-true b y) (sym q ∙ not-false r n));
    }

    pub taking_falls : (after : ℕ) → not r ≡ false → after ≡ rest_first items → after < items
    taking_falls after n a = omega (arith, rest_less items (sym q ∙ not-false r n))

  module _ (n : not b ≡ false) where
    after_taken : (ks : List ℕ) (b' : Bool) → Left (get_or before i 0) (kind ∷ ks) b' → Left (after_first items) ks b'
    after_taken ks b' l = left_taken (w.same ks b' l) (sym t ∙ not-false b n)

    pub taking_again : r ≡ true → Takes before own i kind first left first
    unfolding after_first
    taking_again y = record { items = items; changed = w.changed; took = taken refl (λ ks b' l. rw (sym q ∙ y) at (after_taken ks b' l)) }

    pub taking_once : (after : ℕ) → r ≡ false → after ≡ rest_first items → Takes before own i kind first (set left i after) first
    unfolding after_first
    taking_once after f a = record {
      items = after;
      changed = rw w.changed (set-set before i items after);
      took = taken refl (λ ks b' l. rw a (rw (sym q ∙ f) at (after_taken ks b' l)));
    }

pub ruleset taking = (taking_start, taking_refused, taking_next, taking_falls, taking_again, taking_once)
