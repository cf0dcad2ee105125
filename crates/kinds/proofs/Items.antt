-- Children against the items of a kind, one child and one item at a time: the cases of `fits`, and of no children at all the items, which must all
-- repeat, by induction on them.
use Prim.Native.Nat.{ℕ}
use mathlib.Core.Path.{◌≡◌, refl, sym, ap, ◌∙◌}
use mathlib.Core.Bool.{Bool, true, false, cond, ◌&&◌}
use mathlib.Core.List.{List, [], ◌∷◌}
use Rattle.kinds.specs.Kinds.{Item, takes, once, many, fits}

-- whether every item may repeat
unfoldable pub all_repeat : List Item → Bool
all_repeat [] = true
all_repeat (i ∷ items) = i.may_repeat && all_repeat items

-- no child is left
pub fits_none : (items : List Item) → fits items [] ≡ all_repeat items
unfolding fits all_repeat once many
fits_none [] = refl
fits_none (i ∷ items) = go i.may_repeat refl (fits_none items)
  where
    go : (b : Bool) → i.may_repeat ≡ b → fits items [] ≡ all_repeat items → fits (i ∷ items) [] ≡ b && all_repeat items
    go true e ih = rw e ih
    go false e ih = rw e

-- a child that the item takes, and the item stands once, or again
module _ (i : Item) (items : List Item) (k : ℕ) (ks : List ℕ) where
  pub fits_once : takes i k ≡ true → i.may_repeat ≡ false → fits (i ∷ items) (k ∷ ks) ≡ fits items ks
  unfolding fits once
  fits_once t r = rw (t, r)

  pub fits_again : takes i k ≡ true → i.may_repeat ≡ true → fits (i ∷ items) (k ∷ ks) ≡ fits (i ∷ items) ks
  unfolding fits many
  fits_again t r = repeated (k ∷ ks) ∙ ap (λ b. cond b (many (takes i) (fits items) ks) (fits items (k ∷ ks))) t ∙ sym (repeated ks)
    where
      repeated : (ys : List ℕ) → fits (i ∷ items) ys ≡ many (takes i) (fits items) ys
      repeated ys = ap (λ b. cond b (many (takes i) (fits items) ys) (once (takes i) (fits items) ys)) r

  -- a child that the item does not take: it is for the next item, or for none
  pub fits_skip : takes i k ≡ false → i.may_repeat ≡ true → fits (i ∷ items) (k ∷ ks) ≡ fits items (k ∷ ks)
  unfolding fits many
  fits_skip t r = rw (t, r)

  pub fits_not : takes i k ≡ false → i.may_repeat ≡ false → fits (i ∷ items) (k ∷ ks) ≡ false
  unfolding fits once
  fits_not t r = rw (t, r)
