-- Siblings of which something is so, each by itself: the one at a place, where nothing stands instead if there is none, and those after the first.
use mathlib.Core.List.{List, [], ◌∷◌}
use Prim.Native.Nat.{ℕ, zero, suc}
use Rattle.table.specs.Fold.{nth, tail}
use Rattle.da.specs.Walk.{Walk, no_walk}

pub data All (P : Walk → Type 0) : List Walk → Type 0 where
  none : All P []
  and : {w : Walk} {ws : List Walk} → P w → All P ws → All P (w ∷ ws)

module _ {P : Walk → Type 0} where
  pub at_place : P no_walk → (n : ℕ) {ws : List Walk} → All P ws → P (nth no_walk n ws)
  at_place still n none = still
  at_place still zero (and k ks) = k
  at_place still (suc n) (and k ks) = at_place still n ks

  pub after_first : {ws : List Walk} → All P ws → All P (tail ws)
  after_first none = none
  after_first (and k ks) = ks
