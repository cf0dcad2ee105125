-- What `close` and `place` do with the open rows. The loop of `close` keeps that what is closed from where it has come is closed from where it
-- started; the number of open rows falls.
use Prim.Native.Nat.{ℕ, suc, ◌+◌, ◌-◌, ◌≤◌, ◌<◌}
use mathlib.Core.Path.{◌≡◌, refl, subst}
use mathlib.Core.List.{List}
use native.Mathlib.Omega.{arith}
use lib.ListN.{get_or, set}
use Rattle.checks.specs.Steps.{Settles, Closes, stays, closes, PlacesRow, opens, ends_here}

pub record Closing (ends left own : List ℕ) (row depth first d f : ℕ) : Type 0 where
  pub down : d ≤ depth
  pub back : (m n : ℕ) → Closes ends left own row d f m n → Closes ends left own row depth first m n

pub closing_start : (ends left own : List ℕ) (row depth first : ℕ) → Closing ends left own row depth first depth first
closing_start ends left own row depth first = record { down = omega arith; back = λ m n c. c }

module _ (ends left own : List ℕ) (row depth first d f : ℕ) (w : Closing ends left own row depth first d f) where
  pub closing_none : d ≤ 0 → Closes ends left own row depth first d f
  closing_none h = w.back d f (stays (λ l. absurd (omega arith)))

  pub closing_found : row < get_or ends (d - 1) 0 → Closes ends left own row depth first d f
  closing_found l = w.back d f (stays (λ _. l))

  pub closing_next : (r : ℕ) → 0 < d → get_or ends (d - 1) 0 ≤ row → Settles (get_or left (d - 1) 0) (get_or own (d - 1) 0) f r → Closing ends left own row depth first (d - 1) r
  closing_next r h l s = record {
    down = omega (arith, w.down);
    back = λ m n c. (let z : suc (d - 1) ≡ d = omega arith in w.back m n (subst (λ (k : ℕ). Closes ends left own row k f m n) z (closes l s c)));
  }

pub ruleset closing = (closing_start, closing_none, closing_found, closing_next)

module _ (ends left own : List ℕ) (depth row end items first : ℕ) where
  pub place_opens : row + 1 < end → PlacesRow ends left own depth row end items first (set ends depth end) (set left depth items) (set own depth row) (depth + 1) first
  place_opens h = opens h refl refl refl refl refl

  pub place_ends : (found d f : ℕ) → end ≤ row + 1 → Settles items row first found → Closes ends left own (row + 1) depth found d f → PlacesRow ends left own depth row end items first ends left own d f
  place_ends found d f h s c = ends_here found h refl refl refl s c

pub ruleset placing = (place_opens, place_ends)
