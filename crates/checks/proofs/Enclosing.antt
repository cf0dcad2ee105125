-- The ends of the rows that a row stands in, where the rows before it passed the check of their ends: they rise from the
-- innermost out. From this come the nesting of the whole table and the right to keep the ends of the open rows alone.
use Prim.Native.Nat.{ℕ, suc, ◌+◌, ◌≤◌, ◌<◌}
use mathlib.Core.Path.{◌≡◌, refl, sym, ap, subst}
use mathlib.Core.Bool.{Bool, true, false, cond}
use mathlib.Core.List.{List, [], ◌∷◌}
use native.Mathlib.Omega.{arith}
use lib.Dec.{leb, ltb}
use borrow.Author.Tests.{ltb-true, ltb-false, lt-ltb, le-ltb, leb-true, eqb-true}
use Rattle.table.specs.Rows.{end_at}
use Rattle.kinds.proofs.Below.{both_true}
use Rattle.checks.specs.Checks.{ends_before, above, enclosing, end_fits}

-- each end of a list is at least m; the ends rise
abbrev pub AtLeast : ℕ → List ℕ → Type 0
AtLeast m [] = Unit {0}
AtLeast m (e ∷ es) = (m ≤ e) × AtLeast m es

abbrev pub Rises : List ℕ → Type 0
Rises [] = Unit {0}
Rises (e ∷ es) = AtLeast e es × Rises es

pub at_least_trans : (m n : ℕ) → m ≤ n → (es : List ℕ) → AtLeast n es → AtLeast m es
at_least_trans m n h [] a = tt
at_least_trans m n h (e ∷ es) a = (omega (arith, a.0), at_least_trans m n h es a.1)

-- leaving out the ends that are not above i keeps both
at_least_above : (m i : ℕ) (es : List ℕ) → AtLeast m es → AtLeast m (above i es)
unfolding above
at_least_above m i [] a = tt
at_least_above m i (e ∷ es) a = go (ltb i e) (at_least_above m i es a.1)
  where
    go : (b : Bool) → AtLeast m (above i es) → AtLeast m (cond b (e ∷ above i es) (above i es))
    go true r = (a.0, r)
    go false r = r

rises_above : (i : ℕ) (es : List ℕ) → Rises es → Rises (above i es)
unfolding above
rises_above i [] r = tt
rises_above i (e ∷ es) r = go (ltb i e) (rises_above i es r.1)
  where
    go : (b : Bool) → Rises (above i es) → Rises (cond b (e ∷ above i es) (above i es))
    go true s = (at_least_above e i es r.0, s)
    go false s = s

-- what is above the higher of two numbers
above_above : (i j : ℕ) → i ≤ j → (es : List ℕ) → above j (above i es) ≡ above j es
unfolding above
above_above i j h [] = refl
above_above i j h (e ∷ es) = go (ltb i e) refl (above_above i j h es)
  where
    go : (b : Bool) → ltb i e ≡ b → above j (above i es) ≡ above j es → above j (above i (e ∷ es)) ≡ above j (e ∷ es)
    go true q ih = rw (q, ih)
    go false q ih = rw (q, ih, le-ltb j e (omega (arith, ltb-false i e q)))

-- where all are above i, none is left out
pub all_above : (i : ℕ) (es : List ℕ) → AtLeast (suc i) es → above i es ≡ es
unfolding above
all_above i [] a = refl
all_above i (e ∷ es) a = rw (lt-ltb i e (omega (arith, a.0)), all_above i es a.1)

-- an end that fits is at most each end of the rows that it stands in
pub end_least : (count i end : ℕ) (es : List ℕ) → Rises es → end_fits count i end es ≡ true → AtLeast end es
unfolding end_fits
end_least count i end [] r t = tt
end_least count i end (e ∷ es) r t =
    let l : end ≤ e = leb-true end e (both_true (ltb i end) (leb end e) t).1 in
    (l, at_least_trans end e l es r.0)

-- and past its own row
pub end_after : (count i end : ℕ) (es : List ℕ) → i < count → end_fits count i end es ≡ true → i < end
unfolding end_fits
end_after count i end [] h t = omega (arith, eqb-true end count t)
end_after count i end (e ∷ es) h t = ltb-true i end (both_true (ltb i end) (leb end e) t).0

-- what encloses the next row
module _ (rows : List ℕ) (i : ℕ) where
  with_above : above (i + 1) (end_at rows i ∷ enclosing rows i) ≡ enclosing rows (i + 1)
  unfolding enclosing ends_before above
  with_above =
      let next : above (suc i) (end_at rows i ∷ enclosing rows i) ≡ enclosing rows (suc i) =
      ap (λ es. cond (ltb (suc i) (end_at rows i)) (end_at rows i ∷ es) es) (above_above i (suc i) (omega arith) (ends_before rows i)) in
      subst (λ n. above n (end_at rows i ∷ enclosing rows i) ≡ enclosing rows n) (sym (native.Mathlib.Numerals.add-one i)) next

  pub enclosing_same : end_at rows i ≤ i + 1 → above (i + 1) (enclosing rows i) ≡ enclosing rows (i + 1)
  unfolding above
  enclosing_same h = rw (le-ltb (i + 1) (end_at rows i) h) at with_above

  pub enclosing_more : i + 1 < end_at rows i → AtLeast (end_at rows i) (enclosing rows i) → end_at rows i ∷ enclosing rows i ≡ enclosing rows (i + 1)
  unfolding above
  enclosing_more h a = rw (lt-ltb (i + 1) (end_at rows i) h, all_above (i + 1) (enclosing rows i) (at_least_trans (suc (i + 1)) (end_at rows i) h (enclosing rows i) a)) at with_above

  pub rises_next : (count : ℕ) → Rises (enclosing rows i) → end_fits count i (end_at rows i) (enclosing rows i) ≡ true → Rises (enclosing rows (i + 1))
  rises_next count r t = rw with_above at (rises_above (i + 1) (end_at rows i ∷ enclosing rows i) (end_least count i (end_at rows i) (enclosing rows i) r t, r))
