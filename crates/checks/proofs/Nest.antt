-- The ends of a table pass the check exactly where they nest, row 0 ends at the count, and no row stands deeper than 100.
-- That they nest is the premise of the laws of the tree.
use Prim.Native.Nat.{ℕ, zero, suc, ◌*◌, ◌≤◌, ◌<◌}
use mathlib.Core.Path.{◌≡◌, refl, sym, ◌∙◌}
use mathlib.Core.Bool.{Bool, true, false, cond}
use mathlib.Core.List.{List, [], ◌∷◌}
use mathlib.Core.Logic.{⊎_elim}
use native.Mathlib.Omega.{arith}
use native.Mathlib.Nat.{le_of_suc-le-suc, eq-or-lt_of_le}
use native.Mathlib.Numerals.{add-one}
use lib.ListN.{length}
use lib.Dec.{leb, ltb}
use borrow.Author.Tests.{ltb-true, ltb-false, lt-ltb, le-ltb, leb-true, le-leb, eqb-true, eq-eqb}
use Rattle.table.specs.Rows.{end_at, Nested}
use Rattle.checks.specs.Checks.{Checked}
use Rattle.refusals.specs.Refusals.{refused_at}
use Rattle.checks.specs.Checks.{passed}
use Rattle.refusals.specs.declared.Refusal.TheVariants.{WrongEnd, TooDeep}
use Rattle.checks.specs.Checks.{when_held, ends_before, above, enclosing, end_fits, depth_at, ends_at, ends_of}
use Rattle.checks.specs.Steps.{Held}
use Rattle.checks.proofs.Rows.{never, all_pass, pass_all}
use Rattle.checks.proofs.Room.{passed_held, passed_found, holds_true}
use Rattle.checks.proofs.Enclosing.{Rises, AtLeast, rises_next, end_least, end_after}

-- what a row that passed says
pub record RightEnd (rows : List ℕ) (count i : ℕ) : Type 0 where
  pub fits : end_fits count i (end_at rows i) (enclosing rows i) ≡ true
  pub shallow : depth_at rows i ≤ 100

pub right_end : (rows : List ℕ) (count i : ℕ) → ends_at rows count i ≡ passed → RightEnd rows count i
unfolding ends_at
right_end rows count i = go (end_fits count i (end_at rows i) (enclosing rows i)) (leb (depth_at rows i) 100) refl refl
  where
    go : (a b : Bool)
        → end_fits count i (end_at rows i) (enclosing rows i) ≡ a
        → leb (depth_at rows i) 100 ≡ b
        → cond a (cond b passed (refused_at TooDeep i)) (refused_at WrongEnd i) ≡ passed
        → RightEnd rows count i
    go true true p q e = record { fits = p; shallow = leb-true (depth_at rows i) 100 q }
    go true false p q e = never e
    go false b p q e = never e

-- of the rows before row n, where all of them passed
module _ (rows : List ℕ) (count n : ℕ) (few : n ≤ count) (right : (i : ℕ) → i < n → RightEnd rows count i) where
  pub rises_at : (i : ℕ) → i ≤ n → Rises (enclosing rows i)
  unfolding enclosing ends_before above
  rises_at zero h = tt
  rises_at (suc i) h = rw add-one at (rises_next rows i count (rises_at i (omega arith)) (right i h).fits)

  -- the end of an earlier row, if above j, is one of those that enclose
  among : (m j k i : ℕ) → AtLeast m (above j (ends_before rows k)) → i < k → j < end_at rows i → m ≤ end_at rows i
  unfolding ends_before above
  among m j zero i a h l = absurd (omega arith)
  among m j (suc k) i a h l =
      ⊎_elim
      (λ (e : i ≡ k). let a' : AtLeast m (end_at rows k ∷ above j (ends_before rows k)) = rw (lt-ltb j (end_at rows k) (rw e at l)) at a in rw e a'.0)
      (λ (h' : i < k). among m j k i (rest (ltb j (end_at rows k)) a) h' l)
      (eq-or-lt_of_le (le_of_suc-le-suc h))
    where
      rest : (b : Bool) → AtLeast m (cond b (end_at rows k ∷ above j (ends_before rows k)) (above j (ends_before rows k))) → AtLeast m (above j (ends_before rows k))
      rest true a = a.1
      rest false a = a

  nests : (i j : ℕ) → j < n → i < j → j < end_at rows i → end_at rows j ≤ end_at rows i
  unfolding enclosing
  nests i j h l u = among (end_at rows j) j j i (end_least count j (end_at rows j) (enclosing rows j) (rises_at j (omega arith)) (right j h).fits) l u

  pub root : 0 < n → end_at rows 0 ≡ count
  unfolding enclosing ends_before above end_fits
  root h = eqb-true (end_at rows 0) count (right 0 h).fits

  pub within : (i : ℕ) → i < n → end_at rows i ≤ count
  within zero h = omega (arith, root h)
  within (suc i) h = let r : end_at rows 0 ≡ count = root (omega arith) in omega (arith, nests 0 (suc i) h (omega arith) (omega arith))

nested_by : (rows : List ℕ) (count : ℕ) → ((i : ℕ) → i < count → RightEnd rows count i) → 0 < count → 5 * count ≤ length rows → Nested rows 0 count
nested_by rows count right p room = record {
  ordered = omega arith;
  held = room;
  after = λ i a h. end_after count i (end_at rows i) (enclosing rows i) h (right i h).fits;
  within = λ i a h. within rows count count (omega arith) right i h;
  nests = λ i j a h l u. nests rows count count (omega arith) right i j (omega (arith, within rows count count (omega arith) right i h)) l u;
}

-- the ends of a table, as the laws of its tree want them
pub record RightEnds (rows : List ℕ) (count : ℕ) : Type 0 where
  pub held : Held rows count
  pub nested : Nested rows 0 count
  pub root : end_at rows 0 ≡ count
  pub shallow : (i : ℕ) → i < count → depth_at rows i ≤ 100

pub ends_passed : (rows : List ℕ) (count : ℕ) (r : Checked) → r ≡ ends_of rows count → r ≡ passed → RightEnds rows count
ends_passed rows count r q p =
    let e : ends_of rows count ≡ passed = sym q ∙ p in
    let h = passed_held rows count _ e in
    let right : (i : ℕ) → i < count → RightEnd rows count i = λ i l. right_end rows count i (all_pass (ends_at rows count) count (passed_found rows count _ e) i l) in
    record {
      held = h;
      nested = nested_by rows count right h.some h.room;
      root = root rows count count (omega arith) right h.some;
      shallow = λ i l. (right i l).shallow;
    }

-- "the row it stands in: the last earlier row whose end is above this number", here of the rows below n, with its end
pub record LastAbove (rows : List ℕ) (i n e : ℕ) : Type 0 where
  pub row : ℕ
  pub earlier : row < n
  pub ends : end_at rows row ≡ e
  pub above : i < e
  pub last : (k : ℕ) → row < k → k < n → end_at rows k ≤ i

pub last_above : (rows : List ℕ) (i n e : ℕ) (es : List ℕ) → above i (ends_before rows n) ≡ e ∷ es → LastAbove rows i n e
unfolding above ends_before
last_above rows i zero e es q = absurd (let z : ◌≡◌ {A = ℕ} 0 1 = cc in omega arith)
last_above rows i (suc n) e es q = go (ltb i (end_at rows n)) refl (last_above rows i n e es)
  where
    go : (b : Bool) → ltb i (end_at rows n) ≡ b → (above i (ends_before rows n) ≡ e ∷ es → LastAbove rows i n e) → LastAbove rows i (suc n) e
    go true t more =
        let v : end_at rows n ∷ above i (ends_before rows n) ≡ e ∷ es = rw t at q in
        let u : end_at rows n ≡ e = cc in
        record { row = n; earlier = omega arith; ends = u; above = rw (← u) (ltb-true i (end_at rows n) t); last = λ k a b. absurd (omega arith) }
    go false t more =
        let c = more (rw t at q) in
        record { row = c.row; earlier = omega (arith, c.earlier); ends = c.ends; above = c.above; last = λ k a b. ⊎_elim (λ (z : k ≡ n). rw z (ltb-false i (end_at rows n) t)) (λ l. c.last k a l) (eq-or-lt_of_le (le_of_suc-le-suc b)) }

-- the row that row i stands in
pub record Container (rows : List ℕ) (i row : ℕ) : Type 0 where
  pub earlier : row < i
  pub above : i < end_at rows row
  pub last : (k : ℕ) → row < k → k < i → end_at rows k ≤ i

-- the rows between it and row i have ended
up_to_container : (rows : List ℕ) (i row n : ℕ) → Container rows i row → row < n → n ≤ i → above i (ends_before rows n) ≡ end_at rows row ∷ above i (ends_before rows row)
unfolding above ends_before
up_to_container rows i row zero c a b = absurd (omega arith)
up_to_container rows i row (suc n) c a b =
    ⊎_elim
    (λ (z : row ≡ n). rw (← z, lt-ltb i (end_at rows row) c.above))
    (λ (l : row < n). rw (le-ltb i (end_at rows n) (c.last n l b)) (up_to_container rows i row n c l (omega arith)))
    (eq-or-lt_of_le (le_of_suc-le-suc a))

same_above : (rows : List ℕ) (i j n : ℕ) → ((k : ℕ) → k < n → ltb i (end_at rows k) ≡ ltb j (end_at rows k)) → above i (ends_before rows n) ≡ above j (ends_before rows n)
unfolding above ends_before
same_above rows i j zero t = refl
same_above rows i j (suc n) t = rw (t n (omega arith), same_above rows i j n (λ k h. t k (omega arith)))

-- what encloses a row: the row it stands in, and what encloses that. So it stands one deeper.
module _ (rows : List ℕ) (count i row : ℕ) (g : Nested rows 0 count) (h : i < count) (c : Container rows i row) where
  pub container_encloses : enclosing rows i ≡ end_at rows row ∷ enclosing rows row
  unfolding enclosing
  container_encloses = up_to_container rows i row i c c.earlier (omega arith) ∙ rw (same_above rows i row row (λ k l. both k l (ltb row (end_at rows k)) refl))
    where
      both : (k : ℕ) → k < row → (b : Bool) → ltb row (end_at rows k) ≡ b → ltb i (end_at rows k) ≡ b
      both k l true t =
          let n = g.nests k row (omega arith) (omega (arith, c.earlier)) l (ltb-true row (end_at rows k) t) in
          lt-ltb i (end_at rows k) (omega (arith, c.above))
      both k l false t = le-ltb i (end_at rows k) (omega (arith, ltb-false row (end_at rows k) t, c.earlier))

  pub container_depth : depth_at rows i ≡ suc (depth_at rows row)
  unfolding depth_at
  container_depth = rw container_encloses (omega arith)

pub root_depth : (rows : List ℕ) → depth_at rows 0 ≡ 1
unfolding depth_at enclosing above ends_before
root_depth rows = refl

-- a row that nothing encloses: no earlier row ends above it
pub none_above : (rows : List ℕ) (i n : ℕ) → above i (ends_before rows n) ≡ [] → (k : ℕ) → k < n → end_at rows k ≤ i
unfolding above ends_before
none_above rows i zero q k h = absurd (omega arith)
none_above rows i (suc n) q k h = go (ltb i (end_at rows n)) refl (none_above rows i n)
  where
    go : (b : Bool) → ltb i (end_at rows n) ≡ b → (above i (ends_before rows n) ≡ [] → (j : ℕ) → j < n → end_at rows j ≤ i) → end_at rows k ≤ i
    go true t more = let v : end_at rows n ∷ above i (ends_before rows n) ≡ [] = rw t at q in absurd (let z : ◌≡◌ {A = ℕ} 0 1 = cc in omega arith)
    go false t more =
        ⊎_elim (λ (z : k ≡ n). rw z (ltb-false i (end_at rows n) t)) (λ l. more (rw t at q) k l) (eq-or-lt_of_le (le_of_suc-le-suc h))

module _ (rows : List ℕ) (count : ℕ) (w : RightEnds rows count) where
  -- every row but row 0 stands in one
  enclosed : (i : ℕ) → 0 < i → i < count → enclosing rows i ≡ [] → ⊥
  unfolding enclosing
  enclosed i p h q = omega (arith, none_above rows i i q 0 p, w.root)

  pub has_container : (i : ℕ) → 0 < i → i < count → (row : ℕ) × Container rows i row
  unfolding enclosing
  has_container i p h = go (enclosing rows i) refl
    where
      go : (es : List ℕ) → enclosing rows i ≡ es → (row : ℕ) × Container rows i row
      go [] q = absurd (enclosed i p h q)
      go (e ∷ es) q =
          let c = last_above rows i i e es q in
          (c.row, record { earlier = c.earlier; above = omega (arith, c.above, c.ends); last = c.last })

  fits_at : (i : ℕ) → i < count → (es : List ℕ) → enclosing rows i ≡ es → end_fits count i (end_at rows i) es ≡ true
  unfolding end_fits enclosing above ends_before
  fits_at zero h [] q = eq-eqb (end_at rows 0) count w.root
  fits_at zero h (e ∷ es) q = absurd (let z : ◌≡◌ {A = ℕ} 0 1 = cc in omega arith)
  fits_at (suc i) h [] q = absurd (enclosed (suc i) (omega arith) h q)
  fits_at (suc i) h (e ∷ es) q =
      let c = last_above rows (suc i) (suc i) e es q in
      let a : suc i < end_at rows (suc i) = w.nested.after (suc i) (omega arith) h in
      let u : suc i < end_at rows c.row = omega (arith, c.above, c.ends) in
      let l : end_at rows (suc i) ≤ e = omega (arith, c.ends, w.nested.nests c.row (suc i) (omega arith) (omega (arith, c.earlier)) c.earlier u) in
      rw (lt-ltb (suc i) (end_at rows (suc i)) a, le-leb (end_at rows (suc i)) e l)

  -- ends that are right pass
  pub ends_pass : ends_of rows count ≡ passed
  unfolding when_held ends_at
  ends_pass =
      rw (holds_true rows count w.held)
      (pass_all (ends_at rows count) count (λ i h. rw (fits_at i h (enclosing rows i) refl, le-leb (depth_at rows i) 100 (w.shallow i h))))
