-- The flat pass over the rows of a range: what is seen of them row by row, the step of the pass, and what its answer means. By induction
-- over the size of the range (the range of a row's children and that after it are smaller), and over lists of what is seen.
use Prim.Native.Nat.{ℕ, zero, suc, ◌+◌, ◌-◌, ◌≤◌, ◌<◌}
use mathlib.Core.Path.{◌≡◌, refl, sym, ap, ◌∙◌}
use mathlib.Core.Bool.{Bool, true, false, cond}
use mathlib.Core.List.{List, [], ◌∷◌, ◌++◌, append_assoc, append-nil}
use mathlib.Core.Logic.{◌⊎◌, inl, inr, ⊎_elim}
use native.Mathlib.Nat.{add-zero, sub_self}
use native.Mathlib.Omega.{arith}
use lib.Dec.{ltb}
use lib.ListN.{length, length-append}
use borrow.Author.Tests.{ltb-true, ltb-false}
use Rattle.table.specs.Rows.{kind_at, end_at, tree, Nested}
use Rattle.table.specs.Steps.{next_of, NextRow}
use Rattle.table.specs.Fold.{fold, nth, tail}
use Rattle.table.proofs.Ranges.{later, ends_after, ends_within, others, alone, children, next_row, next_none}
use Rattle.table.proofs.Fold.{fold_none, fold_some, fold_after}
use Rattle.kinds.specs.declared.ExprClass.{ExprClass}
use Rattle.kinds.specs.Named.{expr_class}
use Rattle.kinds.proofs.Below.{true_not_false}
use Rattle.reads.specs.declared.Iff.{Iff}
use Rattle.std.specs.Prelude.{Option, None, Some}
use Rattle.reads.specs.Mentions.{mentions_at, in_row_order, passed_over, skips_iff, without_iff, seen_below, seen_at, seen, some, refers, first_true, mention_in, MentionAt, MentionTold}

-- the first answer, or where there is none the second
abbrev pub or_else : Option ℕ → Option ℕ → Option ℕ
or_else (Some r) m = Some r
or_else None m = m

else_nowhere : (m : Option ℕ) → or_else m None ≡ m
else_nowhere (Some r) = refl
else_nowhere None = refl

-- lists of what is seen
first_append : (i : ℕ) (a b : List Bool) → first_true i (a ++ b) ≡ or_else (first_true i a) (first_true (i + length a) b)
unfolding first_true
first_append i [] b = rw (add-zero i)
first_append i (true ∷ ms) b = refl
first_append i (false ∷ ms) b =
    let e : i + 1 + length ms ≡ i + suc (length ms) = omega arith in
    rw (← e) (first_append (i + 1) ms b)

first_passed_over : (i : ℕ) (a : List Bool) → first_true i (passed_over a) ≡ None
unfolding first_true passed_over
first_passed_over i [] = refl
first_passed_over i (m ∷ ms) = first_passed_over (i + 1) ms

passed_over_length : (a : List Bool) → length (passed_over a) ≡ length a
unfolding passed_over
passed_over_length [] = refl
passed_over_length (m ∷ ms) = ap suc (passed_over_length ms)

order_append : (a b : List (List Bool)) → in_row_order (a ++ b) ≡ in_row_order a ++ in_row_order b
unfolding in_row_order
order_append [] b = refl
order_append (m ∷ ms) b = rw (order_append ms b) (sym (append_assoc m (in_row_order ms) (in_row_order b)))

without_iff_length : (ms : List (List Bool)) → length (without_iff ms) ≡ length (in_row_order ms)
unfolding in_row_order passed_over
without_iff_length [] = refl
without_iff_length (m ∷ ms) = length-append m (passed_over (in_row_order ms)) ∙ rw (passed_over_length (in_row_order ms)) (sym (length-append m (in_row_order ms)))

-- the rows below an event whose iff is left out, and the rows s from row e on: the first mention is in the event's
-- expression, or in s
event_first : (i e : ℕ) (ms : List (List Bool)) (s : List Bool) → i + length (in_row_order ms) ≡ e → first_true i (without_iff ms ++ s) ≡ or_else (first_true i (nth [] 0 ms)) (first_true e s)
event_first i e ms s q =
    let v : i + length (without_iff ms) ≡ e = ap (λ n. i + n) (without_iff_length ms) ∙ q in
    first_append i (without_iff ms) s
    ∙ rw (v, first_append i (nth [] 0 ms) (passed_over (in_row_order (tail ms))), first_passed_over (i + length (nth [] 0 ms)) (in_row_order (tail ms)), else_nowhere (first_true i (nth [] 0 ms)))

cond_length : (b : Bool) (l m : List Bool) → length l ≡ length m → length (cond b l m) ≡ length m
cond_length true l m e = e
cond_length false l m e = refl

module _ (iff : Iff) (x : ℕ) where
  -- the rows of a range: none; the first one with what it holds, then those after it; in row order
  seen_none : (rows : List ℕ) (from to : ℕ) → to ≤ from → seen iff x (tree rows from to) ≡ []
  unfolding seen in_row_order
  seen_none rows from to h = rw (fold_none (seen_at iff x) rows from to h)

  seen_some : {rows : List ℕ} {from to : ℕ}
      → Nested rows from to
      → from < to
      → seen iff x (tree rows from to)
      ≡ mentions_at x rows from
      ∷ (seen_below iff (expr_class (kind_at rows from)) (fold (seen_at iff x) (tree rows (from + 1) (end_at rows from))) ++ seen iff x (tree rows (end_at rows from) to))
  unfolding seen in_row_order seen_at
  seen_some g h = rw (fold_some (seen_at iff x) g h)

  seen_after : {rows : List ℕ} {from to : ℕ} → Nested rows from to → from < to → seen iff x (tree rows (from + 1) to) ≡ seen iff x (tree rows (from + 1) (end_at rows from)) ++ seen iff x (tree rows (end_at rows from) to)
  unfolding seen
  seen_after {rows} {from} {to} g h =
      rw (fold_after (seen_at iff x) g h)
      (order_append (fold (seen_at iff x) (tree rows (from + 1) (end_at rows from))) (fold (seen_at iff x) (tree rows (end_at rows from) to)))

  -- the first of the siblings, as the rows of a range
  seen_first : {rows : List ℕ} {from to n : ℕ} → Nested rows from to → n ≡ next_of rows from to → nth [] 0 (fold (seen_at iff x) (tree rows from to)) ≡ seen iff x (tree rows from n)
  unfolding seen in_row_order
  seen_first {rows} {from} {to} {n} g e = go (ltb from to) refl
    where
      go : (b : Bool) → ltb from to ≡ b → nth [] 0 (fold (seen_at iff x) (tree rows from to)) ≡ seen iff x (tree rows from n)
      go true q =
          let v : n ≡ end_at rows from = e ∙ rw q in
          let h : from < to = ltb-true from to q in
          rw (v, fold_some (seen_at iff x) (alone g h) (ends_after g h), fold_none (seen_at iff x) rows (end_at rows from) (end_at rows from) (omega arith), fold_some (seen_at iff x) g h, append-nil)
      go false q =
          let v : n ≡ to = e ∙ rw q in
          let h : to ≤ from = ltb-false from to q in
          rw (v, fold_none (seen_at iff x) rows from to h)

  below_length : (k : ExprClass) (ms : List (List Bool)) → length (seen_below iff k ms) ≡ length (in_row_order ms)
  unfolding seen_below
  below_length k ms = cond_length (skips_iff iff k) (without_iff ms) (in_row_order ms) (without_iff_length ms)

  length_by : (n : ℕ) {rows : List ℕ} {from to : ℕ} → to - from ≤ n → Nested rows from to → length (seen iff x (tree rows from to)) ≡ to - from
  unfolding seen
  length_by zero {rows} {from} {to} b g = ap length (seen_none rows from to (omega arith)) ∙ omega arith
  length_by (suc n) {rows} {from} {to} b g =
      go (ltb from to) refl
      (λ h. length_by n (omega (arith, ends_within g h)) (children g h))
      (λ h. length_by n (omega (arith, ends_after g h)) (others g h))
    where
      k : ExprClass
      k = expr_class (kind_at rows from)

      ms : List (List Bool)
      ms = fold (seen_at iff x) (tree rows (from + 1) (end_at rows from))

      go : (t : Bool)
          → ltb from to ≡ t
          → (from < to → length (seen iff x (tree rows (from + 1) (end_at rows from))) ≡ end_at rows from - (from + 1))
          → (from < to → length (seen iff x (tree rows (end_at rows from) to)) ≡ to - end_at rows from)
          → length (seen iff x (tree rows from to)) ≡ to - from
      go true q a c =
          let h : from < to = ltb-true from to q in
          ap length (seen_some g h) ∙ rw (length-append (seen_below iff k ms) (seen iff x (tree rows (end_at rows from) to)), below_length k ms, a h, c h) (omega (arith, ends_after g h, ends_within g h))
      go false q a c = ap length (seen_none rows from to (ltb-false from to q)) ∙ omega (arith, ltb-false from to q)

  -- something is seen, or not, of each row of a range
  pub seen_length : {rows : List ℕ} {from to : ℕ} → Nested rows from to → length (seen iff x (tree rows from to)) ≡ to - from
  seen_length {from = from} {to = to} g = length_by (to - from) (omega arith) g

  -- an empty range
  pub mention_none : (rows : List ℕ) (from to : ℕ) → to ≤ from → mention_in iff x rows from to ≡ None
  unfolding mention_in first_true
  mention_none rows from to h = rw (seen_none rows from to h)

  module _ {rows : List ℕ} {from to : ℕ} (g : Nested rows from to) (h : from < to) where
    -- a mention
    pub mention_here : mentions_at x rows from ≡ true → mention_in iff x rows from to ≡ Some from
    unfolding mention_in first_true
    mention_here m = rw (seen_some g h, m)

    module _ (m : mentions_at x rows from ≡ false) where
      -- a row that is neither that nor a passed event: every row after it
      pub mention_row : skips_iff iff (expr_class (kind_at rows from)) ≡ false → mention_in iff x rows from to ≡ mention_in iff x rows (from + 1) to
      unfolding mention_in first_true seen_below seen
      mention_row p = ap (first_true from) (seen_some g h) ∙ rw (m, p, seen_after g h)

      -- a passed event: its expression, and then the rows after the event
      pub mention_event : {n : ℕ} → skips_iff iff (expr_class (kind_at rows from)) ≡ true
          → n ≡ next_of rows (from + 1) (end_at rows from)
          → mention_in iff x rows from to ≡ or_else (mention_in iff x rows (from + 1) n) (mention_in iff x rows (end_at rows from) to)
      unfolding mention_in first_true seen_below seen
      mention_event {n} p q =
          let ms : List (List Bool) = fold (seen_at iff x) (tree rows (from + 1) (end_at rows from)) in
          let l : from + 1 + length (in_row_order ms) ≡ end_at rows from = ap (λ j. from + 1 + j) (seen_length (children g h)) ∙ omega (arith, ends_after g h) in
          ap (first_true from) (seen_some g h)
          ∙ rw (m, p, event_first (from + 1) (end_at rows from) ms (seen iff x (tree rows (end_at rows from) to)) l, seen_first (children g h) q)

-- a first mention is found exactly where the reference test says true
abbrev is_at : Option ℕ → Bool
is_at (Some r) = true
is_at None = false

first_some : (i : ℕ) (ms : List Bool) → is_at (first_true i ms) ≡ some ms
unfolding first_true some
first_some i [] = refl
first_some i (true ∷ ms) = refl
first_some i (false ∷ ms) = first_some (i + 1) ms

not_at : (m : Option ℕ) → is_at m ≡ false → m ≡ None
not_at (Some r) e = true_not_false e
not_at None e = refl

module _ (iff : Iff) (x : ℕ) (rows : List ℕ) (from to : ℕ) where
  at_refers : is_at (mention_in iff x rows from to) ≡ refers iff x (tree rows from to)
  unfolding mention_in refers
  at_refers = first_some from (seen iff x (tree rows from to))

  pub found_refers : (r : ℕ) → mention_in iff x rows from to ≡ Some r → refers iff x (tree rows from to) ≡ true
  found_refers r e = sym at_refers ∙ rw e

  pub nowhere_refers : mention_in iff x rows from to ≡ None → refers iff x (tree rows from to) ≡ false
  nowhere_refers e = sym at_refers ∙ rw e

  pub refers_nowhere : refers iff x (tree rows from to) ≡ false → mention_in iff x rows from to ≡ None
  refers_nowhere e = not_at (mention_in iff x rows from to) (at_refers ∙ e)

-- the answer's row is a mention
else_place : (a b : Option ℕ) (r : ℕ) → or_else a b ≡ Some r → (a ≡ Some r) ⊎ (b ≡ Some r)
else_place (Some s) b r e = inl e
else_place None b r e = inr e

wider : {x : ℕ} {rows : List ℕ} {a b r : ℕ} (from to : ℕ) → MentionAt x rows a b r → from ≤ a → b ≤ to → MentionAt x rows from to r
wider from to m p q = record { after = omega arith; within = omega arith; is = m.is }

-- the rows after a row
pub next_nested : {rows : List ℕ} {from to : ℕ} → Nested rows from to → from < to → Nested rows (from + 1) to
next_nested {from = from} g h = later g (from + 1) (omega arith) (omega arith)

next_told : {rows : List ℕ} {from to : ℕ} → Nested rows from to → NextRow rows from to (next_of rows from to)
next_told {rows} {from} {to} g = go (ltb from to) refl
  where
    go : (b : Bool) → ltb from to ≡ b → NextRow rows from to (next_of rows from to)
    go true q = next_row g (ltb-true from to q) (rw q)
    go false q = next_none g (ltb-false from to q) (rw q)

-- the answer, where it is a row's number, is that of a mention
abbrev Placed : Iff → ℕ → List ℕ → ℕ → ℕ → Type 0
Placed iff x rows from to = (r : ℕ) → mention_in iff x rows from to ≡ Some r → MentionAt x rows from to r

module _ (iff : Iff) (x : ℕ) {rows : List ℕ} {from to : ℕ} (g : Nested rows from to) where
  place_none : to ≤ from → Placed iff x rows from to
  place_none h r e =
      let v : mention_in iff x rows from to ≡ None = mention_none iff x rows from to h in
      let z : ◌≡◌ {A = ℕ} 0 1 = cc in
      absurd (omega arith)

  module _ (h : from < to) where
    place_step : ((a b : ℕ) → from < a → b ≤ to → Nested rows a b → Placed iff x rows a b) → Placed iff x rows from to
    place_step ih r e = go (mentions_at x rows from) (skips_iff iff (expr_class (kind_at rows from))) refl refl
      where
        next : ℕ
        next = next_of rows (from + 1) (end_at rows from)

        go : (b c : Bool) → mentions_at x rows from ≡ b → skips_iff iff (expr_class (kind_at rows from)) ≡ c → MentionAt x rows from to r
        go true c m p =
            let v : from ≡ r = cc (mention_here iff x g h m) in
            rw (← v) (record { after = omega arith; within = omega arith; is = m })
        go false false m p = wider from to (ih (from + 1) to (omega arith) (omega arith) (next_nested g h) r (sym (mention_row iff x g h m p) ∙ e)) (omega arith) (omega arith)
        go false true m p =
            let t : NextRow rows (from + 1) (end_at rows from) next = next_told (children g h) in
            ⊎_elim
            (λ f. wider from to (ih (from + 1) next (omega arith) (omega (arith, ends_within g h)) t.alone r f) (omega arith) (omega (arith, ends_within g h)))
            (λ f. wider from to (ih (end_at rows from) to (ends_after g h) (omega arith) (others g h) r f) (omega (arith, ends_after g h)) (omega arith))
            (else_place (mention_in iff x rows (from + 1) next) (mention_in iff x rows (end_at rows from) to) r (sym (mention_event iff x g h m p t.is) ∙ e))

place_by : (n : ℕ) (iff : Iff) (x : ℕ) {rows : List ℕ} {from to : ℕ} → to - from ≤ n → Nested rows from to → Placed iff x rows from to
place_by zero iff x b g = place_none iff x g (omega arith)
place_by (suc n) iff x {rows} {from} {to} b g = go (ltb from to) refl (λ c d p q. place_by n iff x (omega arith))
  where
    go : (t : Bool) → ltb from to ≡ t → ((a b : ℕ) → from < a → b ≤ to → Nested rows a b → Placed iff x rows a b) → Placed iff x rows from to
    go true q ih = place_step iff x g (ltb-true from to q) ih
    go false q ih = place_none iff x g (ltb-false from to q)

-- in the list, the answer's row says true, and none before it does
first_true_lem : (i r : ℕ) (ms : List Bool) → first_true i ms ≡ Some r → (i ≤ r) × (nth false (r - i) ms ≡ true)
unfolding first_true
first_true_lem i r [] e = let z : ◌≡◌ {A = ℕ} 0 1 = cc in absurd (omega arith)
first_true_lem i r (true ∷ ms) e =
    let v : i ≡ r = cc in
    (omega arith, rw (← v, sub_self i))
first_true_lem i r (false ∷ ms) e =
    let h = first_true_lem (i + 1) r ms e in
    let v : r - i ≡ suc (r - (i + 1)) = omega (arith, h.0) in
    (omega (arith, h.0), rw v h.1)

first_before : (i r j : ℕ) (ms : List Bool) → first_true i ms ≡ Some r → i ≤ j → j < r → nth false (j - i) ms ≡ false
unfolding first_true
first_before i r j [] e a b = let z : ◌≡◌ {A = ℕ} 0 1 = cc in absurd (omega arith)
first_before i r j (true ∷ ms) e a b = let v : i ≡ r = cc in absurd (omega arith)
first_before i r j (false ∷ ms) e a b = go (ltb i j) refl (λ l. first_before (i + 1) r j ms e l b)
  where
    go : (t : Bool) → ltb i j ≡ t → (i + 1 ≤ j → nth false (j - (i + 1)) ms ≡ false) → nth false (j - i) (false ∷ ms) ≡ false
    go true q later =
        let l : i < j = ltb-true i j q in
        let v : j - i ≡ suc (j - (i + 1)) = omega arith in
        rw v (later (omega arith))
    go false q later =
        let l : j ≤ i = ltb-false i j q in
        let v : j - i ≡ 0 = omega arith in
        rw v

-- what the equation of `first_mention` means
pub mention_told : {iff : Iff} {x : ℕ} {rows : List ℕ} {from to : ℕ} {m : Option ℕ} → Nested rows from to → m ≡ mention_in iff x rows from to → MentionTold iff x rows from to m
unfolding mention_in
mention_told {iff} {x} {rows} {from} {to} g e = record {
  place = λ r p. place_by (to - from) iff x (omega arith) g r (sym e ∙ p);
  looked_at = λ r p. (first_true_lem from r (seen iff x (tree rows from to)) (sym e ∙ p)).1;
  first = λ r i p. first_before from r i (seen iff x (tree rows from to)) (sym e ∙ p);
  found = λ r p. found_refers iff x rows from to r (sym e ∙ p);
  nowhere = λ p. nowhere_refers iff x rows from to (sym e ∙ p);
}
