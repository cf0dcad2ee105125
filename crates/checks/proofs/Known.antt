-- What is known of the rows' children, where the ends of the whole table nest: of each open row the items that are left for its children still to
-- come; of each other row that was seen that its children fit, or that a row up to it is found whose do not. It stays known from step to step.
use Prim.Native.Nat.{ℕ, min, zero, suc, ◌+◌, ◌≤◌, ◌<◌}
use mathlib.Core.Path.{◌≡◌, refl, sym, ◌∙◌}
use mathlib.Core.Bool.{Bool, true, false}
use mathlib.Core.List.{List, ◌∷◌}
use mathlib.Core.Logic.{⊎_elim}
use native.Mathlib.Omega.{arith}
use native.Mathlib.Nat.{eq-or-lt_of_le, le_of_suc-le-suc}
use native.Mathlib.Numerals.{add-one}
use lib.ListN.{length, get_or, set}
use lib.Seq.{get_or-set_same, get_or-set_other}
use lib.Dec.{ltb}
use borrow.Author.Tests.{ltb-true, ltb-false}
use Rattle.table.specs.Rows.{kind_at, end_at, tree, Nested}
use Rattle.table.proofs.Ranges as ranges
use Rattle.table.proofs.Fold.{fold_none, fold_some}
use Rattle.kinds.specs.Kinds.{entry}
use Rattle.kinds.specs.Steps.{items_number}
use Rattle.kinds.proofs.Steps.{Left}
use Rattle.checks.specs.Checks.{kind_alone, kinds_of, children_fit}
use Rattle.checks.specs.Steps.{Settles, whole, missing, Took, taken, unfit, Closes, stays, closes}

-- the children of an open row against its items: a row up to it is found already; or its children from row p on fit the items left exactly
-- where all of them fit its kind
pub data Fit (rows : List ℕ) (first own left end p : ℕ) : Type 0 where
  found : first ≤ own → Fit rows first own left end p
  so_far : Left left (kinds_of (tree rows p end)) (children_fit rows own) → Fit rows first own left end p

-- an open row: the children before row p are taken, and p is not past its end
pub record OpenRow (rows : List ℕ) (first own left end p : ℕ) : Type 0 where
  pub is : end ≡ end_at rows own
  pub after : own < p
  pub upto : p ≤ end
  pub fit : Fit rows first own left end p

-- the first n rows that are kept are open: of the last the children before row p are taken, of each other those before the end of the next
unfoldable pub Opens : List ℕ → ℕ → List ℕ → List ℕ → List ℕ → ℕ → ℕ → Type 0
Opens rows first ends left own zero p = Unit {0}
Opens rows first ends left own (suc n) p = OpenRow rows first (get_or own n 0) (get_or left n 0) (get_or ends n 0) p × Opens rows first ends left own n (get_or ends n 0)

-- a row that was seen: it is open, or its children fit, or a row up to it is found
pub data Seen (rows : List ℕ) (first : ℕ) (own : List ℕ) (depth i : ℕ) : Type 0 where
  still : (j : ℕ) → j < depth → get_or own j 0 ≡ i → Seen rows first own depth i
  right : children_fit rows i ≡ true → Seen rows first own depth i
  later : first ≤ i → Seen rows first own depth i

-- the rows below `row` were seen, of which `depth` are open; `first` is the first found, or where the search started
pub record Known (rows : List ℕ) (start : ℕ) (ends left own : List ℕ) (depth row p first : ℕ) : Type 0 where
  pub low : first ≤ start
  pub refused : first < start → children_fit rows first ≡ false
  pub opens : Opens rows first ends left own depth p
  pub seen : (i : ℕ) → i < row → Seen rows first own depth i

-- r is the first row found now, where it was `first`
record Noted (rows : List ℕ) (first r : ℕ) : Type 0 where
  low : r ≤ first
  refused : r < first → children_fit rows r ≡ false

noted_same : (rows : List ℕ) (first r : ℕ) → r ≡ first → Noted rows first r
noted_same rows first r e = record { low = omega arith; refused = λ h. absurd (omega arith) }

least_low : (a b : ℕ) → min a b ≤ a
least_low a b = omega arith

noted_least : (rows : List ℕ) (first own r : ℕ) → r ≡ min own first → (own < first → children_fit rows own ≡ false) → Noted rows first r
noted_least rows first own r e t = go (ltb own first) refl
  where
    go : (x : Bool) → ltb own first ≡ x → Noted rows first r
    go true q = let l : own < first = ltb-true own first q in let z : r ≡ own = omega arith in record { low = omega arith; refused = λ h. rw z (t l) }
    go false q = let l : first ≤ own = ltb-false own first q in noted_same rows first r (omega arith)

still_refused : {rows : List ℕ} {first r start : ℕ} → Noted rows first r → (first < start → children_fit rows first ≡ false) → r < start → children_fit rows r ≡ false
still_refused n t h = ⊎_elim (λ e. rw e (t (omega arith))) (λ l. n.refused l) (eq-or-lt_of_le n.low)

-- a smaller first row keeps what was known
module _ (rows : List ℕ) (first r : ℕ) (h : r ≤ first) where
  fit_less : {own left end p : ℕ} → Fit rows first own left end p → Fit rows r own left end p
  fit_less (found l) = found (omega arith)
  fit_less (so_far l) = so_far l

  open_less : {own left end p : ℕ} → OpenRow rows first own left end p → OpenRow rows r own left end p
  open_less o = record { is = o.is; after = o.after; upto = o.upto; fit = fit_less o.fit }

  seen_less : {own : List ℕ} {depth i : ℕ} → Seen rows first own depth i → Seen rows r own depth i
  seen_less (still j l e) = still j l e
  seen_less (right e) = right e
  seen_less (later l) = later (omega arith)

  -- and so do other numbers where no row is open
  opens_less : (ends left own ends' left' own' : List ℕ) (n p : ℕ)
      → ((j : ℕ) → j < n → get_or ends' j 0 ≡ get_or ends j 0)
      → ((j : ℕ) → j < n → get_or left' j 0 ≡ get_or left j 0)
      → ((j : ℕ) → j < n → get_or own' j 0 ≡ get_or own j 0)
      → Opens rows first ends left own n p
      → Opens rows r ends' left' own' n p
  unfolding Opens
  opens_less ends left own ends' left' own' zero p a b c o = tt
  opens_less ends left own ends' left' own' (suc n) p a b c o =
      rw (a n (omega arith), b n (omega arith), c n (omega arith))
      (open_less o.0, opens_less ends left own ends' left' own' n (get_or ends n 0) (λ j l. a j (omega arith)) (λ j l. b j (omega arith)) (λ j l. c j (omega arith)) o.1)

-- row `own` has no more children: its verdict
record Verdict (rows : List ℕ) (first own r : ℕ) : Type 0 where
  noted : Noted rows first r
  seen : (at : List ℕ) (depth : ℕ) → Seen rows r at depth own

verdict : (rows : List ℕ) (first own left end p r : ℕ) → end ≤ p → Fit rows first own left end p → Settles left own first r → Verdict rows first own r
verdict rows first own left end p r h (found l) (whole e t) = record { noted = noted_same rows first r e; seen = λ at depth. later (omega arith) }
verdict rows first own left end p r h (found l) (missing e t) = record { noted = noted_least rows first own r e (λ q. absurd (omega arith)); seen = λ at depth. later (omega (arith, least_low own first)) }
verdict rows first own left end p r h (so_far l) (whole e t) = record { noted = noted_same rows first r e; seen = λ at depth. right (sym (t _ (rw (fold_none kind_alone rows p end h) at l))) }
verdict rows first own left end p r h (so_far l) (missing e t) =
    record { noted = noted_least rows first own r e (λ q. sym (t _ (rw (fold_none kind_alone rows p end h) at l))); seen = λ at depth. later (omega (arith, least_low own first)) }

-- the last open row ends, and is closed
close_last : (rows : List ℕ) (start : ℕ) (ends left own : List ℕ) (d row p first r : ℕ)
    → Known rows start ends left own (suc d) row p first
    → get_or ends d 0 ≤ p
    → Settles (get_or left d 0) (get_or own d 0) first r
    → Known rows start ends left own d row p r
unfolding Opens
close_last rows start ends left own d row p first r w h s =
    let o = w.opens.0 in
    let v = verdict rows first (get_or own d 0) (get_or left d 0) (get_or ends d 0) p r h o.fit s in
    let z : get_or ends d 0 ≡ p = omega (arith, o.upto) in
    record {
      low = omega (arith, v.noted.low, w.low);
      refused = still_refused v.noted w.refused;
      opens = opens_less rows first r v.noted.low ends left own ends left own d p (λ j l. refl) (λ j l. refl) (λ j l. refl) (rw z at w.opens.1);
      seen = λ i l. go i v (w.seen i l);
    }
  where
    go : (i : ℕ) → Verdict rows first (get_or own d 0) r → Seen rows first own (suc d) i → Seen rows r own d i
    go i v (right e) = right e
    go i v (later l) = later (omega (arith, v.noted.low))
    go i v (still j l e) = ⊎_elim (λ (z : j ≡ d). rw (← e, z) (v.seen own d)) (λ k. still j k e) (eq-or-lt_of_le (le_of_suc-le-suc l))

-- and so are all that end by row p
pub close_known : (rows : List ℕ) (start : ℕ) (ends left own : List ℕ) (row p depth first d f : ℕ)
    → Closes ends left own p depth first d f
    → Known rows start ends left own depth row p first
    → Known rows start ends left own d row p f
close_known rows start ends left own row p depth first d f (stays a) w = w
close_known rows start ends left own row p (suc depth) first d f (closes {found = r} a s c) w =
    close_known rows start ends left own row p depth r d f c (close_last rows start ends left own depth row p first r w a s)

-- the kinds of the siblings from a row on: its own, then the others'
kinds_some : {rows : List ℕ} {from to : ℕ} → Nested rows from to → from < to → kinds_of (tree rows from to) ≡ kind_at rows from ∷ kinds_of (tree rows (end_at rows from) to)
unfolding kind_alone
kinds_some g h = fold_some kind_alone g h

-- row `row` is a child of an open row
record FitTaken (rows : List ℕ) (first own items end p r : ℕ) : Type 0 where
  noted : Noted rows first r
  fit : Fit rows r own items end p

fit_taken : (rows : List ℕ) (first own left end row items r : ℕ)
    → Nested rows row end
    → row < end
    → Fit rows first own left end row
    → Took left (kind_at rows row) own first items r
    → FitTaken rows first own items end (end_at rows row) r
fit_taken rows first own left end row items r g h (found l) (taken e t) = record { noted = noted_same rows first r e; fit = found (omega arith) }
fit_taken rows first own left end row items r g h (found l) (unfit e t) = record { noted = noted_least rows first own r e (λ q. absurd (omega arith)); fit = found (omega (arith, least_low own first)) }
fit_taken rows first own left end row items r g h (so_far l) (taken e t) = record { noted = noted_same rows first r e; fit = so_far (t _ _ (rw (kinds_some g h) at l)) }
fit_taken rows first own left end row items r g h (so_far l) (unfit e t) =
    record { noted = noted_least rows first own r e (λ q. sym (t _ _ (rw (kinds_some g h) at l))); fit = found (omega (arith, least_low own first)) }

-- the last open row takes it
pub take_known : (rows : List ℕ) (count start : ℕ) (ends left own after : List ℕ) (n row first items r : ℕ)
    → Nested rows 0 count
    → row < count
    → row < get_or ends n 0
    → n < length left
    → after ≡ set left n items
    → Took (get_or left n 0) (kind_at rows row) (get_or own n 0) first items r
    → Known rows start ends left own (suc n) row row first
    → Known rows start ends after own (suc n) row (end_at rows row) r
unfolding Opens
take_known rows count start ends left own after n row first items r g b l s q t w =
    let o = w.opens.0 in
    let parent = ranges.later g (get_or own n 0) (omega arith) (omega (arith, o.after)) in
    let inside : Nested rows (get_or own n 0 + 1) (get_or ends n 0) = rw o.is (ranges.children parent (omega (arith, o.after))) in
    let f = fit_taken rows first (get_or own n 0) (get_or left n 0) (get_or ends n 0) row items r (ranges.later inside row (omega (arith, o.after)) o.upto) l o.fit t in
    let here : get_or after n 0 ≡ items = rw q (get_or-set_same left n items 0 s) in
    record {
      low = omega (arith, f.noted.low, w.low);
      refused = still_refused f.noted w.refused;
      opens = (
        record {
          is = o.is;
          after = omega (arith, o.after, g.after row (omega arith) b);
          upto = omega (arith, o.is, g.nests (get_or own n 0) row (omega arith) (omega (arith, o.after)) o.after (omega (arith, o.is)));
          fit = rw here f.fit;
        },
        opens_less rows first r f.noted.low ends left own ends after own n (get_or ends n 0) (λ j h. refl) (λ j h. rw q (get_or-set_other left n j items 0 (λ z. omega arith))) (λ j h. refl) w.opens.1,
      );
      seen = λ i h. seen_less rows first r f.noted.low (w.seen i h);
    }

-- no child of a row is taken yet
fit_new : (rows : List ℕ) (row items first end : ℕ) → end ≡ end_at rows row → items ≡ items_number (entry (kind_at rows row)).children → Fit rows first row items end (row + 1)
fit_new rows row items first end e q = so_far (record { items = (entry (kind_at rows row)).children; number = q; same = rw e })

-- it is opened
pub open_known : (rows : List ℕ) (start : ℕ) (ends left own : List ℕ) (d row first items end : ℕ)
    → row + 1 ≤ end
    → d < length ends
    → d < length left
    → d < length own
    → end ≡ end_at rows row
    → items ≡ items_number (entry (kind_at rows row)).children
    → Known rows start ends left own d row (end_at rows row) first
    → Known rows start (set ends d end) (set left d items) (set own d row) (d + 1) (row + 1) (row + 1) first
unfolding Opens
open_known rows start ends left own d row first items end l s1 s2 s3 e f w =
    record {
      low = w.low;
      refused = w.refused;
      opens = rw (add-one d, get_or-set_same ends d end 0 s1, get_or-set_same left d items 0 s2, get_or-set_same own d row 0 s3) (
        record { is = e; after = omega arith; upto = l; fit = fit_new rows row items first end e f },
        opens_less rows first first (omega arith) ends left own (set ends d end) (set left d items) (set own d row) d end
            (λ j h. get_or-set_other ends d j end 0 (λ z. omega arith))
            (λ j h. get_or-set_other left d j items 0 (λ z. omega arith))
            (λ j h. get_or-set_other own d j row 0 (λ z. omega arith))
            (rw (← e) at w.opens),
      );
      seen = λ i h. ⊎_elim (λ (z : i ≡ row). still d (omega arith) (rw z (get_or-set_same own d row 0 s3))) (λ k. go i (w.seen i k)) (eq-or-lt_of_le (before i h));
    }
  where
    before : (i : ℕ) → i < row + 1 → i ≤ row
    before i h = omega arith

    go : (i : ℕ) → Seen rows first own d i → Seen rows first (set own d row) (d + 1) i
    go i (right q) = right q
    go i (later q) = later q
    go i (still j h q) = still j (omega arith) (get_or-set_other own d j row 0 (λ z. omega arith) ∙ q)

-- or it holds no rows
pub leaf_known : (rows : List ℕ) (start : ℕ) (ends left own : List ℕ) (d row first items end r : ℕ)
    → row < end
    → end ≤ row + 1
    → end ≡ end_at rows row
    → items ≡ items_number (entry (kind_at rows row)).children
    → Settles items row first r
    → Known rows start ends left own d row (end_at rows row) first
    → Known rows start ends left own d (row + 1) (row + 1) r
leaf_known rows start ends left own d row first items end r l h e f s w =
    let v = verdict rows first row items end (row + 1) r h (fit_new rows row items first end e f) s in
    let z : end_at rows row ≡ row + 1 = omega arith in
    record {
      low = omega (arith, v.noted.low, w.low);
      refused = still_refused v.noted w.refused;
      opens = opens_less rows first r v.noted.low ends left own ends left own d (row + 1) (λ j k. refl) (λ j k. refl) (λ j k. refl) (rw z at w.opens);
      seen = λ i a. ⊎_elim (λ (q : i ≡ row). rw q (v.seen own d)) (λ b. seen_less rows first r v.noted.low (w.seen i b)) (eq-or-lt_of_le (before i a));
    }
  where
    before : (i : ℕ) → i < row + 1 → i ≤ row
    before i a = omega arith
