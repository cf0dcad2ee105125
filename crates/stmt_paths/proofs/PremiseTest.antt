-- What the computed test of the premises means: a row passes exactly where its premises hold in the words of demand 3, and the answer is
-- the first row that does not. By cases over the kind of a row, then by induction over the list of rows.
use mathlib.Core.Path.{◌≡◌, refl, sym, ◌∙◌}
use mathlib.Core.Logic.{◌⊎◌, inl, inr, ⊎_elim}
use mathlib.Core.Bool.{Bool, true, false, cond, ◌&&◌, ◌||◌, not}
use mathlib.Core.List.{List, [], ◌∷◌, map}
use Prim.Native.Nat.{ℕ, zero, suc, ◌+◌, ◌<◌}
use Prim.Native.String.{String}
use native.Mathlib.Omega.{arith}
use lib.Dec.{eqb}
use borrow.Author.Tests.{eqb-true, ne_eqb, eqb-false, not-true}
use Rattle.table.specs.Rows.{Forest, rest}
use Rattle.table.specs.Fold.{Alg, fold, nth, Pairwise, no_pair, pair}
use Rattle.table.proofs.Fold.{fold_related}
use Rattle.kinds.specs.Kinds.{kinds}
use Rattle.kinds.specs.Words.{same, place_from, kind_of}
use Rattle.kinds.specs.declared.ExprClass.{ExprClass}
use Rattle.kinds.specs.declared.ExprClass.TheVariants.{Ident, Call, Lident, Opaque, Unary, Binary, Ternary, Paren, Other}
use Rattle.kinds.specs.Named.{kind_number, numbered, expr_class}
use Rattle.kinds.proofs.Below.{both_true, true_not_false}
use Rattle.reads.specs.declared.Iff.TheVariants.{Included}
use Rattle.reads.specs.PathRows.{is_loop_jump}
use Rattle.reads.specs.Mentions.{role_of, has_iff, refers}
use Rattle.reads.specs.Iffs.{iff_here, every, iff_at, iff_quiet}
use Rattle.paths.specs.Each.{Each}
use Rattle.paths.proofs.Listed.{each_parts}
use Rattle.stmt_paths.specs.Premises.{Place, PlacedRow, child_place, placed_below, placed_at, placed_together, placed_rows, in_loop_body, in_init_or_step, refers_each, plain_each, nonblocking_holds, nonblocking_here, nonblocking_quiet_at, nonblocking_quiet, row_holds, nowhere, at_row, first_false, first_failing, no_row, nth_row, IsA, RowPremises, Premises}

-- One row

-- "such disable, decl, nonblocking or event row": the rows that have a premise (document 02, Paper 6)
pub data HasPremise (r : PlacedRow) : Type 0 where
  is_disable : IsA "disable" r → HasPremise r
  is_decl : IsA "decl" r → HasPremise r
  is_nonblocking : IsA "nonblocking" r → HasPremise r
  is_event : IsA "event" r → HasPremise r

-- the two forms of "is the plain local or doesn't refer to it"
pub either_or : (p q : Bool) → p || not q ≡ true → (p ≡ true) ⊎ (q ≡ false)
either_or true q e = inl refl
either_or false true e = true_not_false (sym e)
either_or false false e = inr refl

or_either : (p q : Bool) → (p ≡ true) ⊎ (q ≡ false) → p || not q ≡ true
or_either true q h = refl
or_either false true (inl e) = e
or_either false true (inr e) = sym e
or_either false false h = refl

module _ (x : ℕ) (marks : ℕ → Bool) (r : PlacedRow) where
  -- of child number n
  abbrev child_refers : ℕ → Bool
  child_refers n = nth false n (refers_each x r.children)

  abbrev child_plain : ℕ → Bool
  child_plain n = nth false n (plain_each x r.children)

  -- the test of each kind that has a premise
  disable_test : IsA "disable" r → row_holds x marks r ≡ is_loop_jump marks r.children && (in_loop_body r.above && not (in_init_or_step r.above))
  unfolding row_holds numbered kind_number kind_of place_from kinds same
  disable_test e = rw e

  decl_test : IsA "decl" r → row_holds x marks r ≡ not (eqb r.side x)
  unfolding row_holds numbered kind_number kind_of place_from kinds same
  decl_test e = rw e

  nonblocking_test : IsA "nonblocking" r → row_holds x marks r ≡ nonblocking_holds (refers_each x r.children) (plain_each x r.children)
  unfolding row_holds numbered kind_number kind_of place_from kinds same
  nonblocking_test e = rw e

  event_test : IsA "event" r → row_holds x marks r ≡ not (refers Included x (rest r.children))
  unfolding row_holds numbered kind_number kind_of place_from kinds same
  event_test e = rw e

  -- every other row passes
  premise_or_passes : HasPremise r ⊎ (row_holds x marks r ≡ true)
  unfolding row_holds
  premise_or_passes = go (eqb r.kind (numbered "disable")) (eqb r.kind (numbered "decl")) (eqb r.kind (numbered "nonblocking")) (eqb r.kind (numbered "event")) refl refl refl refl
    where
      go : (a b c d : Bool)
          → eqb r.kind (numbered "disable") ≡ a
          → eqb r.kind (numbered "decl") ≡ b
          → eqb r.kind (numbered "nonblocking") ≡ c
          → eqb r.kind (numbered "event") ≡ d
          → HasPremise r ⊎ (row_holds x marks r ≡ true)
      go true b c d p q s t = inl (is_disable (eqb-true r.kind (numbered "disable") p))
      go false true c d p q s t = inl (is_decl (eqb-true r.kind (numbered "decl") q))
      go false false true d p q s t = inl (is_nonblocking (eqb-true r.kind (numbered "nonblocking") s))
      go false false false true p q s t = inl (is_event (eqb-true r.kind (numbered "event") t))
      go false false false false p q s t = inr (rw (p, q, s, t))

  -- a row passes exactly where its premises hold
  pub row_holds_lem : row_holds x marks r ≡ true → RowPremises x marks r
  row_holds_lem h = record {
    loop_jumps = λ e. (jump e).0;
    in_bodies = λ e. (jump e).1.0;
    no_init_or_step = λ e. not-true (in_init_or_step r.above) (jump e).1.1;
    declarations = λ e. eqb-false r.side x (not-true (eqb r.side x) (sym (decl_test e) ∙ h));
    delays = λ e. not-true (child_refers 0) (assigned e).0;
    intras = λ e. not-true (child_refers 1) (assigned e).1.0;
    targets = λ e. either_or (child_plain 2) (child_refers 2) (assigned e).1.1;
    iffs = λ e. not-true (refers Included x (rest r.children)) (sym (event_test e) ∙ h);
  }
    where
      three : (a b c : Bool) → a && (b && c) ≡ true → (a ≡ true) × ((b ≡ true) × (c ≡ true))
      three a b c e = let p = both_true a (b && c) e in (p.0, both_true b c p.1)

      jump : IsA "disable" r → (is_loop_jump marks r.children ≡ true) × ((in_loop_body r.above ≡ true) × (not (in_init_or_step r.above) ≡ true))
      jump e = three (is_loop_jump marks r.children) (in_loop_body r.above) (not (in_init_or_step r.above)) (sym (disable_test e) ∙ h)

      assigned : IsA "nonblocking" r
          → (not (child_refers 0) ≡ true)
          × ((not (child_refers 1) ≡ true) × (child_plain 2 || not (child_refers 2) ≡ true))
      assigned e =
          three (not (child_refers 0)) (not (child_refers 1))
          (child_plain 2 || not (child_refers 2)) (sym (nonblocking_test e) ∙ h)

  pub holds_row : RowPremises x marks r → row_holds x marks r ≡ true
  holds_row p = ⊎_elim premised (λ e. e) premise_or_passes
    where
      premised : HasPremise r → row_holds x marks r ≡ true
      premised (is_disable e) = disable_test e ∙ rw (p.loop_jumps e, p.in_bodies e, p.no_init_or_step e)
      premised (is_decl e) = decl_test e ∙ rw (ne_eqb r.side x (p.declarations e))
      premised (is_nonblocking e) =
          nonblocking_test e
          ∙ rw (p.delays e, p.intras e) (or_either (child_plain 2) (child_refers 2) (p.targets e))
      premised (is_event e) = event_test e ∙ rw (p.iffs e)

  -- a row that fails has a premise
  pub fails_premise : row_holds x marks r ≡ false → HasPremise r
  fails_premise e = ⊎_elim (λ p. p) (λ h. true_not_false (sym h ∙ e)) premise_or_passes

-- The first row that fails

-- what the answer r says of a list whose first row has number i: the row at this place fails, and none before it does
record FalseAt (i : ℕ) (bs : List Bool) (r : ℕ) : Type 0 where
  place : ℕ
  counted : r ≡ i + place
  fails : nth true place bs ≡ false
  before : (j : ℕ) → j < place → nth true j bs ≡ true

-- where none is given, all of the list are true, and the other way round
all_true : (i : ℕ) (bs : List Bool) → first_false i bs ≡ nowhere → (n : ℕ) → nth true n bs ≡ true
unfolding first_false
all_true i [] e n = refl
all_true i (true ∷ bs) e zero = refl
all_true i (true ∷ bs) e (suc n) = all_true (suc i) bs e n
all_true i (false ∷ bs) e n = let z : ◌≡◌ {A = ℕ} 0 1 = cc in absurd (omega arith)

true_nowhere : (i : ℕ) (bs : List Bool) → ((n : ℕ) → nth true n bs ≡ true) → first_false i bs ≡ nowhere
unfolding first_false
true_nowhere i [] h = refl
true_nowhere i (true ∷ bs) h = true_nowhere (suc i) bs (λ n. h (suc n))
true_nowhere i (false ∷ bs) h = true_not_false (sym (h 0))

one_later : {i r : ℕ} {bs : List Bool} → FalseAt (suc i) bs r → FalseAt i (true ∷ bs) r
one_later {i} {r} {bs} h = record { place = suc h.place; counted = omega (arith, h.counted); fails = h.fails; before = before }
  where
    before : (j : ℕ) → j < suc h.place → nth true j (true ∷ bs) ≡ true
    before zero l = refl
    before (suc j) l = h.before j (omega arith)

false_at : (i r : ℕ) (bs : List Bool) → first_false i bs ≡ at_row r → FalseAt i bs r
unfolding first_false
false_at i r [] e = let z : ◌≡◌ {A = ℕ} 0 1 = cc in absurd (omega arith)
false_at i r (true ∷ bs) e = one_later (false_at (suc i) r bs e)
false_at i r (false ∷ bs) e =
    let v : i ≡ r = cc in
    record { place = 0; counted = omega arith; fails = refl; before = λ j l. absurd (omega arith) }

-- the test of row n; what stands past the last row passes
nth_holds : (x : ℕ) (marks : ℕ → Bool) (rs : List PlacedRow) (n : ℕ) → nth true n (map (row_holds x marks) rs) ≡ row_holds x marks (nth no_row n rs)
unfolding row_holds numbered kind_number kind_of place_from kinds same
nth_holds x marks [] n = refl
nth_holds x marks (r ∷ rs) zero = refl
nth_holds x marks (r ∷ rs) (suc n) = nth_holds x marks rs n

module _ (x : ℕ) (marks : ℕ → Bool) (f : Forest) where
  -- no row is given exactly where the premises hold at all of them
  pub all_hold : first_failing x marks f ≡ nowhere → Premises x marks f
  unfolding first_failing
  all_hold e = record {
    row = λ n. row_holds_lem x marks (nth_row f n) (sym (nth_holds x marks (placed_rows f) n) ∙ all_true 0 (map (row_holds x marks) (placed_rows f)) e n);
  }

  pub hold_nowhere : Premises x marks f → first_failing x marks f ≡ nowhere
  unfolding first_failing
  hold_nowhere p =
      true_nowhere 0 (map (row_holds x marks) (placed_rows f)) (λ n. nth_holds x marks (placed_rows f) n ∙ holds_row x marks (nth_row f n) (p.row n))

  module _ (n : ℕ) (e : first_failing x marks f ≡ at_row n) where
    told : FalseAt 0 (map (row_holds x marks) (placed_rows f)) n
    unfolding first_failing
    told = false_at 0 n (map (row_holds x marks) (placed_rows f)) e

    fails_here : row_holds x marks (nth_row f n) ≡ false
    fails_here =
        let e : n ≡ told.place = omega (arith, told.counted) in
        sym (nth_holds x marks (placed_rows f) n) ∙ rw e told.fails

    -- at the row that is given a premise fails
    pub fails_at : RowPremises x marks (nth_row f n) → ⊥
    fails_at p = true_not_false (sym (holds_row x marks (nth_row f n) p) ∙ fails_here)

    -- it is one of the rows that have one
    pub fails_at_premise : HasPremise (nth_row f n)
    fails_at_premise = fails_premise x marks (nth_row f n) fails_here

    -- and it is the first
    pub holds_before : (i : ℕ) → i < n → RowPremises x marks (nth_row f i)
    holds_before i l =
        row_holds_lem x marks (nth_row f i) (sym (nth_holds x marks (placed_rows f) i) ∙ told.before i (omega (arith, told.counted)))

-- The premise on iff

-- a class of rows that have no iff, which every class is but that of an event
record NoIff (c : ExprClass) : Type 0 where
  is : has_iff (role_of c) ≡ false

no_iff_either : (b : Bool) (c : ExprClass) {d : ExprClass} → has_iff (role_of c) ≡ false → NoIff d → NoIff (cond b c d)
no_iff_either true c p q = record { is = p }
no_iff_either false c p q = q

-- the words of the classes, but for `event`
no_iff : (k : ℕ) → eqb k (numbered "event") ≡ false → NoIff (expr_class k)
unfolding expr_class
no_iff k e =
    rw e
    (no_iff_either (is "ident") Ident refl
    (no_iff_either (is "call") Call refl
    (no_iff_either (is "lident") Lident refl
    (no_iff_either (is "opaque") Opaque refl
    (no_iff_either (is "unary") Unary refl
    (no_iff_either (is "binary") Binary refl
    (no_iff_either (is "ternary") Ternary refl
    (no_iff_either (is "paren") Paren {d = Other} refl (record { is = refl })))))))))
  where
    is : String → Bool
    is word = eqb k (numbered word)

-- "and iff never refer to it", by the word `event` and by the class of it
iff_holds : (x : ℕ) (marks : ℕ → Bool) (r : PlacedRow) → RowPremises x marks r → iff_here x (expr_class r.kind) r.children ≡ true
unfolding iff_here
iff_holds x marks r p = go (eqb r.kind (numbered "event")) refl
  where
    unreferred : (b c : Bool) → c ≡ false → not (b && c) ≡ true
    unreferred true c e = rw e
    unreferred false c e = refl

    go : (b : Bool) → eqb r.kind (numbered "event") ≡ b → not (has_iff (role_of (expr_class r.kind)) && refers Included x (rest r.children)) ≡ true
    go true e = unreferred (has_iff (role_of (expr_class r.kind))) (refers Included x (rest r.children)) (p.iffs (eqb-true r.kind (numbered "event") e))
    go false e = rw (no_iff r.kind e).is

module _ {A : Type 0} (P : A → Type 0) where
  -- what is true at every place of a list, and past it, is true of each
  each_at : (d : A) (xs : List A) → ((n : ℕ) → P (nth d n xs)) → Each P xs
  each_at d [] h = tt
  each_at d (x ∷ xs) h = (h 0, each_at d xs (λ n. h (suc n)))

-- a test of each row by its kind and children, and the same of a row and the rows below it
module _ (here : ℕ → Forest → Bool) (below : Alg Bool) (both : (k s lo hi : ℕ) (cs : Forest) (bs : List Bool) → below k s lo hi cs bs ≡ here k cs && every bs) where
  record Holds (r : PlacedRow) : Type 0 where
    is : here r.kind r.children ≡ true

  -- the test passes where it does at a row and at each row below it, wherever they stand
  record Passes (m : List Place → List PlacedRow) (b : Bool) : Type 0 where
    go : (above : List Place) → Each Holds (m above) → b ≡ true

  -- so of the rows below a row, of siblings together, and of a row with what it holds
  passes_below : (k i : ℕ) (above : List Place) {ms : List (List Place → List PlacedRow)} {bs : List Bool} → Pairwise Passes ms bs → Each Holds (placed_below k i above ms) → every bs ≡ true
  unfolding placed_below every
  passes_below k i above no_pair h = refl
  passes_below k i above (pair {x = m} {xs = ms} p ps) h =
      let hs = each_parts Holds (m (child_place k i ∷ above)) (placed_below k (suc i) above ms) h in
      rw (p.go (child_place k i ∷ above) hs.0, passes_below k (suc i) above ps hs.1)

  passes_together : {ms : List (List Place → List PlacedRow)} {bs : List Bool} → Pairwise Passes ms bs → Each Holds (placed_together ms) → every bs ≡ true
  unfolding placed_together every
  passes_together no_pair h = refl
  passes_together (pair {x = m} {xs = ms} p ps) h =
      let hs = each_parts Holds (m []) (placed_together ms) h in
      rw (p.go [] hs.0, passes_together ps hs.1)

  passes_row : (k s lo hi : ℕ) (cs : Forest) → Pairwise Passes (fold placed_at cs) (fold below cs) → Passes (placed_at k s lo hi cs (fold placed_at cs)) (below k s lo hi cs (fold below cs))
  unfolding placed_at
  passes_row k s lo hi cs ps = record { go = λ above h. rw (both k s lo hi cs (fold below cs), h.0.is, passes_below k 0 above ps h.1) }

  every_row : (f : Forest) → ((n : ℕ) → here (nth_row f n).kind (nth_row f n).children ≡ true) → every (fold below f) ≡ true
  unfolding placed_rows
  every_row f h = passes_together (fold_related placed_at below passes_row f) (each_at Holds no_row (placed_rows f) (λ n. record { is = h n }))

-- the premises of demand 3 have in them the one on iff that the laws of references speak of
pub premises_iff : (x : ℕ) (marks : ℕ → Bool) (f : Forest) → Premises x marks f → iff_quiet x f ≡ true
unfolding iff_quiet iff_at
premises_iff x marks f p = every_row (λ k cs. iff_here x (expr_class k) cs) (iff_at x) (λ k s lo hi cs bs. refl) f (λ n. iff_holds x marks (nth_row f n) (p.row n))

-- and those on nonblocking rows
nonblocking_holds_lem : (x : ℕ) (marks : ℕ → Bool) (r : PlacedRow) → RowPremises x marks r → nonblocking_here x r.kind r.children ≡ true
unfolding nonblocking_here
nonblocking_holds_lem x marks r p = go (eqb r.kind (numbered "nonblocking")) refl
  where
    all_three : (a b p q : Bool) → a ≡ false → b ≡ false → (p ≡ true) ⊎ (q ≡ false) → not a && (not b && (p || not q)) ≡ true
    all_three a b p q e f h = rw (e, f) (or_either p q h)

    go : (b : Bool) → eqb r.kind (numbered "nonblocking") ≡ b → cond b (nonblocking_holds (refers_each x r.children) (plain_each x r.children)) true ≡ true
    go true e = let w = eqb-true r.kind (numbered "nonblocking") e in all_three _ _ _ _ (p.delays w) (p.intras w) (p.targets w)
    go false e = refl

pub premises_nonblocking : (x : ℕ) (marks : ℕ → Bool) (f : Forest) → Premises x marks f → nonblocking_quiet x f ≡ true
unfolding nonblocking_quiet nonblocking_quiet_at
premises_nonblocking x marks f p = every_row (nonblocking_here x) (nonblocking_quiet_at x) (λ k s lo hi cs bs. refl) f (λ n. nonblocking_holds_lem x marks (nth_row f n) (p.row n))
