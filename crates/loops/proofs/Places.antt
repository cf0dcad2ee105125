-- Of a row's children only those at some places count, where the others are of kinds that never do. By induction over the items of a kind
-- and the children that they take; and then over the tree, from the children of a row to the row.
use Prim.Native.Nat.{ℕ}
use mathlib.Core.Path.{◌≡◌, refl, sym, ◌∙◌}
use mathlib.Core.Bool.{Bool, true, false, cond, ◌&&◌, ◌||◌, not}
use mathlib.Core.List.{List, [], ◌∷◌}
use borrow.Author.Tests.{eqb-true}
use Rattle.table.specs.Rows.{Forest, nil, node}
use Rattle.table.specs.Fold.{Alg, fold, nth, tail}
use Rattle.kinds.specs.Kinds.{Item, absent, entry, class_number, of_class, is_kind, in_class, takes, once, many, fits}
use Rattle.kinds.proofs.Below.{both_true, true_not_false}
use Rattle.checks.specs.Checks.{kind_alone, kinds_of}
use Rattle.reads.specs.Iffs.{every}
use Rattle.loops.specs.Fitting.{fit_here, fit_at, fitting}
use Rattle.loops.proofs.Gather.{Gather}

-- places among siblings: which of the first ones count, and whether the later ones do
pub record Places : Type 0 where
  pub first : List Bool
  pub later : Bool

-- the answers at these places made one
abbrev pub look : Gather → List Bool → Bool → List Bool → Bool
look g [] true bs = g.all bs
look g [] false bs = g.unit
look g (m ∷ ms) l bs = cond m (g.op (nth g.unit 0 bs) (look g ms l (tail bs))) (look g ms l (tail bs))

-- a kind's class, by its number
abbrev pub class_of : ℕ → ℕ
class_of k = class_number (entry k).class

-- Two answers of a row: the first never counts where the row's class is quiet, and the two are the same where it is fair.
pub record Told (unit : Bool) (quiet fair : ℕ → Bool) (k : ℕ) (b d : Bool) : Type 0 where
  pub idle : quiet (class_of k) ≡ true → b ≡ unit
  pub same : fair (class_of k) ≡ true → b ≡ d

-- siblings, by their kinds and the two answers of each
pub data Rows (R : ℕ → Bool → Bool → Type 0) : List ℕ → List Bool → List Bool → Type 0 where
  no_further_row : Rows R [] [] []
  row : {k : ℕ} {b d : Bool} {ks : List ℕ} {bs ds : List Bool} → R k b d → Rows R ks bs ds → Rows R (k ∷ ks) (b ∷ bs) (d ∷ ds)

-- what an item takes is of its class, or absent
pub by_either : (a b : Bool) → a || b ≡ true → {P : Type 0} → (a ≡ true → P) → (b ≡ true → P) → P
by_either true b e p q = p refl
by_either false b e p q = q e

takes_class : (test : ℕ → Bool) (i : Item) (k : ℕ)
    → test 0 ≡ true
    → test (class_number i.class) ≡ true
    → takes i k ≡ true
    → test (class_of k) ≡ true
unfolding takes in_class of_class class_number
takes_class test i k z c t =
    by_either (i.may_be_absent && in_class absent k) (in_class i.class k) t
    (λ e. let n = (both_true (is_kind k) (of_class absent (entry k)) (both_true i.may_be_absent (in_class absent k) e).1).1 in rw (eqb-true (class_of k) 0 n) z)
    (λ e. let n = (both_true (is_kind k) (of_class i.class (entry k)) e).1 in rw (eqb-true (class_of k) (class_number i.class) n) c)

module _ (g : Gather) (quiet fair : ℕ → Bool) where
  -- the class of an item is fair if its place counts, and quiet if not
  abbrev pub suits_one : Bool → Item → Bool
  suits_one m i = cond m (fair (class_number i.class)) (quiet (class_number i.class))

  -- so it is with all items
  unfoldable pub suits : List Item → List Bool → Bool → Bool
  suits [] ms l = true
  suits (i ∷ items) [] l = suits_one l i && suits items [] l
  suits (i ∷ items) (m ∷ ms) l = not i.may_repeat && (suits_one m i && suits items ms l)

  abbrev pub Siblings : List ℕ → List Bool → List Bool → Type 0
  Siblings = Rows (Told g.unit quiet fair)

  -- what children that pass a test answer together, from their second answers
  record Looks (test : List ℕ → Bool) (rest : List Bool → Bool) : Type 0 where
    is : {ks : List ℕ} {bs ds : List Bool} → test ks ≡ true → Siblings ks bs ds → g.all bs ≡ rest ds

  look_none : (ms : List Bool) (l : Bool) → look g ms l [] ≡ g.unit
  look_none [] true = g.none
  look_none [] false = refl
  look_none (true ∷ ms) l = rw (look_none ms l) (g.left g.unit)
  look_none (false ∷ ms) l = look_none ms l

  look_split : (l : Bool) (ds : List Bool) → look g [] l ds ≡ look g (l ∷ []) l ds
  look_split true [] = g.none ∙ sym (rw g.none (g.left g.unit))
  look_split true (d ∷ ds) = g.more d ds
  look_split false ds = refl

  module _ (Quiet-none : quiet 0 ≡ true) (fair-none : fair 0 ≡ true) where
    -- a child that an item takes
    one_place : (m : Bool) (i : Item) {k : ℕ} {b d : Bool} (x y : Bool)
        → suits_one m i ≡ true
        → takes i k ≡ true
        → Told g.unit quiet fair k b d
        → x ≡ y
        → g.op b x ≡ cond m (g.op d y) y
    one_place true i {k} x y c t w e = rw (w.same (takes_class fair i k fair-none c t), e)
    one_place false i {k} x y c t w e = rw (w.idle (takes_class quiet i k Quiet-none c t), e) (g.left y)

    -- an item that stands once, and the children for what comes after it
    once_place : (m : Bool) (i : Item) (after : List ℕ → Bool) (rest : List Bool → Bool)
        → suits_one m i ≡ true
        → Looks after rest
        → {ks : List ℕ} {bs ds : List Bool}
        → once (takes i) after ks ≡ true
        → Siblings ks bs ds
        → g.all bs ≡ cond m (g.op (nth g.unit 0 ds) (rest (tail ds))) (rest (tail ds))
    unfolding once
    once_place m i after rest c ih f no_further_row = true_not_false (sym f)
    once_place m i after rest c ih f (row {k = k} {b = b} {ks = ks} {bs = bs} {ds = ds} w ws) =
        let p = both_true (takes i k) (after ks) f in
        g.more b bs ∙ one_place m i (g.all bs) (rest ds) c p.0 w (ih.is p.1 ws)

    -- an item that repeats
    many_place : (l : Bool) (i : Item) (after : List ℕ → Bool)
        → suits_one l i ≡ true
        → Looks after (look g [] l)
        → {ks : List ℕ} {bs ds : List Bool}
        → many (takes i) after ks ≡ true
        → Siblings ks bs ds
        → g.all bs ≡ look g [] l ds
    unfolding many
    many_place l i after c ih f no_further_row = ih.is f no_further_row
    many_place l i after c ih f (row {k = k} {b = b} {d = d} {ks = ks} {bs = bs} {ds = ds} w ws) =
        go (takes i k) refl f (λ h. many_place l i after c ih h ws)
      where
        go : (t : Bool)
            → takes i k ≡ t
            → cond t (many (takes i) after ks) (after (k ∷ ks)) ≡ true
            → (many (takes i) after ks ≡ true → g.all bs ≡ look g [] l ds)
            → g.all (b ∷ bs) ≡ look g [] l (d ∷ ds)
        go true e h again = g.more b bs ∙ one_place l i (g.all bs) (look g [] l ds) c e w (again h) ∙ sym (look_split l (d ∷ ds))
        go false e h again = ih.is h (row w ws)

    -- the children of a kind: what they answer together is what those at the places that count do
    pub places : (items : List Item) (ms : List Bool) (l : Bool)
        → suits items ms l ≡ true
        → {ks : List ℕ} {bs ds : List Bool}
        → fits items ks ≡ true
        → Siblings ks bs ds
        → g.all bs ≡ look g ms l ds
    unfolding suits fits
    places [] ms l c f no_further_row = g.none ∙ sym (look_none ms l)
    places [] ms l c f (row w ws) = true_not_false (sym f)
    places (i ∷ items) [] l c {ks} {bs} {ds} f ws =
        let p = both_true (suits_one l i) (suits items [] l) c in
        go i.may_repeat f p.0 (record { is = places items [] l p.1 })
      where
        go : (r : Bool)
            → cond r (many (takes i) (fits items) ks) (once (takes i) (fits items) ks) ≡ true
            → suits_one l i ≡ true
            → Looks (fits items) (look g [] l)
            → g.all bs ≡ look g [] l ds
        go true h s ih = many_place l i (fits items) s ih h ws
        go false h s ih = once_place l i (fits items) (look g [] l) s ih h ws ∙ sym (look_split l ds)
    places (i ∷ items) (m ∷ ms) l c {ks} {bs} {ds} f ws =
        let p = both_true (not i.may_repeat) (suits_one m i && suits items ms l) c in
        let q = both_true (suits_one m i) (suits items ms l) p.1 in
        go i.may_repeat f p.0 q.0 (record { is = places items ms l q.1 })
      where
        go : (r : Bool)
            → cond r (many (takes i) (fits items) ks) (once (takes i) (fits items) ks) ≡ true
            → not r ≡ true
            → suits_one m i ≡ true
            → Looks (fits items) (look g ms l)
            → g.all bs ≡ look g (m ∷ ms) l ds
        go true h n s ih = true_not_false (sym n)
        go false h n s ih = once_place m i (fits items) (look g ms l) s ih h ws

-- the parts of a fitting tree
module _ (k s lo hi : ℕ) (cs others : Forest) (e : fitting (node k s lo hi cs others) ≡ true) where
  parts : (fit_here k cs && fitting cs ≡ true) × (fitting others ≡ true)
  unfolding fitting fold every fit_at
  parts = both_true (fit_here k cs && fitting cs) (fitting others) e

  pub fitting_here : fit_here k cs ≡ true
  fitting_here = (both_true (fit_here k cs) (fitting cs) parts.0).0

  pub fitting_children : fitting cs ≡ true
  fitting_children = (both_true (fit_here k cs) (fitting cs) parts.0).1

  pub fitting_others : fitting others ≡ true
  fitting_others = parts.1

-- two answers of a row are related, where those of its children are and the children fit
abbrev pub RowStep : (ℕ → Bool → Bool → Type 0) → Alg Bool → Alg Bool → Type 0
RowStep R one two =
    (k s lo hi : ℕ) (cs : Forest)
    → is_kind k ≡ true
    → fits (entry k).children (kinds_of cs) ≡ true
    → fitting cs ≡ true
    → Rows R (kinds_of cs) (fold one cs) (fold two cs)
    → R k (one k s lo hi cs (fold one cs)) (two k s lo hi cs (fold two cs))

-- two answers are related at every row of a fitting tree, if they are at each row whose children's are
pub rows_related : {R : ℕ → Bool → Bool → Type 0} (one two : Alg Bool)
    → RowStep R one two
    → (f : Forest)
    → fitting f ≡ true
    → Rows R (kinds_of f) (fold one f) (fold two f)
unfolding fold kind_alone fit_here
rows_related one two step nil e = no_further_row
rows_related one two step (node k s lo hi cs others) e =
    let p = both_true (is_kind k) (fits (entry k).children (kinds_of cs)) (fitting_here k s lo hi cs others e) in
    let h = fitting_children k s lo hi cs others e in
    row (step k s lo hi cs p.0 p.1 h (rows_related one two step cs h))
    (rows_related one two step others (fitting_others k s lo hi cs others e))
