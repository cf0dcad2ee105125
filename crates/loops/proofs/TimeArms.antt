-- The flat answer of `stmt_advances_time` is that of the Rust's arms, at every statement of a tree whose children fit: tests of the table
-- of kinds say that a child at no place of its class lets no time pass. By induction over the tree (Places).
use Prim.Native.Nat.{ℕ, ◌<◌}
use mathlib.Core.Path.{◌≡◌, refl, sym, ◌∙◌}
use mathlib.Core.Bool.{Bool, true, false, cond, ◌&&◌, ◌||◌, not, or-false}
use mathlib.Core.List.{List, [], ◌∷◌}
use lib.Dec.{eqb, leb}
use borrow.Author.Tests.{ltb-true, not-true, eqb-true}
use denote.Enum.Declared.{tag_of}
use Rattle.table.specs.Rows.{Forest}
use Rattle.table.specs.Fold.{fold, nth}
use Rattle.kinds.specs.declared.StmtClass.{StmtClass}
use Rattle.kinds.specs.declared.StmtClass.TheVariants.{Absent, Match, Default, Decl, Blocking, Nonblocking, If, Return, Case, For, While, Repeat, Forever, Block, Fork, Systask, Task, Delayctrl, Eventctrl, Wait, Disable, Null, Unmodelled, NoStmt}
use Rattle.kinds.specs.Kinds.{kinds, entry, class_number, is_kind, fits}
use Rattle.kinds.specs.Words.{same, place_from, kind_of}
use Rattle.kinds.specs.Named.{kind_number, numbered, stmt_words, stmt_class_in, stmt_class}
use Rattle.kinds.proofs.Below.{both_true, true_not_false, every_below, below}
use Rattle.kinds.specs.contracts.StmtClass.{the_type}
use Rattle.checks.specs.Checks.{kinds_of}
use Rattle.reads.specs.Mentions.{some}
use Rattle.loops.specs.Fitting.{fitting}
use Rattle.loops.specs.Time.{waiting_words, is_one_of, lets_time_pass, advances_at, advances, is_there_at, time_arm, stmt_advances_at}
use Rattle.loops.proofs.Gather.{by_or}
use Rattle.loops.proofs.Places.{by_either, class_of, Told, Rows, suits, places, look, RowStep, rows_related}
use Rattle.loops.proofs.Bodies.{places_of, look_first, look_second, look_both, look_two, look_three, if_so, so}

-- delay and intra
abbrev pub waiting : ℕ → Bool
waiting n = eqb n 3 || eqb n 4

-- a class that is none of S, arm, delay and intra
abbrev pub quiet : ℕ → Bool
quiet n = not (eqb n 9 || (eqb n 7 || waiting n))

-- of a delay or an intra the Rust asks whether it is there, and of every other row the arms
abbrev pub fair : ℕ → Bool
fair n = not (waiting n)

abbrev fair_there : ℕ → Bool
fair_there n = eqb n 0 || waiting n

abbrev waits : ℕ → Bool
waits k = is_one_of waiting_words k

abbrev is_task : ℕ → Bool
is_task k = eqb k (numbered "task")

-- a row of a quiet class lets no time pass, and has only items of quiet classes
abbrev suiting : (ℕ → Bool) → ℕ → Bool
suiting fair k = if_so (quiet (class_of k)) (not (waits k) && (not (is_task k) && suits by_or quiet fair (entry k).children [] false))

all_suiting : (fair : ℕ → Bool) → every_below (suiting fair) 66 ≡ true
unfolding every_below suits entry kinds class_number numbered kind_number kind_of place_from same is_one_of waiting_words
all_suiting fair = refl

module _ (k s : ℕ) (u : is_kind k ≡ true) where
  known : k < 66
  unfolding is_kind
  known = ltb-true k 66 u

  idle_time : (fair : ℕ → Bool) → fair 0 ≡ true → {ks : List ℕ} {bs ds : List Bool}
      → fits (entry k).children ks ≡ true
      → Rows (Told false quiet fair) ks bs ds
      → quiet (class_of k) ≡ true
      → lets_time_pass k s || some bs ≡ false
  unfolding lets_time_pass
  idle_time fair z f ws q =
      let p = both_true (not (waits k)) _ (so _ _ (below (suiting fair) 66 (all_suiting fair) k known) q) in
      let t = both_true (not (is_task k)) _ p.1 in
      rw (not-true (waits k) p.0, not-true (is_task k) t.0, places by_or quiet fair refl z (entry k).children [] false t.1 f ws)

-- a delay or an intra is there, and lets time pass; an absent child is not there
abbrev there_suits : ℕ → Bool
there_suits k = if_so (fair_there (class_of k)) (cond (eqb k (numbered "none")) (quiet (class_of k)) (waits k))

all_there : every_below there_suits 66 ≡ true
unfolding every_below entry kinds class_number numbered kind_number kind_of place_from same is_one_of waiting_words
all_there = refl

there_step : RowStep (Told false quiet fair_there) advances_at is_there_at
unfolding advances_at is_there_at lets_time_pass
there_step k s lo hi cs u f h ws = record {
  idle = idle_time k s u fair_there refl f ws;
  same = λ q. go (eqb k (numbered "none")) (so _ _ (below there_suits 66 all_there k (known k s u)) q);
}
  where
    go : (b : Bool) → cond b (quiet (class_of k)) (waits k) ≡ true → lets_time_pass k s || some (fold advances_at cs) ≡ not b
    go true h = idle_time k s u fair_there refl f ws h
    go false h = rw h

-- a class whose arm asks of the statements that it holds, or of nothing
abbrev ordinary : StmtClass → Bool
ordinary c = let t = tag_of the_type c in not (eqb t 4 || (eqb t 5 || (eqb t 17 || (eqb t 18 || eqb t 19))))

-- each such arm, from the places that count
arm_is : (c : StmtClass) (k s : ℕ) (t : Bool) (there bs : List Bool)
    → ordinary c ≡ true
    → t ≡ eqb (tag_of the_type c) 16
    → eqb k (numbered "waitfork") ≡ false
    → (t && leb 4 s) || look by_or (places_of c).first (places_of c).later bs ≡ time_arm c k s there bs
arm_is Absent k s t there bs o e w = rw e
arm_is Match k s t there bs o e w = rw e (look_first by_or bs)
arm_is Default k s t there bs o e w = rw e (look_first by_or bs)
arm_is Decl k s t there bs o e w = rw e
arm_is Blocking k s t there bs o e w = true_not_false (sym o)
arm_is Nonblocking k s t there bs o e w = true_not_false (sym o)
arm_is If k s t there bs o e w = rw e (look_both by_or bs)
arm_is Return k s t there bs o e w = rw e
arm_is Case k s t there bs o e w = rw e
arm_is For k s t there bs o e w = rw e (look_three by_or bs)
arm_is While k s t there bs o e w = rw e (look_second by_or bs)
arm_is Repeat k s t there bs o e w = rw e (look_second by_or bs)
arm_is Forever k s t there bs o e w = rw e (look_first by_or bs)
arm_is Block k s t there bs o e w = rw e
arm_is Fork k s t there bs o e w = rw e
arm_is Systask k s t there bs o e w = rw e
arm_is Task k s t there bs o e w = rw e (or-false (leb 4 s))
arm_is Delayctrl k s t there bs o e w = true_not_false (sym o)
arm_is Eventctrl k s t there bs o e w = true_not_false (sym o)
arm_is Wait k s t there bs o e w = true_not_false (sym o)
arm_is Disable k s t there bs o e w = rw e
arm_is Null k s t there bs o e w = rw e
arm_is Unmodelled k s t there bs o e w = rw (e, w)
arm_is NoStmt k s t there bs o e w = rw e

-- what is computed of each kind that is fair: it lets time pass, and so do the arms; or it is an assignment, which counts its
-- first two children; or its arm is ordinary, and its items suit its class
abbrev is_assign : ℕ → Bool
is_assign k = eqb k (numbered "blocking") || eqb k (numbered "nonblocking")

abbrev arm_suits : ℕ → Bool
arm_suits k =
    let c = stmt_class k in
    ordinary c
    && (cond (eqb (tag_of the_type c) 16) (is_task k) (not (is_task k))
    && (not (eqb k (numbered "waitfork"))
    && suits by_or quiet fair (entry k).children (places_of c).first (places_of c).later))

abbrev fair_suits : ℕ → Bool
fair_suits k = if_so (fair (class_of k)) (waits k || (is_assign k || arm_suits k))

all_fair : every_below fair_suits 66 ≡ true
unfolding every_below suits entry kinds class_number stmt_class stmt_class_in stmt_words numbered kind_number kind_of place_from same is_one_of waiting_words
all_fair = refl

abbrev assign_suits : ℕ → Bool
assign_suits k = if_so (is_assign k) (not (is_task k) && suits by_or quiet fair_there (entry k).children (true ∷ true ∷ []) false)

all_assigns : every_below assign_suits 66 ≡ true
unfolding every_below suits entry kinds class_number numbered kind_number kind_of place_from same
all_assigns = refl

module _ (s : ℕ) (there bs : List Bool) where
  abbrev wait_suits : ℕ → Bool
  wait_suits k = if_so (waits k && fair (class_of k)) (time_arm (stmt_class k) k s there bs)

  all_waits : every_below wait_suits 66 ≡ true
  unfolding every_below entry kinds class_number stmt_class stmt_class_in stmt_words numbered kind_number kind_of place_from same is_one_of waiting_words
  all_waits = refl

  assign_arm : (k : ℕ) → is_assign k ≡ true → time_arm (stmt_class k) k s there bs ≡ nth false 0 there || nth false 1 there
  unfolding stmt_class stmt_class_in stmt_words numbered kind_number kind_of place_from kinds same
  assign_arm k a =
      by_either (eqb k (numbered "blocking")) (eqb k (numbered "nonblocking")) a
      (λ e. rw (eqb-true k 11 e))
      (λ e. rw (eqb-true k 12 e))

agrees : (a b : Bool) → cond a b (not b) ≡ true → b ≡ a
agrees true b e = e
agrees false b e = not-true b e

module _ (k s : ℕ) (u : is_kind k ≡ true) (q : fair (class_of k) ≡ true) {ks : List ℕ} {bs ds there : List Bool}
    (f : fits (entry k).children ks ≡ true)
    (ws : Rows (Told false quiet fair) ks bs ds)
    (ts : Rows (Told false quiet fair_there) ks bs there) where
  waits_time : waits k ≡ true → lets_time_pass k s || some bs ≡ time_arm (stmt_class k) k s there ds
  unfolding lets_time_pass
  waits_time w = rw w (sym (so (waits k && fair (class_of k)) _ (below (wait_suits s there ds) 66 (all_waits s there ds) k (known k s u)) (rw (w, q))))

  assign_time : waits k ≡ false → is_assign k ≡ true → lets_time_pass k s || some bs ≡ time_arm (stmt_class k) k s there ds
  unfolding lets_time_pass
  assign_time w a =
      let p = both_true (not (is_task k)) _ (so _ _ (below assign_suits 66 all_assigns k (known k s u)) a) in
      rw (w, not-true (is_task k) p.0, places by_or quiet fair_there refl refl (entry k).children (true ∷ true ∷ []) false p.1 f ts)
      (look_two by_or there ∙ sym (assign_arm s there ds k a))

  arm_time : waits k ≡ false → arm_suits k ≡ true → lets_time_pass k s || some bs ≡ time_arm (stmt_class k) k s there ds
  unfolding lets_time_pass
  arm_time w a =
      let c = stmt_class k in
      let p = both_true (ordinary c) _ a in
      let r = both_true (cond (eqb (tag_of the_type c) 16) (is_task k) (not (is_task k))) _ p.1 in
      let v = both_true (not (eqb k (numbered "waitfork"))) _ r.1 in
      rw (w, places by_or quiet fair refl refl (entry k).children (places_of c).first (places_of c).later v.1 f ws)
      (arm_is c k s (is_task k) there ds p.0 (agrees _ (is_task k) r.0) (not-true _ v.0))

  time_same : lets_time_pass k s || some bs ≡ time_arm (stmt_class k) k s there ds
  time_same = go (waits k) (is_assign k) refl refl (so _ _ (below fair_suits 66 all_fair k (known k s u)) q)
    where
      go : (w a : Bool)
          → waits k ≡ w
          → is_assign k ≡ a
          → w || (a || arm_suits k) ≡ true
          → lets_time_pass k s || some bs ≡ time_arm (stmt_class k) k s there ds
      go true a e g h = waits_time e
      go false true e g h = assign_time e g
      go false false e g h = arm_time e h

time_step : RowStep (Told false quiet fair) advances_at stmt_advances_at
unfolding advances_at stmt_advances_at
time_step k s lo hi cs u f h ws = record {
  idle = idle_time k s u fair refl f ws;
  same = λ q. time_same k s u q f ws (rows_related advances_at is_there_at there_step cs h);
}

-- the two answers are the same at each of these siblings that is no delay and no intra
pub arms_time : (f : Forest) → fitting f ≡ true → Rows (Told false quiet fair) (kinds_of f) (advances f) (fold stmt_advances_at f)
arms_time f e = rows_related advances_at stmt_advances_at time_step f e
