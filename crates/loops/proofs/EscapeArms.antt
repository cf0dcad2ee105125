-- The flat answer of `stmt_cannot_escape` is that of the Rust's arms, at every row of a tree whose children fit: one test of the table of
-- kinds says that a child at no place of its class never counts. By induction over the tree (Places).
use Prim.Native.Nat.{ℕ}
use mathlib.Core.Path.{◌≡◌, refl, ap, ◌∙◌}
use mathlib.Core.Bool.{Bool, true, false, ◌&&◌, ◌||◌, not}
use mathlib.Core.List.{List, []}
use lib.Dec.{eqb}
use borrow.Author.Tests.{ltb-true}
use Rattle.table.specs.Rows.{Forest}
use Rattle.table.specs.Fold.{fold}
use Rattle.kinds.specs.declared.StmtClass.{StmtClass}
use Rattle.kinds.specs.declared.StmtClass.TheVariants.{Absent, Match, Default, Decl, Blocking, Nonblocking, If, Return, Case, For, While, Repeat, Forever, Block, Fork, Systask, Task, Delayctrl, Eventctrl, Wait, Disable, Null, Unmodelled, NoStmt}
use Rattle.kinds.specs.Kinds.{kinds, entry, class_number, is_kind}
use Rattle.kinds.specs.Words.{same, place_from, kind_of}
use Rattle.kinds.specs.Named.{kind_number, numbered, stmt_words, stmt_class_in, stmt_class}
use Rattle.kinds.proofs.Below.{both_true, every_below, below}
use Rattle.loops.specs.Fitting.{fitting}
use Rattle.loops.specs.Escape.{transfers, cannot_escape_at, cannot_escapes, escape_arm, stmt_cannot_escape_at}
use Rattle.loops.proofs.Gather.{by_and}
use Rattle.loops.proofs.Places.{class_of, Told, Rows, no_further_row, row, suits, places, look, RowStep, rows_related}
use Rattle.loops.proofs.Bodies.{places_of, look_first, look_second, look_both, look_three, if_so, so}

-- a class that is neither S nor arm; every class is fair
abbrev quiet : ℕ → Bool
quiet n = not (eqb n 9 || eqb n 7)

abbrev fair : ℕ → Bool
fair n = true

-- a row of a quiet class transfers no control and has only items of quiet classes
abbrev quiet_suits : ℕ → Bool
quiet_suits k = if_so (quiet (class_of k)) (not (transfers (stmt_class k)) && suits by_and quiet fair (entry k).children [] false)

-- the items of a row suit its class
abbrev arm_suits : ℕ → Bool
arm_suits k = suits by_and quiet fair (entry k).children (places_of (stmt_class k)).first (places_of (stmt_class k)).later

abbrev suiting : ℕ → Bool
suiting k = quiet_suits k && arm_suits k

all_suiting : every_below suiting 66 ≡ true
unfolding every_below suits entry kinds class_number stmt_class stmt_class_in stmt_words numbered kind_number kind_of place_from same
all_suiting = refl

-- each arm, from the places that count
arm_is : (c : StmtClass) (bs : List Bool) → not (transfers c) && look by_and (places_of c).first (places_of c).later bs ≡ escape_arm c bs
arm_is Absent bs = refl
arm_is Match bs = look_first by_and bs
arm_is Default bs = look_first by_and bs
arm_is Decl bs = refl
arm_is Blocking bs = refl
arm_is Nonblocking bs = refl
arm_is If bs = look_both by_and bs
arm_is Return bs = refl
arm_is Case bs = refl
arm_is For bs = look_three by_and bs
arm_is While bs = look_second by_and bs
arm_is Repeat bs = look_second by_and bs
arm_is Forever bs = look_first by_and bs
arm_is Block bs = refl
arm_is Fork bs = refl
arm_is Systask bs = refl
arm_is Task bs = refl
arm_is Delayctrl bs = look_second by_and bs
arm_is Eventctrl bs = look_second by_and bs
arm_is Wait bs = look_second by_and bs
arm_is Disable bs = refl
arm_is Null bs = refl
arm_is Unmodelled bs = refl
arm_is NoStmt bs = refl

abbrev Siblings : List ℕ → List Bool → List Bool → Type 0
Siblings = Rows (Told true quiet fair)

escape_step : RowStep (Told true quiet fair) cannot_escape_at stmt_cannot_escape_at
unfolding is_kind cannot_escape_at stmt_cannot_escape_at
escape_step k s lo hi cs u f h ws =
    let own = not (transfers (stmt_class k)) in
    let t = both_true (quiet_suits k) (arm_suits k) (below suiting 66 all_suiting k (ltb-true k 66 u)) in
    record {
      idle = λ q.
          let p = both_true own _ (so _ _ t.0 q) in
          rw (p.0, places by_and quiet fair refl refl (entry k).children [] false p.1 f ws);
      same = λ q.
          ap (λ b. own && b) (places by_and quiet fair refl refl (entry k).children _ _ t.1 f ws)
          ∙ arm_is (stmt_class k) (fold stmt_cannot_escape_at cs);
    }

rows_same : {ks : List ℕ} {bs ds : List Bool} → Siblings ks bs ds → bs ≡ ds
rows_same no_further_row = refl
rows_same (row w ws) = rw (w.same refl, rows_same ws)

-- the two answers are the same at each of these siblings
pub arms_escape : (f : Forest) → fitting f ≡ true → cannot_escapes f ≡ fold stmt_cannot_escape_at f
arms_escape f e = rows_same (rows_related cannot_escape_at stmt_cannot_escape_at escape_step f e)
