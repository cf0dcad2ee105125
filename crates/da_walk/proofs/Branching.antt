-- Timing controls, blocks, ifs and cases: what the functions answer, from what stands in the code where they return. What a called
-- function answers is a premise; blocks and arms go on from row to row, by one step of the fold.
use mathlib.Core.Path.{◌≡◌, refl, sym, ap, ◌∙◌}
use mathlib.Core.Bool.{Bool, true, false, cond, not, ◌&&◌, ◌||◌, or_assoc, or-false}
use mathlib.Core.List.{List}
use Prim.Native.Nat.{ℕ, ◌≤◌, ◌<◌}
use borrow.Author.Tests.{lt-ltb}
use Rattle.table.specs.declared.Siblings.{Siblings}
use Rattle.table.specs.declared.Node.{Node}
use Rattle.table.specs.Rows.{end_at, Forest, tree}
use Rattle.table.specs.Siblings.{forest, First, Children, Rest}
use Rattle.table.specs.Fold.{nth, tail}
use Rattle.table.proofs.Fold.{fold_none, fold_step}
use Rattle.table.proofs.Parts.{children_forest, fold_step_part, fold_next_part, fold_rest_part}
use Rattle.kinds.specs.declared.StmtClass.{StmtClass}
use Rattle.kinds.specs.Named.{has_default}
use Rattle.expr_effect.specs.Law.{ExprFacts}
use Rattle.da.specs.declared.DaOut.{DaOut}
use Rattle.da.specs.declared.DaOut.TheVariants.{Falls, Jumps}
use Rattle.da.specs.declared.DaGiveUp.{DaGiveUp}
use Rattle.std.specs.Prelude.{Result, Ok, Err}
use Rattle.da.specs.Outcome.{DaResult, State, is_written, merge, ◌▷◌, go_on}
use Rattle.da.specs.Walk.{DaCtx, Walk, no_walk, unless_one_read, if_else, block, arms, case_of, walk_at, walks, da_stmt}
use Rattle.da_rows.specs.declared.States.{States}
use Rattle.da_rows.specs.Steps.{fact_of, evaluation, part_of_row, part_of, is_default_part, is_absent_part, first_labels as first_labels_of, case_out}
use Rattle.da_rows.proofs.Asking.{states_are, evaluated_stops, evaluated_goes, unless_one_then}
use Rattle.da_rows.proofs.Parts.{first_absent, first_default, first_labels}
use Rattle.da_leaf.specs.Steps.{referring_at}
use Rattle.da_walk.specs.Steps.{walk_in, block_in, if_in, branches, branches_in, else_in, case_in, arms_from, arms_in, arm_in, controlled_at}

-- da_controlled
module _ (ctx : DaCtx) (row : Node) (class : StmtClass) (a : State) (r : DaResult) (e : r ≡ referring_at ctx row.table.now class row.at row.end a) where
  pub controlled_body : (out : DaOut) (below body : Siblings) (s : DaResult)
      → r ≡ Ok out
      → Children row below
      → Rest below body
      → s ≡ da_stmt ctx (forest body) a
      → s ≡ controlled_at ctx row.table.now class row.at row.end a
  controlled_body out below body s h c t v =
      v
      ∙ ap (λ (w : Walk). w.walk a) (fold_next_part (walk_at ctx) no_walk 0 t ∙ ap (λ f. nth no_walk 1 (walks ctx f)) (sym (children_forest c)))
      ∙ rw (← e, h)

-- da_block: it ends with a give-up or a jump, or goes on with the next row
module _ (ctx : DaCtx) (rows left : Siblings) (a₀ a : State) (w : block_in ctx (forest rows) a₀ ≡ block_in ctx (forest left) a) where
  pub block_done : left.to ≤ left.from → Ok (Falls a) ≡ block_in ctx (forest rows) a₀
  block_done h = sym (w ∙ ap (λ (ws : List Walk). block ws a) (fold_none (walk_at ctx) left.table.now left.from left.to h))

  module _ (r : DaResult) (h : left.from < left.to) (e : r ≡ da_stmt ctx (forest left) a) where
    block_step : (next : Siblings) → Rest left next → block_in ctx (forest left) a ≡ r ▷ go_on (block_in ctx (forest next))
    block_step next t = ap (λ (ws : List Walk). block ws a) (fold_step_part (walk_at ctx) no_walk h t) ∙ ap (λ (s : DaResult). s ▷ go_on (block_in ctx (forest next))) (sym e)

    block_ends : block_in ctx (forest left) a ≡ r ▷ go_on (block_in ctx (tree left.table.now (end_at left.table.now left.from) left.to))
    block_ends =
        ap (λ (ws : List Walk). block ws a) (fold_step (walk_at ctx) no_walk left.nested h refl)
        ∙ ap (λ (s : DaResult). s ▷ go_on (block_in ctx (tree left.table.now (end_at left.table.now left.from) left.to))) (sym e)

    pub block_stops : (stop : DaGiveUp) → r ≡ Err stop → Err stop ≡ block_in ctx (forest rows) a₀
    block_stops stop o = sym (w ∙ block_ends ∙ rw o)

    pub block_jumps : (out : DaOut) → r ≡ Ok out → out ≡ Jumps → Ok Jumps ≡ block_in ctx (forest rows) a₀
    block_jumps out o j = sym (w ∙ block_ends ∙ rw (o, j))

    pub block_on : (out : DaOut) (b : State) (next : Siblings) → r ≡ Ok out → out ≡ Falls b → Rest left next → block_in ctx (forest rows) a₀ ≡ block_in ctx (forest next) b
    block_on out b next o j t = w ∙ block_step next t ∙ rw (o, j)

-- da_if and da_case ask first
if_after : (c : ExprFacts) (t e : Walk) (a : State) (q : Result States DaGiveUp) (states : States) → q ≡ evaluation c a → q ≡ Ok states → branches t e states ≡ if_else c t e a
if_after c t e a q states v h = rw (states_are c a q v states h) (evaluated_goes c a q v states _ h)

case_end : (r : DaResult) (default : Bool) (after : State) → (r ▷ λ out. Ok (case_out default after out)) ≡ (r ▷ λ all. cond (default && not (is_written after)) (Ok all) (Ok (Falls after)))
case_end (Err stop) default after = refl
case_end (Ok all) default after = go (default && not (is_written after))
  where
    go : (b : Bool) → ◌≡◌ {A = DaResult} (Ok (cond b all (Falls after))) (cond b (Ok all) (Ok (Falls after)))
    go true = refl
    go false = refl

case_after : (c : ExprFacts) (ws : List Walk) (a : State) (q : Result States DaGiveUp) (states : States) → q ≡ evaluation c a → q ≡ Ok states → arms_from Jumps false ws states.after ≡ case_of c ws a
case_after c ws a q states v h =
    case_end (arms ws states.after Jumps) (has_default (λ w. w.is_default) ws) states.after
    ∙ rw (states_are c a q v states h) (evaluated_goes c a q v states _ h)

module _ (ctx : DaCtx) (rows : Siblings) (a : State) (q : Result States DaGiveUp) (e : q ≡ evaluation (fact_of ctx.local rows) a) where
  pub if_stops : (stop : DaGiveUp) → q ≡ Err stop → Err stop ≡ if_in ctx (forest rows) a
  if_stops stop h = evaluated_stops _ a q e stop _ h

  pub case_stops : (stop : DaGiveUp) → q ≡ Err stop → Err stop ≡ case_in ctx (forest rows) a
  case_stops stop h = evaluated_stops _ a q e stop _ h

  module _ (states : States) (arms : Siblings) (r : DaResult) (h : q ≡ Ok states) (t : Rest rows arms) where
    pub if_goes : r ≡ branches_in ctx (forest arms) states → r ≡ if_in ctx (forest rows) a
    if_goes v =
        v
        ∙ ap (λ (w : Walk). branches w (nth no_walk 1 (walks ctx (forest arms))) states) (fold_next_part (walk_at ctx) no_walk 0 t)
        ∙ ap (λ (w : Walk). branches (nth no_walk 1 (walks ctx (forest rows))) w states) (fold_next_part (walk_at ctx) no_walk 1 t)
        ∙ if_after (fact_of ctx.local rows) (nth no_walk 1 (walks ctx (forest rows))) (nth no_walk 2 (walks ctx (forest rows))) a q states e h

    pub case_goes : r ≡ arms_in ctx (forest arms) states.after → r ≡ case_in ctx (forest rows) a
    case_goes v = v ∙ ap (λ (ws : List Walk). arms_from Jumps false ws states.after) (fold_rest_part (walk_at ctx) t) ∙ case_after (fact_of ctx.local rows) (tail (walks ctx (forest rows))) a q states e h

-- da_branches
module _ (ctx : DaCtx) (rows : Siblings) (states : States) (r : DaResult) (e : r ≡ da_stmt ctx (forest rows) states.when_true) where
  pub then_stops : (stop : DaGiveUp) → r ≡ Err stop → Err stop ≡ branches_in ctx (forest rows) states
  then_stops stop h = rw (← e, h)

  module _ (others : Siblings) (x : DaOut) (s : DaResult) (h : r ≡ Ok x) (t : Rest rows others) (f : s ≡ else_in ctx (forest others) states.after states.when_false) where
    branches_are : branches_in ctx (forest rows) states ≡ s ▷ λ y. Ok (merge x y)
    branches_are = rw (← e, h, f, fold_next_part (walk_at ctx) no_walk 0 t)

    pub else_stops : (stop : DaGiveUp) → s ≡ Err stop → Err stop ≡ branches_in ctx (forest rows) states
    else_stops stop k = sym (branches_are ∙ rw k)

    pub branches_meet : (y z : DaOut) → s ≡ Ok y → z ≡ merge x y → Ok z ≡ branches_in ctx (forest rows) states
    branches_meet y z k m = sym (branches_are ∙ rw (k, m))

-- da_else
module _ (ctx : DaCtx) (rows : Siblings) (after in_else : State) (b : Bool) (e : b ≡ is_absent_part (part_of rows)) where
  pub else_absent : b ≡ true → Ok (Falls after) ≡ else_in ctx (forest rows) after in_else
  else_absent h = rw (first_absent ctx rows.nested, ← e, h)

  pub else_walked : (r : DaResult) → b ≡ false → r ≡ da_stmt ctx (forest rows) in_else → r ≡ else_in ctx (forest rows) after in_else
  else_walked r h v = v ∙ rw (first_absent ctx rows.nested, ← e, h)

-- da_arms: from the left, with what came of the arms before, and whether one was a default
-- an arm, then those after it
arms_then : (labels : List ExprFacts) (walked : DaResult) (after : State) (more : DaOut → DaResult) → unless_one_read labels after (walked ▷ more) ≡ unless_one_read labels after walked ▷ more
arms_then labels walked after more =
    unless_one_then labels after (walked ▷ more) ∙ go (unless_one_read labels after (Ok (Falls after))) ∙ ap (λ (r : DaResult). r ▷ more) (sym (unless_one_then labels after walked))
  where
    go : (r : DaResult) → (r ▷ λ out. walked ▷ more) ≡ (r ▷ λ out. walked) ▷ more
    go (Ok out) = refl
    go (Err stop) = refl

module _ (ctx : DaCtx) (rows left : Siblings) (after : State) (all : DaOut) (d : Bool) (w : arms_in ctx (forest rows) after ≡ arms_from all d (walks ctx (forest left)) after) where
  pub arms_done : (out : DaOut) → left.to ≤ left.from → out ≡ case_out d after all → Ok out ≡ arms_in ctx (forest rows) after
  arms_done out h v = sym (w ∙ ap (λ (ws : List Walk). arms_from all d ws after) (fold_none (walk_at ctx) left.table.now left.from left.to h) ∙ rw (or-false d, v))

  module _ (r : DaResult) (h : left.from < left.to) (e : r ≡ arm_in ctx (forest left) after) where
    arms_step : (n : ℕ) → n ≡ end_at left.table.now left.from
        → arms_from all d (walks ctx (forest left)) after
        ≡ (r ▷ λ arm. arms (walks ctx (tree left.table.now n left.to)) after (merge all arm)) ▷ λ out. Ok (case_out (d || ((walk_in ctx (forest left)).is_default || has_default (λ w. w.is_default) (walks ctx (tree left.table.now n left.to)))) after out)
    arms_step n p =
        ap (λ (ws : List Walk). arms_from all d ws after) (fold_step (walk_at ctx) no_walk left.nested h p)
        ∙ rw (arms_then (walk_in ctx (forest left)).labels ((walk_in ctx (forest left)).walk after) after (λ arm. arms (walks ctx (tree left.table.now n left.to)) after (merge all arm)), e)

    pub arms_stop : (stop : DaGiveUp) → r ≡ Err stop → Err stop ≡ arms_in ctx (forest rows) after
    arms_stop stop o = sym (w ∙ arms_step (end_at left.table.now left.from) refl ∙ rw o)

    pub arms_on : (arm sum : DaOut) (d' : Bool) (item : Node) (next : Siblings)
        → r ≡ Ok arm
        → sum ≡ merge all arm
        → First left item
        → d' ≡ d || is_default_part (part_of_row item.table.now item.at)
        → Rest left next
        → arms_in ctx (forest rows) after ≡ arms_from sum d' (walks ctx (forest next)) after
    arms_on arm sum d' item next o m f q t =
        let p : part_of_row item.table.now item.at ≡ part_of_row left.table.now left.from = rw (f.same, f.starts) in
        let n : next.from ≡ end_at left.table.now left.from = t.starts ∙ rw (lt-ltb left.from left.to h) in
        w
        ∙ arms_step next.from n
        ∙ rw
        (o, m, q, p, t.same, t.ends, first_default ctx left.nested, lt-ltb left.from left.to h, or_assoc d (is_default_part (part_of_row left.table.now left.from)) (has_default (λ w. w.is_default) (walks ctx (tree left.table.now next.from left.to))))

-- da_arm
module _ (ctx : DaCtx) (rows : Siblings) (a : State) (r : DaResult) (e : r ≡ unless_one_read (first_labels_of ctx.local rows) a (Ok (Falls a))) where
  labels_then : (next : DaResult) → unless_one_read (walk_in ctx (forest rows)).labels a next ≡ r ▷ λ out. next
  labels_then next = unless_one_then (walk_in ctx (forest rows)).labels a next ∙ rw (first_labels ctx rows.nested, ← e)

  pub arm_stops : (stop : DaGiveUp) → r ≡ Err stop → Err stop ≡ arm_in ctx (forest rows) a
  arm_stops stop h = sym (labels_then _ ∙ rw h)

  pub arm_walked : (out : DaOut) (s : DaResult) → r ≡ Ok out → s ≡ da_stmt ctx (forest rows) a → s ≡ arm_in ctx (forest rows) a
  arm_walked out s h v = v ∙ sym (labels_then _ ∙ rw h)

pub ruleset branching = (controlled_body, block_done, block_stops, block_jumps, block_on, if_stops, if_goes, then_stops, else_stops, branches_meet, else_absent, else_walked, case_stops, case_goes, arms_done, arms_stop, arms_on, arm_stops, arm_walked)
