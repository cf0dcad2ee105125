-- Loops: what the functions answer, from what stands in the code where they return. What a called function answers is a premise; the
-- parts of a for are the siblings after its row, one step of the fold each.
use mathlib.Core.Path.{◌≡◌, refl, sym, ap, ◌∙◌}
use mathlib.Core.Bool.{Bool, true}
use Prim.Native.Nat.{ℕ, ◌+◌}
use Rattle.table.specs.declared.Siblings.{Siblings}
use Rattle.table.specs.declared.Node.{Node}
use Rattle.table.specs.Rows.{side_at, tree}
use Rattle.table.specs.Siblings.{forest, Children, Rest}
use Rattle.table.specs.Fold.{Alg, fold, nth}
use Rattle.table.proofs.Parts.{children_forest, fold_next_part}
use Rattle.expr_effect.specs.Law.{ExprFacts, no_facts, facts_at}
use Rattle.loops.specs.Escape.{cannot_escape_at, cannot_escapes}
use Rattle.da.specs.declared.DaOut.{DaOut}
use Rattle.da.specs.declared.DaOut.TheVariants.{Falls}
use Rattle.da.specs.declared.DaGiveUp.{DaGiveUp}
use Rattle.std.specs.Prelude.{Result, Ok, Err}
use Rattle.da.specs.Outcome.{DaResult, State, gains, state, ◌▷◌}
use Rattle.da.specs.Walk.{DaCtx, Walk, StmtRow, no_walk, rounds, while_true, repeated, walk_at, walks, da_stmt}
use Rattle.da_rows.specs.declared.States.{States}
use Rattle.da_rows.specs.Steps.{stmt_at, facts_in, fact_in, fact_of, evaluation, body_assigns}
use Rattle.da_rows.proofs.Asking.{states_are, evaluated_stops, evaluated_goes}
use Rattle.da_walk.specs.Steps.{walk_in, rounds_at, for_at, while_at, repeat_at, forever_at}

-- from the condition on
while_after : (r : StmtRow) (cannot_escape : Bool) (c : ExprFacts) (body step : Walk) (a : State) (q : Result States DaGiveUp) (states : States)
    → q ≡ evaluation c a
    → q ≡ Ok states
    → rounds r cannot_escape body step states.after states.when_true ≡ while_true r cannot_escape c body step a
while_after r cannot_escape c body step a q states v h = rw (states_are c a q v states h) (evaluated_goes c a q v states _ h)

repeat_after : (r : StmtRow) (cannot_escape : Bool) (c : ExprFacts) (body : Walk) (a : State) (q : Result States DaGiveUp) (states : States)
    → q ≡ evaluation c a
    → q ≡ Ok states
    → rounds r cannot_escape body no_walk states.after states.after ≡ repeated r cannot_escape c body a
repeat_after r cannot_escape c body a q states v h = rw (states_are c a q v states h) (evaluated_goes c a q v states _ h)

-- S::While, and S::For after its init, whose condition is the first of `test`
abbrev condition_at : DaCtx → Node → (body test : Siblings) → Walk → State → DaResult
condition_at ctx row body test step a =
    while_true (stmt_at ctx row.table.now row.at row.end) (nth true 0 (cannot_escapes (forest body))) (fact_of ctx.local test) (walk_in ctx (forest body)) step a

module _ (ctx : DaCtx) (row : Node) (body test : Siblings) (step : Walk) (a : State) (q : Result States DaGiveUp) (e : q ≡ evaluation (fact_of ctx.local test) a) where
  condition_stops : (stop : DaGiveUp) → q ≡ Err stop → Err stop ≡ condition_at ctx row body test step a
  condition_stops stop h = evaluated_stops _ a q e stop _ h

  condition_rounds : (states : States)
      → q ≡ Ok states
      → rounds (stmt_at ctx row.table.now row.at row.end) (nth true 0 (cannot_escapes (forest body))) (walk_in ctx (forest body)) step states.after states.when_true
      ≡ condition_at ctx row body test step a
  condition_rounds states h = while_after (stmt_at ctx row.table.now row.at row.end) (nth true 0 (cannot_escapes (forest body))) (fact_of ctx.local test) (walk_in ctx (forest body)) step a q states e h

-- a part's facts, walks and escapes, as those of what the row holds
module _ {A : Type 0} (alg : Alg A) (d : A) {row : Node} {one : Siblings} (c : Children row one) where
  place : (i : ℕ) → nth d i (fold alg (forest one)) ≡ nth d i (fold alg (tree row.table.now (row.at + 1) row.end))
  place i = ap (λ f. nth d i (fold alg f)) (sym (children_forest c))

  module _ {two : Siblings} (t : Rest one two) where
    place_1 : nth d 0 (fold alg (forest two)) ≡ nth d 1 (fold alg (tree row.table.now (row.at + 1) row.end))
    place_1 = fold_next_part alg d 0 t ∙ place 1

    module _ {three : Siblings} (u : Rest two three) where
      place_2 : nth d 0 (fold alg (forest three)) ≡ nth d 2 (fold alg (tree row.table.now (row.at + 1) row.end))
      place_2 = fold_next_part alg d 0 u ∙ fold_next_part alg d 1 t ∙ place 2

      place_3 : {four : Siblings} → Rest three four → nth d 0 (fold alg (forest four)) ≡ nth d 3 (fold alg (tree row.table.now (row.at + 1) row.end))
      place_3 v = fold_next_part alg d 0 v ∙ fold_next_part alg d 1 u ∙ fold_next_part alg d 2 t ∙ place 3

-- da_for
module _ (ctx : DaCtx) (row : Node) (init : Siblings) (a : State) (r : DaResult) (c : Children row init) (e : r ≡ da_stmt ctx (forest init) a) where
  init_is : (walk_in ctx (tree row.table.now (row.at + 1) row.end)).walk a ≡ r
  init_is = sym (e ∙ ap (λ (w : Walk). w.walk a) (place (walk_at ctx) no_walk c 0))

  pub for_init_stops : (stop : DaGiveUp) → r ≡ Err stop → Err stop ≡ for_at ctx row.table.now row.at row.end a
  for_init_stops stop h = rw (init_is, h)

  module _ (test : Siblings) (out : DaOut) (b : State) (h : r ≡ Ok out) (k : b ≡ state out) (t : Rest init test) (q : Result States DaGiveUp) (v : q ≡ evaluation (fact_of ctx.local test) b) where
    pub for_reads : (stop : DaGiveUp) → q ≡ Err stop → Err stop ≡ for_at ctx row.table.now row.at row.end a
    for_reads stop y =
        let one : fact_of ctx.local test ≡ nth no_facts 1 (facts_in ctx.local row.table.now (row.at + 1) row.end) = place_1 (facts_at ctx.local) no_facts c t in
        rw (init_is, h, ← k) (evaluated_stops _ b q (rw one at v) stop _ y)

    module _ (step body : Siblings) (states : States) (s : DaResult) (y : q ≡ Ok states) (u : Rest test step) (x : Rest step body) (f : s ≡ da_stmt ctx (forest body) states.when_true) where
      for_goes : condition_at ctx row body test (walk_in ctx (forest step)) b ≡ for_at ctx row.table.now row.at row.end a
      for_goes =
          rw
          (place_1 (facts_at ctx.local) no_facts c t, place_2 (walk_at ctx) no_walk c t u, place_3 (walk_at ctx) no_walk c t u x, place_3 cannot_escape_at true c t u x, k, init_is, h)

      for_is : (d : DaResult)
          → d ≡ da_stmt ctx (forest step) states.when_true
          → (s ▷ λ body_out. d ▷ λ step_out. Ok (Falls (gains (body_assigns (side_at row.table.now row.at) (forest body) body_out) states.after)))
          ≡ for_at ctx row.table.now row.at row.end a
      for_is d z = rw (f, z) (condition_rounds ctx row body test (walk_in ctx (forest step)) b q v states y ∙ for_goes)

      pub for_body_stops : (stop : DaGiveUp) → s ≡ Err stop → Err stop ≡ for_at ctx row.table.now row.at row.end a
      for_body_stops stop i = rw i at (for_is _ refl)

      module _ (body_out : DaOut) (d : DaResult) (i : s ≡ Ok body_out) (z : d ≡ da_stmt ctx (forest step) states.when_true) where
        pub for_step_stops : (stop : DaGiveUp) → d ≡ Err stop → Err stop ≡ for_at ctx row.table.now row.at row.end a
        for_step_stops stop j = rw (i, j) at (for_is d z)

        pub for_falls : (step_out : DaOut) (side : ℕ) (wrote : State)
            → d ≡ Ok step_out
            → side ≡ side_at row.table.now row.at
            → wrote ≡ gains (body_assigns side (forest body) body_out) states.after
            → Ok (Falls wrote) ≡ for_at ctx row.table.now row.at row.end a
        for_falls step_out side wrote j p o = rw (o, p) (rw (i, j) at (for_is d z))

-- da_while, da_repeat
module _ (ctx : DaCtx) (row : Node) (test : Siblings) (a : State) (c : Children row test) (q : Result States DaGiveUp) (e : q ≡ evaluation (fact_of ctx.local test) a) where
  test_is : fact_of ctx.local test ≡ fact_in ctx.local row.table.now (row.at + 1) row.end
  test_is = place (facts_at ctx.local) no_facts c 0

  pub while_reads : (stop : DaGiveUp) → q ≡ Err stop → Err stop ≡ while_at ctx row.table.now row.at row.end a
  while_reads stop h = evaluated_stops _ a q (rw test_is at e) stop _ h

  pub repeat_stops : (stop : DaGiveUp) → q ≡ Err stop → Err stop ≡ repeat_at ctx row.table.now row.at row.end a
  repeat_stops stop h = evaluated_stops _ a q (rw test_is at e) stop _ h

  module _ (body : Siblings) (states : States) (s : DaResult) (h : q ≡ Ok states) (t : Rest test body) where
    body_walk : walk_in ctx (forest body) ≡ nth no_walk 1 (walks ctx (tree row.table.now (row.at + 1) row.end))
    body_walk = place_1 (walk_at ctx) no_walk c t

    body_escapes : nth true 0 (cannot_escapes (forest body)) ≡ nth true 1 (cannot_escapes (tree row.table.now (row.at + 1) row.end))
    body_escapes = place_1 cannot_escape_at true c t

    pub while_rounds : s ≡ rounds_at ctx row.table.now row.at row.end (forest body) states.after states.when_true → s ≡ while_at ctx row.table.now row.at row.end a
    while_rounds v =
        v
        ∙ condition_rounds ctx row body test no_walk a q e states h
        ∙ rw (body_walk, body_escapes, test_is)

    pub repeat_goes : s ≡ rounds_at ctx row.table.now row.at row.end (forest body) states.after states.after → s ≡ repeat_at ctx row.table.now row.at row.end a
    repeat_goes v =
        v
        ∙ rw (body_walk, body_escapes)
        (repeat_after (stmt_at ctx row.table.now row.at row.end) (nth true 1 (cannot_escapes (tree row.table.now (row.at + 1) row.end))) (fact_in ctx.local row.table.now (row.at + 1) row.end) (nth no_walk 1 (walks ctx (tree row.table.now (row.at + 1) row.end))) a q states (rw test_is at e) h)

-- da_rounds, da_forever
pub rounds_stop : (ctx : DaCtx) (row : Node) (body : Siblings) (after in_body : State) (r : DaResult) (stop : DaGiveUp)
    → r ≡ da_stmt ctx (forest body) in_body
    → r ≡ Err stop
    → Err stop ≡ rounds_at ctx row.table.now row.at row.end (forest body) after in_body
rounds_stop ctx row body after in_body r stop e h = rw (← e, h)

pub forever_rounds : (ctx : DaCtx) (row : Node) (body : Siblings) (a : State) (s : DaResult)
    → Children row body
    → s ≡ rounds_at ctx row.table.now row.at row.end (forest body) a a
    → s ≡ forever_at ctx row.table.now row.at row.end a
forever_rounds ctx row body a s c v = v ∙ rw (children_forest c)

pub ruleset looping = (for_init_stops, for_reads, for_body_stops, while_reads, while_rounds, repeat_stops, repeat_goes, rounds_stop, forever_rounds)
