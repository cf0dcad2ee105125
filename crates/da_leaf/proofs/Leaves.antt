-- The other arms of da_stmt that walk no statement: what the functions answer, from what stands in the code where they return. Nothing
-- recurses: each is a rule of da's Walk, unfolded at a row.
use mathlib.Core.Path.{◌≡◌, refl, sym, ap, ◌∙◌}
use mathlib.Core.Bool.{Bool, true, false, not, ◌&&◌}
use mathlib.Core.List.{List, []}
use Prim.Native.Nat.{ℕ, suc, ◌+◌, ◌≤◌, ◌<◌}
use lib.Dec.{eqb, leb}
use borrow.Author.Rules.{rules}
use native.Mathlib.Omega.{arith}
use borrow.Author.Tests.{ne_eqb, leb-true, leb-false}
use Rattle.table.specs.declared.Siblings.{Siblings}
use Rattle.table.specs.declared.Node.{Node}
use Rattle.table.specs.Rows.{kind_at, side_at, lo_at, hi_at, Forest, nil, node, tree, rest}
use Rattle.table.specs.Steps.{RowAlone}
use Rattle.table.specs.Siblings.{forest, First, Children, Alone, Rest, Head}
use Rattle.table.specs.Fold.{nth}
use Rattle.table.proofs.Tree.{tree_some, tree_alone}
use Rattle.table.proofs.Parts.{forest_none, forest_some, forest_rest, nil_node}
use Rattle.kinds.specs.declared.StmtClass.{StmtClass}
use Rattle.kinds.specs.declared.StmtClass.TheVariants as K
use Rattle.kinds.proofs.Below.{true_not_false}
use Rattle.reads.specs.declared.Iff.TheVariants.{Skipped}
use Rattle.reads.specs.PathRows.{count, is_marked, is_loop_jump}
use Rattle.reads.specs.Mentions.{refers}
use Rattle.reads.specs.NoRef.{vetting, vetted, stmt_no_ref}
use Rattle.expr_effect.specs.Law.{no_facts}
use Rattle.expr_effect.proofs.Facts.{part_refers}
use Rattle.da.specs.declared.Reason.TheVariants.{ControlReads}
use Rattle.da.specs.declared.DaOut.TheVariants.{Falls}
use Rattle.da.specs.declared.DaGiveUp.{DaGiveUp}
use Rattle.std.specs.Prelude.{Ok, Err}
use Rattle.da.specs.Outcome.{DaResult, State, is_written}
use Rattle.da.specs.Walk.{DaCtx, unless_read, unless_one_read, held_facts, walk_of}
use Rattle.da_rows.specs.declared.Context.{Context}
use Rattle.da_rows.specs.Steps.{untimed, facts_in, fact_in, facts_of, fact_of, held_in, held_of, give_up_at}
use Rattle.da_leaf.specs.Steps.{event_control_at, LeafRow, leaf_at, vetted_row, referring_at}

-- is_loop_jump
pub jump_none : (marks : ℕ → Bool) (rows : Siblings) → rows.to ≤ rows.from → false ≡ is_loop_jump marks (forest rows)
unfolding is_loop_jump
jump_none marks rows h = rw (forest_none rows h)

module _ (marks : ℕ → Bool) (rows segments : Siblings) (path : Node) (f : First rows path) (c : Children path segments) where
  pub jump_empty : segments.to ≤ segments.from → false ≡ is_loop_jump marks (forest rows)
  unfolding is_loop_jump count
  jump_empty h = rw (forest_some f c, forest_none segments h)

  module _ (segment : Node) (others : Siblings) (b : Bool) (g : First segments segment) (r : Rest segments others) (e : b ≡ leb others.to others.from) where
    jump_some : is_loop_jump marks (forest rows) ≡ eqb (suc (count (forest others))) 1 && marks (side_at segment.table.now segment.at)
    unfolding is_loop_jump count is_marked rest
    jump_some = rw (forest_some f c, forest_rest r, tree_some segments.nested g.some, g.same, g.starts)

    counted : (f : Forest) → f ≡ forest others → (left : Bool) → b ≡ left → eqb (suc (count f)) 1 ≡ left
    unfolding count
    counted nil q true t = refl
    counted nil q false t = let h : others.from < others.to = leb-false others.to others.from (sym e ∙ t) in nil_node (q ∙ tree_some others.nested h)
    counted (node k s lo hi cs others') q true t = let h : others.to ≤ others.from = leb-true others.to others.from (sym e ∙ t) in nil_node (sym (q ∙ forest_none others h))
    counted (node k s lo hi cs others') q false t = ne_eqb (suc (suc (count others'))) 1 (λ v. omega arith)

    pub jump_more : b ≡ false → b ≡ is_loop_jump marks (forest rows)
    jump_more t = t ∙ sym (jump_some ∙ rw (counted (forest others) refl false t))

    pub jump_one : (s : ℕ) (r : Bool) → b ≡ true → s ≡ side_at segment.table.now segment.at → r ≡ marks s → r ≡ is_loop_jump marks (forest rows)
    jump_one s r t v w = w ∙ rw v (sym (jump_some ∙ rw (counted (forest others) refl true t)))

pub ruleset jumps = (jump_none, jump_empty, jump_more, jump_one)

-- da_eventctrl
module _ (x : ℕ) (row : Node) (below event : Siblings) (a : State) (b : Bool) (c : Children row below) (t : Head below event) (e : b ≡ not a && refers Skipped x (forest event)) where
  control_asks : not (is_written a) && (fact_in x row.table.now (row.at + 1) row.end).refers ≡ b
  control_asks = rw (← c.same, ← c.starts, ← c.ends, part_refers x t) (sym e)

  pub control_stops : (stop : DaGiveUp) → b ≡ true → stop ≡ give_up_at row.table.now row.at ControlReads → Err stop ≡ event_control_at x row.table.now row.at row.end a
  control_stops stop h s = rw (control_asks, h, s)

  pub control_goes : b ≡ false → Ok (Falls a) ≡ event_control_at x row.table.now row.at row.end a
  control_goes h = rw (control_asks, h)

-- what is asked of what a row holds
module _ (x : ℕ) (row : Node) (below : Siblings) (a : State) (c : Children row below) where
  below_facts : facts_of x below ≡ facts_in x row.table.now (row.at + 1) row.end
  below_facts = rw (c.same, c.starts, c.ends)

  pub below_read : (next r : DaResult) → r ≡ unless_read (fact_of x below) a next → r ≡ unless_read (fact_in x row.table.now (row.at + 1) row.end) a next
  below_read next r e = e ∙ ap (λ es. unless_read (nth no_facts 0 es) a next) below_facts

  pub below_held : (next r : DaResult) → r ≡ unless_one_read (held_of x below) a next → r ≡ unless_one_read (held_in x row.table.now (row.at + 1) row.end) a next
  below_held next r e = e ∙ rw (c.same, c.starts, c.ends)

pub ruleset leaves = (rules, control_stops, control_goes, below_read, below_held)

-- da_leaf: the row by what stmt_no_ref answers of it
abbrev leaf_with : DaCtx → List ℕ → StmtClass → ℕ → ℕ → Bool → State → DaResult
leaf_with ctx rows class i end clear a =
    (walk_of ctx class (vetted_row ctx rows i end clear) (facts_in ctx.local rows (i + 1) end) (held_facts ctx.local (tree rows (i + 1) end)) []).walk a

tree_row : {rows : List ℕ} {i end : ℕ} → RowAlone rows i end → tree rows i end ≡ node (kind_at rows i) (side_at rows i) (lo_at rows i) (hi_at rows i) (tree rows (i + 1) end) nil
tree_row l = rw l.is (tree_alone l.alone l.after)

module _ (ctx : Context) (row : Node) (class : StmtClass) (a : State) (clear : Bool) (l : LeafRow row.table.now class row.at row.end) (alone : Siblings) (o : Alone row alone) (e : clear ≡ stmt_no_ref ctx.local (forest alone)) where
  abbrev rows : List ℕ
  rows = row.table.now

  abbrev i : ℕ
  i = row.at

  abbrev end : ℕ
  end = row.end

  alone_is : clear ≡ stmt_no_ref ctx.local (tree rows i end)
  alone_is = e ∙ rw (o.same, o.starts, o.ends)

  row_tree_lem : tree rows i end ≡ node (kind_at rows i) (side_at rows i) (lo_at rows i) (hi_at rows i) (tree rows (i + 1) end) nil
  row_tree_lem = tree_row l.row

  leaf_is : leaf_at (untimed ctx) rows class i end a ≡ leaf_with (untimed ctx) rows class i end clear a
  leaf_is = rw (alone_is, row_tree_lem)

  pub leaf_refers : (r : DaResult) → clear ≡ false → r ≡ referring_at (untimed ctx) rows class i end a → r ≡ leaf_at (untimed ctx) rows class i end a
  leaf_refers r h v = v ∙ sym (leaf_is ∙ rw h)

  -- "if stmt_no_ref(st, name) { return Ok(DaOut::Falls(assigned)); }"
  vetted_falls : (named : StmtClass) → vetted (vetting named) ctx.local (tree rows (i + 1) end) ≡ true → Ok (Falls a) ≡ leaf_with (untimed ctx) rows named i end true a
  vetted_falls K.Absent h = refl
  vetted_falls K.Match h = refl
  vetted_falls K.Default h = refl
  vetted_falls K.Decl h = true_not_false (sym h)
  vetted_falls K.Blocking h = refl
  vetted_falls K.Nonblocking h = refl
  vetted_falls K.If h = refl
  vetted_falls K.Return h = refl
  vetted_falls K.Case h = refl
  vetted_falls K.For h = refl
  vetted_falls K.While h = refl
  vetted_falls K.Repeat h = refl
  vetted_falls K.Forever h = refl
  vetted_falls K.Block h = refl
  vetted_falls K.Fork h = refl
  vetted_falls K.Systask h = refl
  vetted_falls K.Task h = refl
  vetted_falls K.Delayctrl h = refl
  vetted_falls K.Eventctrl h = refl
  vetted_falls K.Wait h = refl
  vetted_falls K.Disable h = true_not_false (sym h)
  vetted_falls K.Null h = refl
  vetted_falls K.Unmodelled h = refl
  vetted_falls K.NoStmt h = refl

  pub leaf_clear : clear ≡ true → Ok (Falls a) ≡ leaf_at (untimed ctx) rows class i end a
  unfolding stmt_no_ref
  leaf_clear h =
      let v : vetted (vetting class) ctx.local (tree rows (i + 1) end) ≡ true = rw l.is (rw (row_tree_lem, h) at (sym alone_is)) in
      vetted_falls class v ∙ sym (leaf_is ∙ rw h)

pub ruleset leaf_answers = (rules, leaf_refers, leaf_clear)
