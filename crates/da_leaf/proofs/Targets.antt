-- Assignments, and the plain local as a target: what the functions answer, from what stands in the code where they return. Nothing
-- recurses: each part is asked from the state that the part before it leaves.
use mathlib.Core.Path.{◌≡◌, refl, sym, ap, ◌∙◌}
use mathlib.Core.Bool.{Bool, true, false, cond, not, ◌&&◌, not-not}
use mathlib.Core.List.{List}
use Prim.Native.Nat.{ℕ, ◌+◌, ◌≤◌, ◌<◌}
use borrow.Author.Rules.{rules}
use Rattle.table.specs.declared.Siblings.{Siblings}
use Rattle.table.specs.declared.Node.{Node}
use Rattle.table.specs.Rows.{kind_at, end_at, Forest, tree}
use Rattle.table.specs.Siblings.{forest, First, Children, Rest, Head}
use Rattle.table.specs.Fold.{nth}
use Rattle.table.proofs.Parts.{fold_next_part}
use Rattle.kinds.specs.declared.ExprClass.{ExprClass}
use Rattle.kinds.specs.declared.ExprClass.TheVariants.{Ident, Call, Lident, Opaque, Event, Unary, Binary, Ternary, Paren, Other}
use Rattle.kinds.specs.Named.{expr_class}
use Rattle.reads.specs.declared.Iff.TheVariants.{Skipped}
use Rattle.reads.specs.PathRows.{is_local}
use Rattle.reads.specs.Mentions.{refers}
use Rattle.reads.specs.NoRef.{lvalue_no_ref}
use Rattle.expr_effect.specs.Law.{ExprFacts, no_facts, facts_at, is_plain}
use Rattle.expr_effect.proofs.Facts.{fact_none, fact_plain, part_refers}
use Rattle.da.specs.declared.Reason.TheVariants.{SharedNet, EventReads, PartWritten}
use Rattle.da.specs.declared.DaOut.{DaOut}
use Rattle.da.specs.declared.DaOut.TheVariants.{Falls}
use Rattle.da.specs.declared.DaGiveUp.{DaGiveUp}
use Rattle.std.specs.Prelude.{Result, Ok, Err}
use Rattle.da.specs.Outcome.{DaResult, State, is_written, gains, ◌▷◌}
use Rattle.da.specs.Walk.{expr_out_writes, unless_one_read}
use Rattle.da_rows.specs.declared.Context.{Context}
use Rattle.da_rows.specs.declared.States.{States}
use Rattle.da_rows.specs.Steps.{facts_in, facts_of, fact_of, held_in, held_of, evaluation, give_up_at}
use Rattle.da_leaf.specs.Steps.{only_written_at, is_lident, target_at, assign_at, event_at, blocking_at, scheduled, nonblocking_at}
use Rattle.da_rows.proofs.Asking.{unread_stops, unread_goes, states_are, unless_one_then}

-- is_plain
plain_is : (x : ℕ) (k : ExprClass) (cs : Forest) → is_plain x k cs ≡ is_lident k && is_local x cs
plain_is x Lident cs = refl
plain_is x Ident cs = refl
plain_is x Call cs = refl
plain_is x Opaque cs = refl
plain_is x Event cs = refl
plain_is x Unary cs = refl
plain_is x Binary cs = refl
plain_is x Ternary cs = refl
plain_is x Paren cs = refl
plain_is x Other cs = refl

pub plain_none : (x : ℕ) (rows : Siblings) → rows.to ≤ rows.from → false ≡ (fact_of x rows).plain
plain_none x rows h = rw (fact_none x rows.table.now rows.from rows.to h)

module _ (x : ℕ) (rows : Siblings) (row : Node) (n : ℕ) (k : ExprClass) (b : Bool) (f : First rows row) (p : n ≡ kind_at row.table.now row.at) (q : k ≡ expr_class n) (e : b ≡ is_lident k) where
  plain_first : (fact_of x rows).plain ≡ b && is_local x (tree row.table.now (row.at + 1) row.end)
  plain_first =
      fact_plain x rows.nested f.some
      ∙ plain_is x (expr_class (kind_at rows.table.now rows.from)) (tree rows.table.now (rows.from + 1) (end_at rows.table.now rows.from))
      ∙ rw (e, q, p, f.same, f.starts, f.ends)

  pub plain_other : b ≡ false → b ≡ (fact_of x rows).plain
  plain_other t = t ∙ sym (plain_first ∙ rw t)

  pub plain_local : (below : Siblings) (r : Bool) → b ≡ true → Children row below → r ≡ is_local x (forest below) → r ≡ (fact_of x rows).plain
  plain_local below r t c v = v ∙ sym (plain_first ∙ rw (t, ← c.same, ← c.starts, ← c.ends))

-- da_target
written_falls : (g : State) (stop : DaGiveUp) → cond (is_written g) (Ok (Falls g)) (Err stop) ≡ cond (is_written g) (Ok (Falls true)) (Err stop)
written_falls true stop = refl
written_falls false stop = refl

module _ (x : ℕ) (row : Node) (target : Siblings) (after a : State) (p : Bool) (e : p ≡ (fact_of x target).plain) where
  pub target_plain : p ≡ true → Ok (Falls true) ≡ target_at x row target after a
  target_plain h = rw (← e, h)

  pub target_other : (alone : Siblings) (clear g : Bool) (r : DaResult)
      → p ≡ false
      → Head target alone
      → clear ≡ lvalue_no_ref x (forest alone)
      → g ≡ cond (not clear) a after
      → r ≡ only_written_at row.table.now row.at PartWritten g
      → r ≡ target_at x row target after a
  target_other alone clear g r h s c v w =
      w
      ∙ sym (written_falls g (give_up_at row.table.now row.at PartWritten))
      ∙ sym (rw (← e, h, part_refers x s, ← not-not (refers Skipped x (forest alone)), ← c, ← v))

-- da_assign: the write of the right side counts where the target does not refer
gains_unless : (r w : Bool) (a : State) → gains (not r && w) a ≡ cond r a (gains w a)
gains_unless true w true = refl
gains_unless true w false = refl
gains_unless false w a = refl

after_is : (e : ExprFacts) (a : State) (q : Result States DaGiveUp) (states : States) → q ≡ evaluation e a → q ≡ Ok states → states.after ≡ gains (expr_out_writes e) a
after_is e a q states v h = ap (λ (s : States). s.after) (states_are e a q v states h)

module _ (x : ℕ) (row : Node) (target right : Siblings) (a : State) (q : Result States DaGiveUp) (t : Rest target right) (v : q ≡ evaluation (fact_of x right) a) where
  right_is : fact_of x right ≡ nth no_facts 1 (facts_of x target)
  right_is = fold_next_part (facts_at x) no_facts 0 t

  pub assign_stops : (stop : DaGiveUp) → q ≡ Err stop → Err stop ≡ assign_at x row target a
  assign_stops stop h = unread_stops _ a q (rw right_is at v) stop _ h

  pub assign_goes : (states : States) (r : DaResult) → q ≡ Ok states → r ≡ target_at x row target states.after a → r ≡ assign_at x row target a
  assign_goes states r h e =
      e
      ∙ rw (after_is (fact_of x right) a q states v h, ← gains_unless, right_is)
      (unread_goes _ a q (rw right_is at v) states _ h)

-- da_event
module _ (x : ℕ) (row : Node) (event alone : Siblings) (a b : State) (t : Head event alone) (e : b ≡ not a && refers Skipped x (forest alone)) where
  event_asks : not (is_written a) && (fact_of x event).refers ≡ b
  event_asks = rw (part_refers x t) (sym e)

  pub event_stops : (stop : DaGiveUp) → b ≡ true → stop ≡ give_up_at row.table.now row.at EventReads → Err stop ≡ event_at x row event a
  event_stops stop h s = rw (event_asks, h, s)

  pub event_goes : (target : Siblings) (r : DaResult) → b ≡ false → Rest event target → r ≡ assign_at x row target a → r ≡ event_at x row event a
  event_goes target r h u v = v ∙ rw (event_asks, h, fold_next_part (facts_at x) no_facts 0 u, fold_next_part (facts_at x) no_facts 1 u)

-- da_blocking
module _ (x : ℕ) (row : Node) (below : Siblings) (a : State) (r : DaResult) (c : Children row below) (e : r ≡ unless_one_read (held_of x below) a (Ok (Falls a))) where
  delay_then : (next : DaResult) → unless_one_read (held_in x row.table.now (row.at + 1) row.end) a next ≡ r ▷ λ out. next
  delay_then next = unless_one_then (held_in x row.table.now (row.at + 1) row.end) a next ∙ rw (← c.same, ← c.starts, ← c.ends, ← e)

  pub blocking_stops : (stop : DaGiveUp) → r ≡ Err stop → Err stop ≡ blocking_at x row.table.now row.at row.end a
  blocking_stops stop h = sym (delay_then _ ∙ rw h)

  pub blocking_goes : (out : DaOut) (event : Siblings) (s : DaResult)
      → r ≡ Ok out
      → Rest below event
      → s ≡ event_at x row event a
      → s ≡ blocking_at x row.table.now row.at row.end a
  blocking_goes out event s h t v =
      let fs : facts_of x below ≡ facts_in x row.table.now (row.at + 1) row.end = rw (c.same, c.starts, c.ends) in
      v
      ∙ rw (fold_next_part (facts_at x) no_facts 0 t, fold_next_part (facts_at x) no_facts 1 t, fold_next_part (facts_at x) no_facts 2 t, fs)
      (sym (delay_then _ ∙ rw h))

-- da_scheduled
module _ (e : ExprFacts) (a : State) (q : Result States DaGiveUp) (v : q ≡ evaluation e a) where
  pub scheduled_stops : (stop : DaGiveUp) → q ≡ Err stop → Err stop ≡ scheduled e a
  scheduled_stops stop h = unread_stops e a q v stop _ h

  pub scheduled_goes : (states : States) → q ≡ Ok states → Ok (Falls states.after) ≡ scheduled e a
  scheduled_goes states h = rw (after_is e a q states v h) (unread_goes e a q v states _ h)

-- da_nonblocking
module _ (ctx : Context) (row : Node) (a : State) where
  pub shared_stops : (stop : DaGiveUp) → not ctx.sole ≡ true → stop ≡ give_up_at row.table.now row.at SharedNet → Err stop ≡ nonblocking_at ctx row.table.now row.at row.end a
  shared_stops stop h e = rw (h, e)

  pub sole_goes : (below event target right : Siblings) (r : DaResult)
      → not ctx.sole ≡ false
      → Children row below
      → Rest below event
      → Rest event target
      → Rest target right
      → r ≡ scheduled (fact_of ctx.local right) a
      → r ≡ nonblocking_at ctx row.table.now row.at row.end a
  sole_goes below event target right r h c t s u v =
      let fs : facts_of ctx.local below ≡ facts_in ctx.local row.table.now (row.at + 1) row.end = rw (c.same, c.starts, c.ends) in
      v
      ∙ rw
      (h, fold_next_part (facts_at ctx.local) no_facts 0 u, fold_next_part (facts_at ctx.local) no_facts 1 s, fold_next_part (facts_at ctx.local) no_facts 2 t, fs)

pub ruleset targets = (rules, target_plain, target_other, assign_stops, assign_goes, event_stops, event_goes, blocking_stops, blocking_goes, scheduled_stops, scheduled_goes, shared_stops, sole_goes)
