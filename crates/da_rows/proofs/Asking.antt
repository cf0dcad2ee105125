-- What is asked of expressions, from what stands in the code where it returns: by cases over the state and the effect. Of several
-- expressions by induction over their list, in the code by a loop over siblings.
use mathlib.Core.Path.{◌≡◌, refl, sym, ap, ◌∙◌}
use mathlib.Core.Bool.{Bool, true, false, cond, not, ◌&&◌}
use mathlib.Core.List.{List, [], ◌∷◌}
use Prim.Native.Nat.{ℕ, ◌+◌, ◌≤◌, ◌<◌}
use native.Mathlib.Omega.{arith}
use lib.Dec.{ltb}
use borrow.Author.Rules.{rules}
use borrow.Author.Tests.{ltb-true, ltb-false, lt-ltb, le-ltb}
use Rattle.table.specs.declared.Siblings.{Siblings}
use Rattle.table.specs.declared.Node.{Node}
use Rattle.table.specs.Rows.{lo_at, hi_at, end_at, tree, Nested}
use Rattle.table.specs.Siblings.{First, Children, Rest}
use Rattle.table.proofs.Fold.{fold_none, fold_some, fold_step}
use Rattle.effect_rules.specs.declared.ExprDa.{ExprDa}
use Rattle.effect_rules.specs.declared.ExprDa.TheVariants.{Clean, Writes, Reads}
use Rattle.effect_rules.specs.declared.ExprEffect.{ExprEffect}
use Rattle.effect_rules.specs.Rules.{no_effect}
use Rattle.expr_effect.specs.Law.{ExprFacts, no_facts, facts_at, EffectTold}
use Rattle.expr_effect.proofs.Facts.{fact_none, fact_lo, fact_hi}
use Rattle.da.specs.declared.DaOut.{DaOut}
use Rattle.da.specs.declared.DaOut.TheVariants.{Falls}
use Rattle.da.specs.declared.DaGiveUp.{DaGiveUp}
use Rattle.std.specs.Prelude.{Result, Ok, Err}
use Rattle.da.specs.declared.Reason.TheVariants.{ReadUnwritten}
use Rattle.da.specs.Outcome.{DaResult, State, is_written, gains, ◌▷◌, reason_number}
use Rattle.da.specs.Walk.{expr_reads, expr_out_writes, unless_read, unless_one_read, held_facts_at}
use Rattle.da_rows.specs.declared.States.{States}
use Rattle.da_rows.specs.Steps.{first_lo, first_hi, facts_in, fact_in, facts_of, fact_of, held_of, read_in, always, states_after, evaluation, onward}

-- the span of the facts of the first row
module _ (x : ℕ) {rows : List ℕ} {from to : ℕ} (g : Nested rows from to) where
  fact_span : (b : Bool) → ltb from to ≡ b → ((fact_in x rows from to).lo ≡ first_lo rows from to) × ((fact_in x rows from to).hi ≡ first_hi rows from to)
  fact_span true q = let h : from < to = ltb-true from to q in (fact_lo x g h ∙ rw q, fact_hi x g h ∙ rw q)
  fact_span false q = let h : to ≤ from = ltb-false from to q in (rw (fact_none x rows from to h, q), rw (fact_none x rows from to h, q))

-- read_at
module _ (rows : Siblings) where
  pub read_some : (row : Node) (stop : DaGiveUp) → First rows row → stop ≡ record { reason = reason_number ReadUnwritten; lo = lo_at row.table.now row.at; hi = hi_at row.table.now row.at } → stop ≡ read_in rows
  read_some row stop f e = e ∙ rw (f.same, f.starts, lt-ltb rows.from rows.to f.some)

  pub read_none : rows.to ≤ rows.from → record { reason = reason_number ReadUnwritten; lo = 0; hi = 0 } ≡ read_in rows
  read_none h = rw (le-ltb rows.from rows.to h)

-- evaluate: where all is written nothing is asked, where every row is quiet there is no effect, and else the effect decides
pub evaluate_written : (e : ExprFacts) (a : State) (states : States) → a ≡ true → states ≡ always true → Ok states ≡ evaluation e a
unfolding evaluation
evaluate_written e a states h s = rw (h, s)

module _ (x : ℕ) (rows : List ℕ) (from to : ℕ) (a : State) (o : ExprEffect) (h : a ≡ false) (told : EffectTold x (tree rows from to) o) where
  pub evaluate_reads : (stop : DaGiveUp)
      → o.effect ≡ Reads
      → Nested rows from to
      → stop ≡ record { reason = reason_number ReadUnwritten; lo = first_lo rows from to; hi = first_hi rows from to }
      → Err stop ≡ evaluation (fact_in x rows from to) a
  unfolding evaluation
  evaluate_reads stop q g e =
      let span = fact_span x g (ltb from to) refl in
      rw (e, h, told.facts, q, span.0, span.1)

  pub evaluate_writes : (states : States) → o.effect ≡ Writes → states ≡ always true → Ok states ≡ evaluation (fact_in x rows from to) a
  unfolding evaluation
  evaluate_writes states q s = rw (h, told.facts, q, s)

  pub evaluate_clean : o.effect ≡ Clean → Ok (record { after = false; when_true = o.when_true; when_false = o.when_false }) ≡ evaluation (fact_in x rows from to) a
  unfolding evaluation
  evaluate_clean q = rw (h, told.facts, q)

pub evaluate_quiet : (x : ℕ) (rows : List ℕ) (from to : ℕ) (a : State) (b : Bool) (states : States)
    → a ≡ false
    → (b ≡ true → EffectTold x (tree rows from to) no_effect)
    → b ≡ true
    → states ≡ always false
    → Ok states ≡ evaluation (fact_in x rows from to) a
evaluate_quiet x rows from to a b states h told t s = ap Ok s ∙ evaluate_clean x rows from to a no_effect h (told t) refl

pub ruleset evaluates = (evaluate_written, evaluate_reads, evaluate_writes, evaluate_clean, evaluate_quiet)

-- an expression of which no write is claimed is asked in the same way
pub unless_onward : (e : ExprFacts) (a : State) (next : DaResult) → unless_read e a next ≡ onward (evaluation e a) (λ states. next)
unfolding evaluation
unless_onward e a next = go a e.effects.effect refl
  where
    go : (b : State) (d : ExprDa) → e.effects.effect ≡ d → unless_read e b next ≡ onward (evaluation e b) (λ states. next)
    go true d q = refl
    go false Clean q = rw q
    go false Writes q = rw q
    go false Reads q = rw q

-- and one whose write is: "the read is asked of `after`"
after_onward : (e : ExprFacts) (a : State) (next : DaResult) → unless_read e (gains (expr_out_writes e) a) next ≡ onward (evaluation e a) (λ states. next)
unfolding evaluation
after_onward e a next = go a e.effects.effect refl
  where
    go : (b : State) (d : ExprDa) → e.effects.effect ≡ d → unless_read e (gains (expr_out_writes e) b) next ≡ onward (evaluation e b) (λ states. next)
    go true d q = refl
    go false Clean q = rw q
    go false Writes q = rw q
    go false Reads q = rw q

goes_to : (b : Bool) (stop : DaGiveUp) (s t : States) → cond b (Err stop) (Ok s) ≡ Ok t → t ≡ s
goes_to true stop s t h = cc
goes_to false stop s t h = cc

module _ (e : ExprFacts) (a : State) (q : Result States DaGiveUp) (v : q ≡ evaluation e a) where
  pub unread_stops : (stop : DaGiveUp) (next : DaResult) → q ≡ Err stop → Err stop ≡ unless_read e a next
  unread_stops stop next h = sym (unless_onward e a next ∙ rw (← v, h))

  pub unread_goes : (states : States) (next : DaResult) → q ≡ Ok states → next ≡ unless_read e a next
  unread_goes states next h = sym (unless_onward e a next ∙ rw (← v, h))

  -- the states that are told, and what follows where the read is asked of the one after
  pub states_are : (states : States) → q ≡ Ok states → states ≡ states_after e a
  unfolding evaluation
  states_are states h =
      goes_to (not (is_written (gains (expr_out_writes e) a)) && expr_reads e) (record { reason = reason_number ReadUnwritten; lo = e.lo; hi = e.hi }) (states_after e a) states (sym v ∙ h)

  pub evaluated_stops : (stop : DaGiveUp) (next : DaResult) → q ≡ Err stop → Err stop ≡ unless_read e (gains (expr_out_writes e) a) next
  evaluated_stops stop next h = sym (after_onward e a next ∙ rw (← v, h))

  pub evaluated_goes : (states : States) (next : DaResult) → q ≡ Ok states → next ≡ unless_read e (gains (expr_out_writes e) a) next
  evaluated_goes states next h = sym (after_onward e a next ∙ rw (← v, h))

-- what follows an expression that may stop the walk
pub unless_then : (e : ExprFacts) (a : State) (next : DaResult) → unless_read e a next ≡ unless_read e a (Ok (Falls a)) ▷ λ out. next
unless_then e a next = unless_onward e a next ∙ go (evaluation e a) refl
  where
    go : (q : Result States DaGiveUp) → evaluation e a ≡ q → onward (evaluation e a) (λ states. next) ≡ unless_read e a (Ok (Falls a)) ▷ λ out. next
    go (Ok states) h = rw (unless_onward e a (Ok (Falls a)), h)
    go (Err stop) h = rw (unless_onward e a (Ok (Falls a)), h)

-- and several of them
pub unless_one_then : (es : List ExprFacts) (a : State) (next : DaResult) → unless_one_read es a next ≡ unless_one_read es a (Ok (Falls a)) ▷ λ out. next
unless_one_then [] a next = refl
unless_one_then (e ∷ es) a next = unless_then e a (unless_one_read es a next) ∙ rw (unless_then e a (unless_one_read es a (Ok (Falls a))), unless_one_then es a next) (go (unless_read e a (Ok (Falls a))))
  where
    go : (r : DaResult) → (r ▷ λ out. unless_one_read es a (Ok (Falls a)) ▷ λ out. next) ≡ (r ▷ λ out. unless_one_read es a (Ok (Falls a))) ▷ λ out. next
    go (Ok out) = refl
    go (Err stop) = refl

-- unless_one_read: a loop over the siblings
module _ (x : ℕ) (rows left : Siblings) (a : State) (w : unless_one_read (facts_of x rows) a (Ok (Falls a)) ≡ unless_one_read (facts_of x left) a (Ok (Falls a))) where
  pub ones_done : left.to ≤ left.from → Ok (Falls a) ≡ unless_one_read (facts_of x rows) a (Ok (Falls a))
  ones_done h = sym (w ∙ rw (fold_none (facts_at x) left.table.now left.from left.to h))

  module _ (r : DaResult) (h : left.from < left.to) (e : r ≡ unless_read (fact_of x left) a (Ok (Falls a))) where
    ones_step : (n : ℕ) → n ≡ end_at left.table.now left.from → unless_one_read (facts_of x left) a (Ok (Falls a)) ≡ r ▷ λ out. unless_one_read (facts_in x left.table.now n left.to) a (Ok (Falls a))
    ones_step n p =
        ap (λ fs. unless_one_read fs a (Ok (Falls a))) (fold_step (facts_at x) no_facts left.nested h p)
        ∙ unless_then (fact_of x left) a (unless_one_read (facts_in x left.table.now n left.to) a (Ok (Falls a)))
        ∙ rw (← e)

    pub ones_stop : (stop : DaGiveUp) → r ≡ Err stop → Err stop ≡ unless_one_read (facts_of x rows) a (Ok (Falls a))
    ones_stop stop o = sym (w ∙ ones_step (end_at left.table.now left.from) refl ∙ rw o)

    pub ones_on : (out : DaOut) (next : Siblings) → r ≡ Ok out → Rest left next → unless_one_read (facts_of x rows) a (Ok (Falls a)) ≡ unless_one_read (facts_of x next) a (Ok (Falls a))
    ones_on out next o t = w ∙ ones_step next.from (t.starts ∙ rw (lt-ltb left.from left.to h)) ∙ rw (o, t.same, t.ends)

-- unless_held_read: what the first row holds
module _ (x : ℕ) (rows : Siblings) (a : State) where
  pub held_none : rows.to ≤ rows.from → Ok (Falls a) ≡ unless_one_read (held_of x rows) a (Ok (Falls a))
  held_none h = rw (fold_none (held_facts_at x) rows.table.now rows.from rows.to h)

  pub held_some : (r : DaResult) (row : Node) (below : Siblings)
      → First rows row
      → Children row below
      → r ≡ unless_one_read (facts_of x below) a (Ok (Falls a))
      → r ≡ unless_one_read (held_of x rows) a (Ok (Falls a))
  unfolding held_facts_at
  held_some r row below f b e = e ∙ rw (b.same, b.starts, b.ends, f.same, f.starts, f.ends, fold_some (held_facts_at x) rows.nested f.some)

  -- a row that holds nothing
  pub held_bare : (next : Siblings) → Rest rows next → next.from ≤ rows.from + 1 → Ok (Falls a) ≡ unless_one_read (held_of x rows) a (Ok (Falls a))
  unfolding held_facts_at
  held_bare next t l = go (ltb rows.from rows.to) refl
    where
      go : (b : Bool) → ltb rows.from rows.to ≡ b → Ok (Falls a) ≡ unless_one_read (held_of x rows) a (Ok (Falls a))
      go true e =
          let z : next.from ≡ end_at rows.table.now rows.from = t.starts ∙ rw e in
          rw (fold_some (held_facts_at x) rows.nested (ltb-true rows.from rows.to e), fold_none (facts_at x) rows.table.now (rows.from + 1) (end_at rows.table.now rows.from) (omega arith))
      go false e = held_none (ltb-false rows.from rows.to e)

pub ruleset unread = (rules, unread_stops, unread_goes, ones_done, ones_stop, ones_on, held_none, held_some, held_bare)
