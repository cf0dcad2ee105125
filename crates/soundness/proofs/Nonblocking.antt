-- What free order asks of a nonblocking, from the premises on nonblocking rows: those speak of words and of the reference test, the laws
-- of classes and facts. By induction over the children, place by place.
use mathlib.Core.Path.{◌≡◌, refl, sym, ◌∙◌}
use mathlib.Core.Logic.{◌⊎◌, inl, inr, ⊎_elim}
use mathlib.Core.Bool.{true, false, ◌&&◌, ◌||◌, not}
use mathlib.Core.List.{List, []}
use Prim.Native.Nat.{ℕ, zero, suc}
use lib.Dec.{eqb}
use borrow.Author.Tests.{eqb-true, not-true}
use Rattle.table.specs.Rows.{Forest, nil, node}
use Rattle.table.specs.Fold.{fold, nth, Pairwise}
use Rattle.kinds.specs.Kinds.{kinds}
use Rattle.kinds.specs.Words.{same, place_from, kind_of}
use Rattle.kinds.specs.declared.StmtClass.TheVariants.{Nonblocking}
use Rattle.kinds.specs.Named.{kind_number, numbered, expr_class, stmt_class}
use Rattle.kinds.proofs.Below.{both_true, neither, true_not_false}
use Rattle.kinds.proofs.Classes.{nonblocking_word}
use Rattle.reads.specs.declared.Iff.TheVariants.{Included}
use Rattle.reads.specs.PathRows.{is_local}
use Rattle.reads.specs.Mentions.{mentions, refers}
use Rattle.reads.specs.Iffs.{every, iff_quiet}
use Rattle.reads.proofs.Trees.{refers_row, quiet_children, quiet_others, quiet_alone, refers_quiet}
use Rattle.paths.specs.Marks.{Mark, blank_⊑}
use Rattle.paths.specs.Evaluation.{Evaluation}
use Rattle.paths.proofs.Evaluating.{evaluates_lift}
use Rattle.expr_effect.specs.Law.{is_plain, ExprFacts, facts_at, expr_facts, no_facts, NoneRefer, none_left, ExprLaw}
use Rattle.expr_effect.proofs.Laws.{none_refer}
use Rattle.stmt_paths.specs.Premises.{refers_at, refers_each, plain_at, plain_each, nonblocking_holds, nonblocking_here, nonblocking_quiet_at, nonblocking_quiet}
use Rattle.stmt_paths.proofs.PremiseTest.{either_or}
use Rattle.stmt_paths.proofs.UnderOrder.{Others}
use Rattle.da.specs.Walk.{held_facts_at, held_facts}
use Rattle.soundness.proofs.Asking.{quiet_each}

-- its timing does not refer, and its target is the plain local or does not
pub record OthersQuiet (delays : List ExprFacts) (event target : ExprFacts) : Type 0 where
  pub no_delay : NoneRefer delays
  pub no_event : event.refers ≡ false
  pub no_select : (target.plain ≡ true) ⊎ (target.refers ≡ false)

-- so they are fine wherever they are evaluated
pub others_so : {delays : List ExprFacts} {event target : ExprFacts} {ds : List Evaluation} {e t : Evaluation} → Pairwise ExprLaw delays ds → ExprLaw event e → ExprLaw target t → (m : Mark) → OthersQuiet delays event target → Others m ds e t
others_so {t = t} ld le lt m h = record {
  delays = quiet_each ld h.no_delay;
  event = (evaluates_lift blank_⊑ (le.quiet h.no_event)).value;
  selects = ⊎_elim (λ p. (evaluates_lift blank_⊑ (lt.plainly p).unread).value) (λ q. (evaluates_lift blank_⊑ (lt.quiet q)).value) h.no_select;
}

-- Of the children of a row

refers_child : (x : ℕ) (f : Forest) (n : ℕ) → iff_quiet x f ≡ true → (nth no_facts n (expr_facts x f)).refers ≡ nth false n (refers_each x f)
unfolding fold facts_at refers_at
refers_child x nil n q = refl
refers_child x (node k s lo hi cs others) zero q = refers_quiet x (node k s lo hi cs nil) (quiet_alone x k s lo hi cs others q)
refers_child x (node k s lo hi cs others) (suc n) q = refers_child x others n (quiet_others x k s lo hi cs others q)

plain_row : (x k : ℕ) (cs : Forest) → eqb k (numbered "lident") && is_local x cs ≡ true → is_plain x (expr_class k) cs ≡ true
unfolding expr_class numbered kind_number kind_of place_from kinds same
plain_row x k cs e = let p = both_true (eqb k (numbered "lident")) (is_local x cs) e in rw (eqb-true k (numbered "lident") p.0) p.1

plain_child : (x : ℕ) (f : Forest) (n : ℕ) → nth false n (plain_each x f) ≡ true → (nth no_facts n (expr_facts x f)).plain ≡ true
unfolding fold facts_at plain_at
plain_child x nil n e = true_not_false (sym e)
plain_child x (node k s lo hi cs others) zero e = plain_row x k cs e
plain_child x (node k s lo hi cs others) (suc n) e = plain_child x others n e

held_child : (x : ℕ) (f : Forest) → iff_quiet x f ≡ true → nth false 0 (refers_each x f) ≡ false → NoneRefer (nth [] 0 (held_facts x f))
unfolding fold held_facts_at refers_at
held_child x nil q e = none_left
held_child x (node k s lo hi cs others) q e = none_refer x cs (refers_quiet x cs (quiet_children x k s lo hi cs others q) ∙ (neither (mentions x (expr_class k) cs) (refers Included x cs) (sym (refers_row x k s lo hi cs) ∙ e)).1)

-- Of a row

others_quiet : (x : ℕ) (cs : Forest) → iff_quiet x cs ≡ true → nonblocking_holds (refers_each x cs) (plain_each x cs) ≡ true → OthersQuiet (nth [] 0 (held_facts x cs)) (nth no_facts 1 (expr_facts x cs)) (nth no_facts 2 (expr_facts x cs))
others_quiet x cs q h =
    let p = both_true (not (nth false 0 (refers_each x cs))) (not (nth false 1 (refers_each x cs)) && (nth false 2 (plain_each x cs) || not (nth false 2 (refers_each x cs)))) h in
    let r = both_true (not (nth false 1 (refers_each x cs))) (nth false 2 (plain_each x cs) || not (nth false 2 (refers_each x cs))) p.1 in
    record {
      no_delay = held_child x cs q (not-true _ p.0);
      no_event = refers_child x cs 1 q ∙ not-true _ r.0;
      no_select = ⊎_elim (λ e. inl (plain_child x cs 2 e)) (λ e. inr (refers_child x cs 2 q ∙ e)) (either_or _ _ r.1);
    }

module _ (x k s lo hi : ℕ) (cs others : Forest) (h : nonblocking_quiet x (node k s lo hi cs others) ≡ true) where
  parts : (nonblocking_here x k cs && nonblocking_quiet x cs ≡ true) × (nonblocking_quiet x others ≡ true)
  unfolding nonblocking_quiet fold every nonblocking_quiet_at
  parts = both_true (nonblocking_here x k cs && every (fold (nonblocking_quiet_at x) cs)) (every (fold (nonblocking_quiet_at x) others)) h

  pub row_others_quiet : iff_quiet x cs ≡ true → stmt_class k ≡ Nonblocking → OthersQuiet (nth [] 0 (held_facts x cs)) (nth no_facts 1 (expr_facts x cs)) (nth no_facts 2 (expr_facts x cs))
  unfolding nonblocking_here
  row_others_quiet q e = others_quiet x cs q (rw (nonblocking_word k e) at (both_true (nonblocking_here x k cs) (nonblocking_quiet x cs) parts.0).0)

  pub quiet_below : nonblocking_quiet x cs ≡ true
  quiet_below = (both_true (nonblocking_here x k cs) (nonblocking_quiet x cs) parts.0).1

  pub quiet_after : nonblocking_quiet x others ≡ true
  quiet_after = parts.1
