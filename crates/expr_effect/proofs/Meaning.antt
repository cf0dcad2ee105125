-- What the answers say of a single run of a row that is evaluated, where no iff of it refers to the local: the law of the row, read off
-- by what a triple says of a run. Nothing recurses.
use Prim.Native.Nat.{ℕ}
use mathlib.Core.Path.{◌≡◌, refl, subst, ap, ◌∙◌}
use mathlib.Core.Bool.{Bool, true, false}
use mathlib.Core.List.{List, ◌∷◌, ◌++◌}
use Rattle.table.specs.Rows.{Forest, nil, node}
use Rattle.table.specs.Fold.{nth}
use Rattle.kinds.specs.declared.ExprClass.TheVariants.{Lident}
use Rattle.kinds.specs.Named.{expr_class}
use Rattle.reads.specs.declared.Iff.TheVariants.{Skipped}
use Rattle.reads.specs.PathRows.{is_local}
use Rattle.reads.specs.Mentions.{refers}
use Rattle.reads.specs.Iffs.{iff_quiet}
use Rattle.paths.specs.Marks.{blank, full}
use Rattle.paths.specs.Commands.{PathEvent, read, Ending, falls, Runs}
use Rattle.paths.specs.Silence.{Silent}
use Rattle.paths.specs.Evaluation.{Evaluation, Truth, no_evaluation, evaluations}
use Rattle.paths.specs.Semantics.{Semantics}
use Rattle.paths.specs.Evaluates.{Meets, Evaluates}
use Rattle.paths.proofs.Evaluating.{evaluates_forget}
use Rattle.paths.specs.Written.{Written}
use Rattle.paths.proofs.Meaning.{read_is_written, fall_is_written}
use Rattle.effect_rules.specs.declared.ExprDa.{ExprDa}
use Rattle.effect_rules.specs.declared.ExprDa.TheVariants.{Clean, Writes, Reads}
use Rattle.effect_rules.specs.Rules.{writes_when}
use Rattle.expr_effect.specs.Effect.{expr_effect_of, expr_da, expr_writes_when}
use Rattle.expr_effect.specs.Law.{EffectLaw, WhenLaw, ExprLaw, expr_facts, no_facts}
use Rattle.expr_effect.proofs.Laws.{facts_effects, facts_refers, facts_plain, effect_told}

not_reads : (d : ExprDa) (e : Evaluation) → (d ≡ Reads → ⊥) → EffectLaw d e → Evaluates blank blank e
not_reads Clean e n h = h
not_reads Writes e n h = evaluates_forget h
not_reads Reads e n h = absurd (n refl)

module _ (sem : Semantics) (x k s lo hi : ℕ) (cs : Forest) (q : iff_quiet x (node k s lo hi cs nil) ≡ true) where
  abbrev row : Forest
  row = node k s lo hi cs nil

  abbrev evaluated : Evaluation
  evaluated = nth no_evaluation 0 (evaluations sem x row)

  law : ExprLaw (nth no_facts 0 (expr_facts x row)) evaluated
  law = (effect_told x row (expr_effect_of x row 0) refl).law sem q

  effect_law : EffectLaw (expr_da x row 0) evaluated
  effect_law = subst (λ o. EffectLaw o.effect evaluated) (facts_effects x row 0) law.effect

  -- Writes: whoever goes on with its value, or its truth, has written
  module _ (w : expr_da x row 0 ≡ Writes) (t : List PathEvent) where
    written : Evaluates blank full evaluated
    written = subst (λ d. EffectLaw d evaluated) w effect_law

    pub value_written : Runs evaluated.value t falls → Written t
    value_written r = fall_is_written t written.value r

    pub truth_written : (b : Truth) → Runs (evaluated.truth b) t falls → Written t
    truth_written b r = fall_is_written t (written.truth b) r

  -- unless Reads: a read has a write before it
  module _ (n : expr_da x row 0 ≡ Reads → ⊥) (t u : List PathEvent) (end : Ending) where
    pub value_read : Runs evaluated.value (t ++ (read ∷ u)) end → Written t
    value_read r = read_is_written t u read end (not_reads (expr_da x row 0) evaluated n effect_law).value (λ z. z) r

    pub truth_read : (b : Truth) → Runs (evaluated.truth b) (t ++ (read ∷ u)) end → Written t
    truth_read b r = read_is_written t u read end ((not_reads (expr_da x row 0) evaluated n effect_law).truth b) (λ z. z) r

  -- the writing on an outcome
  module _ (t : List PathEvent) where
    when_law : (want : Bool) (c : Truth) → WhenLaw (writes_when (nth no_facts 0 (expr_facts x row)).effects want) (evaluated.truth c) → expr_writes_when x row 0 want ≡ true → Runs (evaluated.truth c) t falls → Written t
    when_law want c h w r = fall_is_written t (subst (λ b. WhenLaw b (evaluated.truth c)) (ap (λ o. writes_when o want) (facts_effects x row 0) ∙ w) h) r

    -- once it has come out so, or unknown
    pub wanted_written : (want : Bool) (c : Truth) → Meets want c → expr_writes_when x row 0 want ≡ true → Runs (evaluated.truth c) t falls → Written t
    wanted_written want c m = when_law want c (law.when want c m)

  -- no reference: nothing is read, in whatever way the row is evaluated
  module _ (n : refers Skipped x row ≡ false) (t : List PathEvent) (end : Ending) where
    pub value_silent : Runs evaluated.value t end → Silent t
    value_silent = (law.silent (facts_refers x k s lo hi cs nil ∙ n)).value.go t end

    pub truth_silent : (b : Truth) → Runs (evaluated.truth b) t end → Silent t
    truth_silent b = ((law.silent (facts_refers x k s lo hi cs nil ∙ n)).truth b).go t end

    pub store_silent : Runs evaluated.store t end → Silent t
    store_silent = (law.silent (facts_refers x k s lo hi cs nil ∙ n)).store.go t end

  -- the plain local as a target: whoever goes on has written
  pub store_written : expr_class k ≡ Lident → is_local x cs ≡ true → (t : List PathEvent) → Runs evaluated.store t falls → Written t
  store_written e l t r = fall_is_written t (law.plainly (facts_plain x k s lo hi cs nil e ∙ l)).stored r
