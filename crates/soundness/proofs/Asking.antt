-- What the walk's questions about expressions say of their evaluations: by cases over the effect, and of a list by induction. Of
-- expressions only the law is cited.
use mathlib.Core.Path.{◌≡◌, refl}
use mathlib.Core.Bool.{Bool, true, false, ◌&&◌, not}
use mathlib.Core.List.{List}
use Rattle.table.specs.Fold.{Pairwise, no_pair, pair}
use Rattle.kinds.proofs.Below.{true_not_false}
use Rattle.paths.specs.Marks.{Mark, full, ⊑_refl, blank_⊑}
use Rattle.paths.specs.Triples.{Triple, at, never}
use Rattle.paths.specs.Evaluation.{Evaluation, Truth, is_false, is_unknown}
use Rattle.paths.specs.Evaluates.{Meets, Evaluates, AllEvaluate, no_more, one_more}
use Rattle.paths.proofs.Rules.{less, nowhere, weaken, rule_alt}
use Rattle.paths.proofs.Evaluating.{evaluates_lift, evaluates_from}
use Rattle.effect_rules.specs.declared.ExprDa.{ExprDa}
use Rattle.effect_rules.specs.declared.ExprDa.TheVariants.{Clean, Writes, Reads}
use Rattle.effect_rules.specs.Rules.{writes_when}
use Rattle.expr_effect.specs.Law.{EffectLaw, WhenLaw, ExprFacts, NoneRefer, none_left, and_more, ExprLaw}
use Rattle.stmt_paths.specs.Execution.{unmet}
use Rattle.da.specs.declared.DaGiveUp.{DaGiveUp}
use Rattle.std.specs.Prelude.{Err}
use Rattle.da.specs.Outcome.{DaResult, State, is_written, gains}
use Rattle.da.specs.Walk.{is_reads, is_writes, expr_reads, expr_out_writes, unless_read, unless_one_read, evaluated, gains_when}
use Rattle.soundness.proofs.Known.{known, known_all, known_gained, gains_nothing}
use Rattle.soundness.proofs.Sound.{unless}

-- the question of reason 2, answered no
abbrev NotRead : ExprDa → State → Type 0
NotRead d a = not (is_written a) && is_reads d ≡ false

written_then : (b : Bool) → not b && true ≡ false → b ≡ true
written_then true q = refl
written_then false q = true_not_false q

and_no : (b : Bool) → b && false ≡ false
and_no true = refl
and_no false = refl

module _ {e : Evaluation} (calm : Evaluates full full e) where
  -- no read before a write, and what is written stays
  effect_keeps : (d : ExprDa) → EffectLaw d e → (a : State) → NotRead d a → Evaluates (known a) (known a) e
  effect_keeps Clean l a q = evaluates_lift blank_⊑ l
  effect_keeps Writes l a q = evaluates_lift blank_⊑ l
  effect_keeps Reads l a q = rw (known_all a (written_then (is_written a) q)) calm

  -- and the write of an expression that always writes is known
  effect_gains : (d : ExprDa) → EffectLaw d e → (a : State) → NotRead d a → Evaluates (known a) (known (gains (is_writes d) a)) e
  effect_gains Clean l a q = rw (gains_nothing false a refl) (effect_keeps Clean l a q)
  effect_gains Writes l a q = rw (known_gained true a refl) (evaluates_from blank_⊑ l)
  effect_gains Reads l a q = rw (gains_nothing false a refl) (effect_keeps Reads l a q)

-- the question asked after the expression's own write is that asked before it
asked_before : (d : ExprDa) (a : State) → NotRead d (gains (is_writes d) a) → NotRead d a
asked_before Clean a q = and_no (not (is_written a))
asked_before Writes a q = and_no (not (is_written a))
asked_before Reads a q = rw (gains_nothing false a refl) at q

-- what is known after an expression that is evaluated, its write counted
pub record After (f : ExprFacts) (a : State) (e : Evaluation) : Type 0 where
  pub evaluates : Evaluates (known a) (known (gains (expr_out_writes f) a)) e
  -- and once its truth has come out as wanted
  pub once_so : (want : Bool) (t : Truth) → Meets want t → Triple (known a) (e.truth t) (at (known (gains_when f want (gains (expr_out_writes f) a)))) never

-- once it has not come out true
pub once_unmet : {f : ExprFacts} {a : State} {e : Evaluation} → After f a e → Triple (known a) (unmet e) (at (known (gains_when f false (gains (expr_out_writes f) a)))) never
once_unmet h = rule_alt (h.once_so false is_false tt) (h.once_so false is_unknown tt)

module _ {f : ExprFacts} {e : Evaluation} (l : ExprLaw f e) (a : State) where
  pub asked_keeps : NotRead f.effects.effect a → Evaluates (known a) (known a) e
  asked_keeps q = effect_keeps l.calm f.effects.effect l.effect a q

  pub asked_gains : NotRead f.effects.effect a → Evaluates (known a) (known (gains (expr_out_writes f) a)) e
  asked_gains q = effect_gains l.calm f.effects.effect l.effect a q

  asked_once : NotRead f.effects.effect a → (want : Bool) (t : Truth) → Meets want t → Triple (known a) (e.truth t) (at (known (gains_when f want (gains (expr_out_writes f) a)))) never
  asked_once q want t m = go (writes_when f.effects want) (l.when want t m)
    where
      go : (w : Bool) → WhenLaw w (e.truth t) → Triple (known a) (e.truth t) (at (known (gains w (gains (expr_out_writes f) a)))) never
      go true h = rw (known_gained true (gains (expr_out_writes f) a) refl) (weaken blank_⊑ (less ⊑_refl) nowhere h)
      go false h = rw (gains_nothing false (gains (expr_out_writes f) a) refl) ((asked_gains q).truth t)

  module _ (P : DaResult → Type 0) (stop : (g : DaGiveUp) → P (Err g)) where
    -- "if !assigned && expr_reads(..)"
    pub unless_read_lem : {next : DaResult} → (NotRead f.effects.effect a → P next) → P (unless_read f a next)
    unless_read_lem k = unless P (not (is_written a) && expr_reads f) (stop _) k

    -- "let after = assigned || expr_out_writes(..)"
    pub when_evaluated : (next : State → DaResult) → (After f a e → P (next (gains (expr_out_writes f) a))) → P (evaluated f a next)
    when_evaluated next k =
        unless P (not (is_written (gains (expr_out_writes f) a)) && expr_reads f) (stop _)
        (λ q. let p = asked_before f.effects.effect a q in k (record { evaluates = asked_gains p; once_so = asked_once p }))

-- an event on an assignment and an event control are asked for references alone
pub refers_keeps : {f : ExprFacts} {e : Evaluation} → ExprLaw f e → (a : State) → not (is_written a) && f.refers ≡ false → Evaluates (known a) (known a) e
refers_keeps {f} {e} l a q = go f.refers refl q
  where
    go : (b : Bool) → f.refers ≡ b → not (is_written a) && b ≡ false → Evaluates (known a) (known a) e
    go true p q = rw (known_all a (written_then (is_written a) q)) l.calm
    go false p q = evaluates_lift blank_⊑ (l.quiet p)

-- each of a list
pub unless_one_read_lem : (P : DaResult → Type 0) → ((g : DaGiveUp) → P (Err g)) → {fs : List ExprFacts} {es : List Evaluation} → Pairwise ExprLaw fs es → (a : State) {next : DaResult}
    → (AllEvaluate (known a) es → P next)
    → P (unless_one_read fs a next)
unless_one_read_lem P stop no_pair a k = k no_more
unless_one_read_lem P stop (pair l ls) a k = unless_read_lem l a P stop (λ q. unless_one_read_lem P stop ls a (λ h. k (one_more (asked_keeps l a q) h)))

-- where all is written
pub calm_each : {fs : List ExprFacts} {es : List Evaluation} → Pairwise ExprLaw fs es → AllEvaluate full es
calm_each no_pair = no_more
calm_each (pair l ls) = one_more l.calm (calm_each ls)

-- where none refers, nothing is read from whatever is written on
pub quiet_each : {m : Mark} {fs : List ExprFacts} {es : List Evaluation} → Pairwise ExprLaw fs es → NoneRefer fs → AllEvaluate m es
quiet_each no_pair none_left = no_more
quiet_each (pair l ls) (and_more q qs) = one_more (evaluates_lift blank_⊑ (l.quiet q)) (quiet_each ls qs)
