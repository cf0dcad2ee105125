-- The law of an expression: what the effect, the writing on an outcome and the reference test say of every evaluation of a
-- row. It is all that a proof about statements needs to know of expressions. Definitions only.
use Rattle.std.specs.Prelude.{◌≡◌, Bool, true, false, List, [], ◌∷◌, ℕ}
use Rattle.table.specs.Rows.{Forest, nil, node}
use Rattle.table.specs.Fold.{Alg, fold, nth}
use Rattle.kinds.specs.declared.ExprClass.{ExprClass}
use Rattle.kinds.specs.declared.ExprClass.TheVariants.{Ident, Call, Lident, Opaque, Event, Unary, Binary, Ternary, Paren, Other}
use Rattle.kinds.specs.Named.{expr_class}
use Rattle.reads.specs.declared.Iff.TheVariants.{Skipped}
use Rattle.reads.specs.PathRows.{is_local}
use Rattle.reads.specs.Mentions.{refers as refers_in}
use Rattle.reads.specs.Iffs.{iff_quiet}
use Rattle.paths.specs.Marks.{full, blank}
use Rattle.paths.specs.Commands.{Command}
use Rattle.paths.specs.Triples.{Triple, at, never}
use Rattle.paths.specs.Evaluation.{Evaluation, Truth, no_evaluation, evaluations}
use Rattle.paths.specs.Semantics.{Semantics}
use Rattle.paths.specs.Evaluates.{Meets, Evaluates}
use Rattle.paths.specs.Silence.{ReadsNothing}
use Rattle.effect_rules.specs.declared.ExprDa.{ExprDa}
use Rattle.effect_rules.specs.declared.ExprDa.TheVariants.{Clean, Writes, Reads}
use Rattle.effect_rules.specs.declared.ExprEffect.{ExprEffect}
use Rattle.effect_rules.specs.declared.RowEffect.{RowEffect}
use Rattle.effect_rules.specs.Rules.{writes_when, guarded, no_effect}
use Rattle.expr_effect.specs.Effect.{expr_effect_at, expr_effects, expr_effect_of, expr_da}

-- Clean: no read while the local is unwritten. (The Rust's comment says no read at all, but `(c && w(x)) && x` is Clean there
-- too.) Writes: "EVERY evaluation of this expression writes `name` whole, and no read of `name` can precede that write". Reads
-- claims nothing.
abbrev pub EffectLaw : ExprDa → Evaluation → Type 0
EffectLaw Clean e = Evaluates blank blank e
EffectLaw Writes e = Evaluates blank full e
EffectLaw Reads e = Unit

-- "is `name` definitely written by then?", where the answer is yes
abbrev pub WhenLaw : Bool → Command → Type 0
WhenLaw true c = Triple blank c (at full) never
WhenLaw false c = Unit

-- "The plain local is an lident whose path is one segment, the local"
abbrev pub is_plain : ℕ → ExprClass → Forest → Bool
is_plain x Lident cs = is_local x cs
is_plain x Ident cs = false
is_plain x Call cs = false
is_plain x Opaque cs = false
is_plain x Event cs = false
is_plain x Unary cs = false
is_plain x Binary cs = false
is_plain x Ternary cs = false
is_plain x Paren cs = false
is_plain x Other cs = false

-- what the walk asks of a row of an expression or a target; reason 2 "carries the expression's span"
pub record ExprFacts : Type 0 where
  pub lo : ℕ
  pub hi : ℕ
  pub refers : Bool
  pub plain : Bool
  pub effects : ExprEffect

-- of one row; the effects of its children are worked out anew, so its children's facts are not asked
unfoldable pub facts_at : ℕ → Alg ExprFacts
facts_at x k s lo hi cs fs = record {
  lo = lo;
  hi = hi;
  refers = refers_in Skipped x (node k s lo hi cs nil);
  plain = is_plain x (expr_class k) cs;
  effects = expr_effect_at x k s lo hi cs (expr_effects x cs);
}

-- of each of these siblings, for the local x
abbrev pub expr_facts : ℕ → Forest → List ExprFacts
expr_facts x = fold (facts_at x)

-- what stands where a child is missing
abbrev pub no_facts : ExprFacts
no_facts = record { lo = 0; hi = 0; refers = false; plain = false; effects = no_effect }

-- none of a list of rows refers to the local
pub data NoneRefer : List ExprFacts → Type 0 where
  none_left : NoneRefer []
  and_more : {facts : ExprFacts} {others : List ExprFacts} → facts.refers ≡ false → NoneRefer others → NoneRefer (facts ∷ others)

-- the plain local: as a target it is written, and nothing of it is read before
pub record PlainLaw (e : Evaluation) : Type 0 where
  pub plain : e.is_plain_local ≡ true
  pub unread : Evaluates blank blank e
  pub stored : Triple blank e.store (at full) never

-- what these say of every evaluation of the row
pub record ExprLaw (facts : ExprFacts) (e : Evaluation) : Type 0 where
  -- where the local is written, any evaluation is fine
  pub calm : Evaluates full full e
  -- no reference: any evaluation is fine from nothing written on, and nothing is read
  pub quiet : facts.refers ≡ false → Evaluates blank blank e
  pub silent : facts.refers ≡ false → ReadsNothing e
  pub effect : EffectLaw facts.effects.effect e
  pub when : (want : Bool) (t : Truth) → Meets want t → WhenLaw (writes_when facts.effects want) (e.truth t)
  -- the plain local as a target has no selects, and is written
  pub plainly : facts.plain ≡ true → PlainLaw e

-- what an answer means, for the first of these siblings: the law of an expression, where no iff refers to the local
pub record EffectTold (x : ℕ) (f : Forest) (o : ExprEffect) : Type 0 where
  pub facts : (nth no_facts 0 (expr_facts x f)).effects ≡ o
  pub law : (sem : Semantics) → iff_quiet x f ≡ true → ExprLaw (nth no_facts 0 (expr_facts x f)) (nth no_evaluation 0 (evaluations sem x f))

-- what an answer of `expr_da` means: the row's effect with its law, and what the row writes once its own effect is looked at
pub record DaTold (x : ℕ) (f : Forest) (r : RowEffect) : Type 0 where
  pub effect : expr_da x f 0 ≡ r.effect
  pub writing : guarded r ≡ expr_effect_of x f 0
  pub law : (sem : Semantics) → iff_quiet x f ≡ true → EffectLaw r.effect (nth no_evaluation 0 (evaluations sem x f))
