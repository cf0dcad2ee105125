-- The equations of da/expr_effect.rs, arm by arm: expr_da asks expr_writes_when of its left side, which asks expr_da again. A row's
-- operands are its children, numbered from 0. Each equation is computed, by the class and the side.
use Prim.Native.Nat.{ℕ}
use mathlib.Core.Path.{◌≡◌, refl}
use mathlib.Core.Bool.{Bool, true, false, cond, ◌||◌, not}
use lib.Dec.{eqb}
use borrow.Author.Tests.{ne_eqb}
use Rattle.table.specs.Rows.{Forest, nil, node}
use Rattle.table.specs.Fold.{fold}
use Rattle.kinds.specs.declared.ExprClass.TheVariants.{Call, Unary, Binary, Ternary, Paren}
use Rattle.kinds.specs.Named.{expr_class}
use Rattle.reads.specs.declared.Iff.TheVariants.{Skipped}
use Rattle.reads.specs.Mentions.{refers}
use Rattle.reads.specs.NoRef.{expr_no_ref}
use Rattle.effect_rules.specs.declared.ExprDa.TheVariants.{Clean, Writes, Reads}
use Rattle.effect_rules.specs.declared.ExprEffect.{ExprEffect}
use Rattle.effect_rules.specs.declared.Form.{Form}
use Rattle.effect_rules.specs.declared.Form.TheVariants.{Inner, LogNot, Operand, LogAnd, LogOr, Operands, Arms, CallWrites, Vetted}
use Rattle.effect_rules.specs.Rules.{unary_form, binary_form, call_form, form_of, join, short_circuit, one_arm, after_cond, effect_of, operands_write, self_guarded, vetted_effect}
use Rattle.expr_effect.specs.Effect.{expr_effect_at, expr_effect_of, expr_da, expr_writes_when}

vetted_is : (b : Bool) → vetted_effect b ≡ cond (not b) Clean Reads
vetted_is true = refl
vetted_is false = refl

unary_effect : (i b : Bool) (a c d : ExprEffect) → effect_of (cond i LogNot Operand) b a c d ≡ a.effect
unary_effect true b a c d = refl
unary_effect false b a c d = refl

module _ (x k s lo hi : ℕ) (cs others : Forest) where
  abbrev row : Forest
  row = node k s lo hi cs others

  -- the match on the kind, whatever it is
  da_form : expr_da x row 0 ≡ effect_of (form_of (expr_class k) s) (refers Skipped x (node k s lo hi cs nil)) (expr_effect_of x cs 0) (expr_effect_of x cs 1) (expr_effect_of x cs 2)
  unfolding fold expr_effect_at
  da_form = refl

  -- "K::Paren { inner } => sub(inner)"
  pub da_paren : expr_class k ≡ Paren → expr_da x row 0 ≡ expr_da x cs 0
  da_paren e = rw (da_form, e)

  -- "K::Unary { operand, .. } => sub(operand)"
  pub da_unary : expr_class k ≡ Unary → expr_da x row 0 ≡ expr_da x cs 0
  unfolding unary_form
  da_unary e = rw (da_form, e) (unary_effect (eqb s 1) _ _ _ _)

  -- "CallEffect::Writes => ExprDa::Writes"
  pub da_call_writes : expr_class k ≡ Call → s ≡ 1 → expr_da x row 0 ≡ Writes
  unfolding call_form
  da_call_writes e w = rw (da_form, e, w)

  -- any other call: "if expr_no_ref(e, name) { ExprDa::Clean } else { ExprDa::Reads }"
  pub da_call : expr_class k ≡ Call → (s ≡ 1 → ⊥) → expr_da x row 0 ≡ cond (expr_no_ref x (node k s lo hi cs nil)) Clean Reads
  unfolding call_form
  da_call e n = rw (da_form, e, ne_eqb s 1 n) (vetted_is (refers Skipped x (node k s lo hi cs nil)))

  -- "match sub(lhs) { Writes => Writes, Reads => Reads, Clean => match sub(rhs) { .. } }", where "reaches_rhs" is true for &&
  pub da_and : expr_class k ≡ Binary → s ≡ 1 → expr_da x row 0 ≡ short_circuit (expr_da x cs 0) (expr_da x cs 1) (expr_writes_when x cs 0 true)
  unfolding binary_form
  da_and e w = rw (da_form, e, w)

  pub da_or : expr_class k ≡ Binary → s ≡ 2 → expr_da x row 0 ≡ short_circuit (expr_da x cs 0) (expr_da x cs 1) (expr_writes_when x cs 0 false)
  unfolding binary_form
  da_or e w = rw (da_form, e, w)

  -- "K::Binary { lhs, rhs, .. } => join(sub(lhs), sub(rhs))"
  pub da_binary : expr_class k ≡ Binary → (s ≡ 1 → ⊥) → (s ≡ 2 → ⊥) → expr_da x row 0 ≡ join (expr_da x cs 0) (expr_da x cs 1)
  unfolding binary_form
  da_binary e n o = rw (da_form, e, ne_eqb s 1 n, ne_eqb s 2 o)

  -- "K::Ternary { cond, then_e, else_e } => match sub(cond) { .. }"
  pub da_ternary : expr_class k ≡ Ternary → expr_da x row 0 ≡ after_cond (expr_da x cs 0) (one_arm (expr_da x cs 1) (expr_da x cs 2))
  da_ternary e = rw (da_form, e)

  -- "Every other node": "if expr_no_ref(e, name) { ExprDa::Clean } else { ExprDa::Reads }"
  pub da_vetted : form_of (expr_class k) s ≡ Vetted → expr_da x row 0 ≡ cond (expr_no_ref x (node k s lo hi cs nil)) Clean Reads
  da_vetted e = rw (da_form, e) (vetted_is (refers Skipped x (node k s lo hi cs nil)))

  -- expr_writes_when: the effect first, "Writes => return true, Reads => return false", then the match on the kind
  pub when_form : (want : Bool) → expr_writes_when x row 0 want ≡ self_guarded (expr_da x row 0) (operands_write (form_of (expr_class k) s) want (expr_effect_of x cs 0) (expr_effect_of x cs 1))
  unfolding fold expr_effect_at
  when_form true = refl
  when_form false = refl

  -- "K::Paren { inner } => go(inner, want)"
  pub when_paren : (want : Bool) → expr_class k ≡ Paren → expr_writes_when x row 0 want ≡ self_guarded (expr_da x row 0) (expr_writes_when x cs 0 want)
  when_paren want e = rw (when_form want, e)

  -- "K::Unary { op: LogNot, operand } => go(operand, !want)"
  pub when_not : (want : Bool) → expr_class k ≡ Unary → s ≡ 1 → expr_writes_when x row 0 want ≡ self_guarded (expr_da x row 0) (expr_writes_when x cs 0 (not want))
  unfolding unary_form
  when_not want e w = rw (when_form want, e, w)

  -- "K::Binary { op: LogAnd, lhs, rhs } if want => go(lhs, true) || go(rhs, true)"
  pub when_and : (want : Bool) → expr_class k ≡ Binary → s ≡ 1 → expr_writes_when x row 0 want ≡ self_guarded (expr_da x row 0) (cond want (expr_writes_when x cs 0 true || expr_writes_when x cs 1 true) false)
  unfolding binary_form
  when_and want e w = rw (when_form want, e, w)

  -- "K::Binary { op: LogOr, lhs, rhs } if !want => go(lhs, false) || go(rhs, false)"
  pub when_or : (want : Bool) → expr_class k ≡ Binary → s ≡ 2 → expr_writes_when x row 0 want ≡ self_guarded (expr_da x row 0) (cond want false (expr_writes_when x cs 0 false || expr_writes_when x cs 1 false))
  unfolding binary_form
  when_or want e w = rw (when_form want, e, w)

-- "_ => false": a form of which the writing on an outcome is not asked
abbrev pub NotAsked : Form → Type 0
NotAsked Operand = Unit
NotAsked Operands = Unit
NotAsked Arms = Unit
NotAsked CallWrites = Unit
NotAsked Vetted = Unit
NotAsked Inner = ⊥
NotAsked LogNot = ⊥
NotAsked LogAnd = ⊥
NotAsked LogOr = ⊥

not_asked : (m : Form) (want : Bool) (a b : ExprEffect) → NotAsked m → operands_write m want a b ≡ false
not_asked Operand want a b n = refl
not_asked Operands want a b n = refl
not_asked Arms want a b n = refl
not_asked CallWrites want a b n = refl
not_asked Vetted want a b n = refl
not_asked Inner want a b n = absurd n
not_asked LogNot want a b n = absurd n
not_asked LogAnd want a b n = absurd n
not_asked LogOr want a b n = absurd n

pub when_other : (x k s lo hi : ℕ) (cs others : Forest) (want : Bool) → NotAsked (form_of (expr_class k) s) → expr_writes_when x (node k s lo hi cs others) 0 want ≡ self_guarded (expr_da x (node k s lo hi cs others) 0) false
when_other x k s lo hi cs others want n = rw (when_form x k s lo hi cs others want, not_asked (form_of (expr_class k) s) want (expr_effect_of x cs 0) (expr_effect_of x cs 1) n)
