-- Rows that are all quiet have no effect: a row whose operands have none has one only where it refers or is a call that writes. By
-- induction over the size of the range.
use Prim.Native.Nat.{ℕ, zero, suc, ◌+◌, ◌-◌, ◌≤◌, ◌<◌}
use mathlib.Core.Path.{◌≡◌, refl, sym, ◌∙◌}
use mathlib.Core.Bool.{Bool, true, false, cond}
use mathlib.Core.List.{List}
use native.Mathlib.Omega.{arith}
use lib.Dec.{ltb, eqb}
use borrow.Author.Tests.{ltb-true, ltb-false, ne_eqb}
use Rattle.table.specs.Rows.{kind_at, side_at, end_at, tree, Nested}
use Rattle.table.specs.declared.Siblings.{Siblings}
use Rattle.table.specs.Siblings.{forest, Head}
use Rattle.table.proofs.Ranges.{ends_after, ends_within, others, alone, children}
use Rattle.table.proofs.Tree.{tree_alone}
use Rattle.table.proofs.Fold.{fold_none, fold_some}
use Rattle.table.proofs.Parts.{fold_head}
use Rattle.kinds.specs.declared.ExprClass.{ExprClass}
use Rattle.kinds.specs.declared.ExprClass.TheVariants.{Ident, Call, Lident, Opaque, Event, Unary, Binary, Ternary, Paren, Other}
use Rattle.kinds.specs.Named.{expr_class}
use Rattle.reads.specs.declared.Iff.TheVariants.{Skipped}
use Rattle.reads.specs.Mentions.{refers}
use Rattle.reads.specs.Steps.{AllQuiet, AfterQuiet}
use Rattle.reads.proofs.Quiet.{quiet_clear}
use Rattle.effect_rules.specs.declared.Form.{Form}
use Rattle.effect_rules.specs.declared.Form.TheVariants.{LogNot, Operand, LogAnd, LogOr, Operands}
use Rattle.effect_rules.specs.Rules.{unary_form, binary_form, call_form, form_of, combined, guarded, no_effect}
use Rattle.expr_effect.specs.Effect.{expr_effect_at, expr_effect_of}
use Rattle.expr_effect.specs.Law.{EffectTold}
use Rattle.expr_effect.proofs.Laws.{effect_told}

-- a row of this form has no effect, where it does not refer and its operands have none
abbrev NoEffect : Form → Type 0
NoEffect m = guarded (combined m false no_effect no_effect no_effect) ≡ no_effect

none_cond : (b : Bool) (m n : Form) → NoEffect m → NoEffect n → NoEffect (cond b m n)
none_cond true m n p q = p
none_cond false m n p q = q

-- every form but that of a call that writes
none_form : (k : ExprClass) (s : ℕ) → (k ≡ Call → s ≡ 1 → ⊥) → NoEffect (form_of k s)
unfolding unary_form binary_form call_form
none_form Unary s w = none_cond (eqb s 1) LogNot Operand refl refl
none_form Binary s w = none_cond (eqb s 1) LogAnd (cond (eqb s 2) LogOr Operands) refl (none_cond (eqb s 2) LogOr Operands refl refl)
none_form Call s w = rw (ne_eqb s 1 (w refl))
none_form Ternary s w = refl
none_form Paren s w = refl
none_form Ident s w = refl
none_form Lident s w = refl
none_form Opaque s w = refl
none_form Event s w = refl
none_form Other s w = refl

-- none of these siblings has an effect
abbrev NoEffects : ℕ → List ℕ → ℕ → ℕ → Type 0
NoEffects x rows from to = (i : ℕ) → expr_effect_of x (tree rows from to) i ≡ no_effect

module _ (x : ℕ) {rows : List ℕ} {from to : ℕ} (g : Nested rows from to) (h : from < to) (q : AllQuiet x rows from to) where
  row_clear : refers Skipped x (tree rows from (end_at rows from)) ≡ false
  row_clear = quiet_clear Skipped x (alone g h) (λ j p l. q j p (omega (arith, ends_within g h)))

  none_row : NoEffects x rows (from + 1) (end_at rows from) → NoEffects x rows (end_at rows from) to → NoEffects x rows from to
  unfolding expr_effect_at
  none_row below after zero =
      rw (fold_some (expr_effect_at x) g h, ← tree_alone g h, row_clear, below 0, below 1, below 2)
      (none_form (expr_class (kind_at rows from)) (side_at rows from) (q from (omega arith) h).unwriting)
  none_row below after (suc i) = rw (fold_some (expr_effect_at x) g h) (after i)

quiet_by : (n : ℕ) (x : ℕ) {rows : List ℕ} {from to : ℕ} → to - from ≤ n → Nested rows from to → AllQuiet x rows from to → NoEffects x rows from to
quiet_by zero x {rows} {from} {to} b g q = λ i. rw (fold_none (expr_effect_at x) rows from to (omega arith))
quiet_by (suc n) x {rows} {from} {to} b g q =
    go (ltb from to) refl
    (λ h. quiet_by n x (omega (arith, ends_within g h)) (children g h) (λ j p l. q j (omega arith) (omega (arith, ends_within g h))))
    (λ h. quiet_by n x (omega (arith, ends_after g h)) (others g h) (λ j p l. q j (omega (arith, ends_after g h)) l))
  where
    go : (t : Bool) → ltb from to ≡ t → (from < to → NoEffects x rows (from + 1) (end_at rows from)) → (from < to → NoEffects x rows (end_at rows from) to) → NoEffects x rows from to
    go true e below after = let h : from < to = ltb-true from to e in none_row x g h q (below h) (after h)
    go false e below after = λ i. rw (fold_none (expr_effect_at x) rows from to (ltb-false from to e))

pub quiet_effects : (x : ℕ) {rows : List ℕ} {from to : ℕ} → Nested rows from to → AllQuiet x rows from to → (i : ℕ) → expr_effect_of x (tree rows from to) i ≡ no_effect
quiet_effects x {from = from} {to = to} g q = quiet_by (to - from) x (omega arith) g q

-- all_quiet
module _ (x : ℕ) (rows head : Siblings) (left : ℕ) (u : Head rows head) (w : AfterQuiet x head.table.now head.from head.to left) (n : head.to ≤ left) where
  pub quiet_first : expr_effect_of x (forest rows) 0 ≡ no_effect
  quiet_first = sym (fold_head (expr_effect_at x) no_effect u) ∙ quiet_effects x head.nested (λ j q l. w.quiet j q (omega arith)) 0

  pub quiet_told : EffectTold x (forest rows) no_effect
  quiet_told = effect_told x (forest rows) no_effect (sym quiet_first)

pub ruleset quiet_answers = (quiet_first, quiet_told)
