-- The answers at the first row of a range, from those at its children.
use Prim.Native.Nat.{ℕ, ◌+◌, ◌≤◌, ◌<◌}
use mathlib.Core.Path.{◌≡◌, refl, sym, ◌∙◌}
use mathlib.Core.Bool.{Bool, true, false}
use mathlib.Core.List.{List}
use Rattle.table.specs.declared.Siblings.{Siblings}
use Rattle.table.specs.declared.Node.{Node}
use Rattle.table.specs.Rows.{kind_at, side_at, Forest, nil, node, tree}
use Rattle.table.specs.Siblings.{forest, First, Children, Rest}
use Rattle.table.specs.Fold.{fold}
use Rattle.table.proofs.Tree.{tree_some, tree_alone}
use Rattle.table.proofs.Parts.{forest_none, fold_next_part}
use Rattle.kinds.specs.declared.ExprClass.{ExprClass}
use Rattle.kinds.specs.Named.{expr_class}
use Rattle.kinds.proofs.Below.{true_not_false}
use Rattle.reads.specs.declared.Iff.TheVariants.{Skipped}
use Rattle.reads.specs.Mentions.{refers}
use Rattle.effect_rules.specs.declared.ExprEffect.{ExprEffect}
use Rattle.effect_rules.specs.declared.RowEffect.{RowEffect}
use Rattle.expr_effect.specs.Steps.{unguarded}
use Rattle.effect_rules.specs.declared.Form.{Form}
use Rattle.effect_rules.specs.declared.Form.TheVariants.{Inner, LogNot, Operand, LogAnd, LogOr, Operands, Arms, CallWrites, Vetted}
use Rattle.effect_rules.specs.Rules.{form_of, combined, guarded, no_effect}
use Rattle.effect_rules.specs.Steps.{is_whole, no_row_effect}
use Rattle.expr_effect.specs.Effect.{expr_effect_at, expr_effect_of}

-- where the operands are looked at one by one, the reference test does not matter
untested : (m : Form) (n p : Bool) (a b c : ExprEffect) → is_whole m ≡ false → combined m n a b c ≡ combined m p a b c
untested Inner n p a b c e = refl
untested LogNot n p a b c e = refl
untested Operand n p a b c e = refl
untested LogAnd n p a b c e = refl
untested LogOr n p a b c e = refl
untested Operands n p a b c e = refl
untested Arms n p a b c e = refl
untested CallWrites n p a b c e = true_not_false e
untested Vetted n p a b c e = true_not_false e

-- where the operands are not looked at, they do not matter
unasked : (m : Form) (n : Bool) (a b c d e f : ExprEffect) → is_whole m ≡ true → combined m n a b c ≡ combined m n d e f
unasked CallWrites n a b c d e f w = refl
unasked Vetted n a b c d e f w = refl
unasked Inner n a b c d e f w = true_not_false (sym w)
unasked LogNot n a b c d e f w = true_not_false (sym w)
unasked Operand n a b c d e f w = true_not_false (sym w)
unasked LogAnd n a b c d e f w = true_not_false (sym w)
unasked LogOr n a b c d e f w = true_not_false (sym w)
unasked Operands n a b c d e f w = true_not_false (sym w)
unasked Arms n a b c d e f w = true_not_false (sym w)

-- no row
pub unguarded_none : (x : ℕ) (rows : Siblings) → rows.to ≤ rows.from → no_row_effect ≡ unguarded x (forest rows)
unfolding unguarded
unguarded_none x rows h = rw (forest_none rows h)

-- a row, by the form that was found
module _ (x : ℕ) (rows : Siblings) (row : Node) (k s : ℕ) (class : ExprClass) (form : Form) (w : Bool) (r : RowEffect)
    (f : First rows row)
    (pk : k ≡ kind_at row.table.now row.at)
    (pc : class ≡ expr_class k)
    (ps : s ≡ side_at row.table.now row.at)
    (pf : form ≡ form_of class s)
    (pw : w ≡ is_whole form) where
  first : (cs : Forest) → tree row.table.now (row.at + 1) row.end ≡ cs
      → unguarded x (forest rows) ≡ combined form (refers Skipped x (tree row.table.now row.at row.end)) (expr_effect_of x cs 0) (expr_effect_of x cs 1) (expr_effect_of x cs 2)
  unfolding unguarded
  first cs e = rw (pf, ps, pc, pk, ← e, f.same, f.starts, f.ends, tree_some rows.nested f.some, tree_alone rows.nested f.some)

  pub unguarded_whole : w ≡ true → r ≡ combined form (refers Skipped x (tree row.table.now row.at row.end)) no_effect no_effect no_effect → r ≡ unguarded x (forest rows)
  unguarded_whole q p =
      p ∙ unasked form (refers Skipped x (tree row.table.now row.at row.end)) no_effect no_effect no_effect _ _ _ (sym pw ∙ q) ∙ sym (first (tree row.table.now (row.at + 1) row.end) refl)

  pub unguarded_operands : (one two three : Siblings) (a b c : ExprEffect)
      → Children row one
      → Rest one two
      → Rest two three
      → w ≡ false
      → a ≡ expr_effect_of x (forest one) 0
      → b ≡ expr_effect_of x (forest two) 0
      → c ≡ expr_effect_of x (forest three) 0
      → r ≡ combined form false a b c
      → r ≡ unguarded x (forest rows)
  unguarded_operands one two three a b c ch d e q pa pb pc p =
      let vb : b ≡ expr_effect_of x (forest one) 1 = pb ∙ fold_next_part (expr_effect_at x) no_effect 0 d in
      let vc : c ≡ expr_effect_of x (forest one) 2 = pc ∙ fold_next_part (expr_effect_at x) no_effect 0 e ∙ fold_next_part (expr_effect_at x) no_effect 1 d in
      p
      ∙ rw (pa, vb, vc) (untested form false (refers Skipped x (tree row.table.now row.at row.end)) _ _ _ (sym pw ∙ q))
      ∙ sym (first (forest one) (rw (ch.same, ch.starts, ch.ends)))

pub effect_first : (x : ℕ) (f : Forest) → expr_effect_of x f 0 ≡ guarded (unguarded x f)
unfolding unguarded fold expr_effect_at
effect_first x nil = refl
effect_first x (node k s lo hi cs others) = refl

-- what `expr_writes_when` answers
pub effect_guarded : (x : ℕ) (f : Forest) (o : RowEffect) (r : ExprEffect) → o ≡ unguarded x f → r ≡ guarded o → r ≡ expr_effect_of x f 0
effect_guarded x f o r p q = q ∙ rw p (sym (effect_first x f))

pub ruleset answers = (unguarded_none, unguarded_whole, unguarded_operands, effect_guarded)
