-- The effect of an expression and its writing on an outcome, over rows: da/expr_effect.rs. Definitions only.
use Rattle.std.specs.Prelude.{List, Bool, ℕ}
use Rattle.table.specs.Rows.{Forest, nil, node}
use Rattle.table.specs.Fold.{Alg, fold, nth}
use Rattle.kinds.specs.Named.{expr_class}
use Rattle.reads.specs.declared.Iff.TheVariants.{Skipped}
use Rattle.reads.specs.Mentions.{refers}
use Rattle.effect_rules.specs.declared.ExprDa.{ExprDa}
use Rattle.effect_rules.specs.declared.ExprEffect.{ExprEffect}
use Rattle.effect_rules.specs.declared.RowEffect.{RowEffect}
use Rattle.effect_rules.specs.Rules.{form_of, writes_when, combined, guarded, no_effect}

-- a row, from the effects of its children
abbrev pub row_effect : ℕ → ℕ → ℕ → ℕ → ℕ → Forest → List ExprEffect → RowEffect
row_effect x k s lo hi cs es =
    combined (form_of (expr_class k) s) (refers Skipped x (node k s lo hi cs nil)) (nth no_effect 0 es) (nth no_effect 1 es) (nth no_effect 2 es)

-- and what it writes itself
unfoldable pub expr_effect_at : ℕ → Alg ExprEffect
expr_effect_at x k s lo hi cs es = guarded (row_effect x k s lo hi cs es)

-- of each of these siblings: the effect, and the writing on either outcome, for the local x
abbrev pub expr_effects : ℕ → Forest → List ExprEffect
expr_effects x = fold (expr_effect_at x)

-- the sibling number i
abbrev pub expr_effect_of : ℕ → Forest → ℕ → ExprEffect
expr_effect_of x f i = nth no_effect i (expr_effects x f)

-- expr_da of the sibling number i
abbrev pub expr_da : ℕ → Forest → ℕ → ExprDa
expr_da x f i = (expr_effect_of x f i).effect

-- expr_writes_when of the sibling number i
abbrev pub expr_writes_when : ℕ → Forest → ℕ → Bool → Bool
expr_writes_when x f i want = writes_when (expr_effect_of x f i) want
