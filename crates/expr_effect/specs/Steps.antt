-- What the code tells of a row on its way: what it does before its own effect is looked at. Definitions only.
use Rattle.std.specs.Prelude.{ℕ}
use Rattle.table.specs.Rows.{Forest, nil, node}
use Rattle.effect_rules.specs.declared.RowEffect.{RowEffect}
use Rattle.effect_rules.specs.Steps.{no_row_effect}
use Rattle.expr_effect.specs.Effect.{expr_effects, row_effect}

-- the first sibling, before its own effect is looked at
unfoldable pub unguarded : ℕ → Forest → RowEffect
unguarded x nil = no_row_effect
unguarded x (node k s lo hi cs others) = row_effect x k s lo hi cs (expr_effects x cs)
