-- What the code asks of a form before it looks at operands, and what stands where there is no row. Definitions only.
use Rattle.std.specs.Prelude.{Bool, true, false}
use Rattle.effect_rules.specs.declared.ExprDa.TheVariants.{Clean}
use Rattle.effect_rules.specs.declared.RowEffect.{RowEffect}
use Rattle.effect_rules.specs.declared.Form.{Form}
use Rattle.effect_rules.specs.declared.Form.TheVariants.{Inner, LogNot, Operand, LogAnd, LogOr, Operands, Arms, CallWrites, Vetted}

-- the forms whose operands are not looked at one by one
abbrev pub is_whole : Form → Bool
is_whole Vetted = true
is_whole CallWrites = true
is_whole Inner = false
is_whole LogNot = false
is_whole Operand = false
is_whole LogAnd = false
is_whole LogOr = false
is_whole Operands = false
is_whole Arms = false

-- no row
abbrev pub no_row_effect : RowEffect
no_row_effect = record { effect = Clean; operands_true = false; operands_false = false }
