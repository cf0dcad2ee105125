-- The rules of the effect of an expression and of its writing on an outcome, from what its operands do: da/expr_effect.rs, followed line
-- by line. Definitions only.
use Rattle.std.specs.Prelude.{Bool, true, false, cond, ◌||◌, not, ℕ, eqb}
use Rattle.kinds.specs.declared.ExprClass.{ExprClass}
use Rattle.kinds.specs.declared.ExprClass.TheVariants.{Ident, Call, Lident, Opaque, Event, Unary, Binary, Ternary, Paren, Other}
use Rattle.effect_rules.specs.declared.ExprDa.{ExprDa}
use Rattle.effect_rules.specs.declared.ExprDa.TheVariants.{Clean, Writes, Reads}
use Rattle.effect_rules.specs.declared.ExprEffect.{ExprEffect}
use Rattle.effect_rules.specs.declared.RowEffect.{RowEffect}
use Rattle.effect_rules.specs.declared.Form.{Form}
use Rattle.effect_rules.specs.declared.Form.TheVariants.{Inner, LogNot, Operand, LogAnd, LogOr, Operands, Arms, CallWrites, Vetted}

-- "unary E (side 1: logical not)"
unfoldable pub unary_form : ℕ → Form
unary_form s = cond (eqb s 1) LogNot Operand

-- "binary E E (1: &&, 2: ||)"
unfoldable pub binary_form : ℕ → Form
binary_form s = cond (eqb s 1) LogAnd (cond (eqb s 2) LogOr Operands)

-- "A call's side is its effect: 0 inert, 1 writes, 2 reads, 3 unknown": "Everything that is NOT the new write claim must answer
-- what the pre-R19 walk answered", which is expr_no_ref
unfoldable pub call_form : ℕ → Form
call_form s = cond (eqb s 1) CallWrites Vetted

-- the arms of the match in expr_da, by class and side
abbrev pub form_of : ExprClass → ℕ → Form
form_of Paren s = Inner
form_of Unary s = unary_form s
form_of Binary s = binary_form s
form_of Ternary s = Arms
form_of Call s = call_form s
form_of Ident s = Vetted
form_of Lident s = Vetted
form_of Opaque s = Vetted
form_of Event s = Vetted
form_of Other s = Vetted

-- "if expr_no_ref(e, name) { Clean } else { Reads }"
abbrev pub vetted_effect : Bool → ExprDa
vetted_effect mentioned = cond mentioned Reads Clean

-- join: "Two sub-expressions BOTH evaluated, in an order IEEE does not fix"
abbrev pub join : ExprDa → ExprDa → ExprDa
join Reads r = Reads
join Writes Reads = Reads
join Writes Writes = Writes
join Writes Clean = Writes
join Clean Reads = Reads
join Clean Writes = Writes
join Clean Clean = Clean

-- && and ||: the effects of the two sides, and whether the left writes where the right is reached
abbrev pub short_circuit : ExprDa → ExprDa → Bool → ExprDa
short_circuit Writes r wrote = Writes
short_circuit Reads r wrote = Reads
short_circuit Clean Writes wrote = Clean
short_circuit Clean Clean wrote = Clean
short_circuit Clean Reads wrote = cond wrote Clean Reads

-- "Exactly one arm runs, so neither arm's write is guaranteed; either arm's read may happen"
abbrev pub one_arm : ExprDa → ExprDa → ExprDa
one_arm Reads f = Reads
one_arm Writes Reads = Reads
one_arm Writes Writes = Clean
one_arm Writes Clean = Clean
one_arm Clean Reads = Reads
one_arm Clean Writes = Clean
one_arm Clean Clean = Clean

-- K::Ternary, "match sub(cond)": the condition is evaluated first, and always
abbrev pub after_cond : ExprDa → ExprDa → ExprDa
after_cond Writes arms = Writes
after_cond Reads arms = Reads
after_cond Clean arms = arms

-- the writing on the outcome that is wanted, true or false
abbrev pub writes_when : ExprEffect → Bool → Bool
writes_when o want = cond want o.when_true o.when_false

-- expr_da: the match on the kind, from what the row's operands do; `mentioned` is the reference test of the row itself
abbrev pub effect_of : Form → Bool → ExprEffect → ExprEffect → ExprEffect → ExprDa
effect_of Inner mentioned a b c = a.effect
effect_of LogNot mentioned a b c = a.effect
effect_of Operand mentioned a b c = a.effect
effect_of CallWrites mentioned a b c = Writes
effect_of LogAnd mentioned a b c = short_circuit a.effect b.effect (writes_when a true)
effect_of LogOr mentioned a b c = short_circuit a.effect b.effect (writes_when a false)
effect_of Operands mentioned a b c = join a.effect b.effect
effect_of Arms mentioned a b c = after_cond a.effect (one_arm b.effect c.effect)
effect_of Vetted mentioned a b c = vetted_effect mentioned

-- expr_writes_when: its second match, which a clean row comes to
abbrev pub operands_write : Form → Bool → ExprEffect → ExprEffect → Bool
operands_write Inner want a b = writes_when a want
operands_write LogNot want a b = writes_when a (not want)
operands_write LogAnd want a b = cond want (writes_when a true || writes_when b true) false
operands_write LogOr want a b = cond want false (writes_when a false || writes_when b false)
operands_write Operand want a b = false
operands_write Operands want a b = false
operands_write Arms want a b = false
operands_write CallWrites want a b = false
operands_write Vetted want a b = false

-- expr_writes_when: its first match, "a subtree that may READ `name` answers `false` outright"
abbrev pub self_guarded : ExprDa → Bool → Bool
self_guarded Writes wrote = true
self_guarded Reads wrote = false
self_guarded Clean wrote = wrote

-- a row's effect, and what its operands write once the row is true, and once it is false
abbrev pub combined : Form → Bool → ExprEffect → ExprEffect → ExprEffect → RowEffect
combined m mentioned a b c = record {
  effect = effect_of m mentioned a b c;
  operands_true = operands_write m true a b;
  operands_false = operands_write m false a b;
}

-- a row's effect, and what the row writes
abbrev pub guarded : RowEffect → ExprEffect
guarded r = record {
  effect = r.effect;
  when_true = self_guarded r.effect r.operands_true;
  when_false = self_guarded r.effect r.operands_false;
}

-- nothing evaluated
abbrev pub no_effect : ExprEffect
no_effect = record { effect = Clean; when_true = false; when_false = false }
