use Rattle.std.proofs.Common.{arith, ℕ, ◌-◌, refl, ap, take}
use Rattle.words.proofs.Keys.{spell_start, spell_stop, spell_end, spell_product, spell_sum, spell_scale, spell_on, front_few, of_front}
use Rattle.words.proofs.key_of.Goals as goal

pub loop-count-init : goal.loop-count-init
loop-count-init c = spell_start _

pub returns-then-not-is_ascii_lowercase : goal.returns-then-not-is_ascii_lowercase
returns-then-not-is_ascii_lowercase c =
    let t = of_front c.args.t.now (take c.min.result c.args.t.now) _ _ (rw c.min.ensures refl) (spell_stop _ _ _ _ c.loop-count.invariant c.loop-count-test.true (front_few _ _ c.min.ensures) _ c.is_ascii_lowercase.ensures.value c.if-not-is_ascii_lowercase.true) in
    record { value = t.value_is; count = t.count_is }

pub overflow_mul-value : goal.overflow_mul-value
overflow_mul-value c =
    rw c.from.ensures (spell_product _ _ _ _ c.loop-count.invariant c.loop-count-test.true (front_few _ _ c.min.ensures) _ c.is_ascii_lowercase.ensures.value c.if-not-is_ascii_lowercase.false)

pub overflow_add-value : goal.overflow_add-value
overflow_add-value c =
    rw c.from.ensures (spell_sum _ _ _ _ c.loop-count.invariant c.loop-count-test.true (front_few _ _ c.min.ensures) _ c.is_ascii_lowercase.ensures.value c.if-not-is_ascii_lowercase.false)

pub overflow_mul-scale : goal.overflow_mul-scale
overflow_mul-scale c =
    spell_scale _ _ _ _ c.loop-count.invariant c.loop-count-test.true (front_few _ _ c.min.ensures) _ c.is_ascii_lowercase.ensures.value c.if-not-is_ascii_lowercase.false

pub loop-count-preserved : goal.loop-count-preserved
loop-count-preserved c =
    spell_on _ _ _ _ c.loop-count.invariant c.loop-count-test.true (front_few _ _ c.min.ensures) _ c.is_ascii_lowercase.ensures.value c.if-not-is_ascii_lowercase.false _ (ap (λ (n : ℕ). n - 96) c.from.ensures)

pub returns : goal.returns
returns c =
    let t = of_front c.args.t.now (take c.min.result c.args.t.now) _ _ (rw c.min.ensures refl) (spell_end _ _ _ _ c.loop-count.invariant c.loop-count-test.false) in
    record { value = t.value_is; count = omega (arith, t.count_is, c.loop-count-test.false, c.loop-count.auto.count-end) }
