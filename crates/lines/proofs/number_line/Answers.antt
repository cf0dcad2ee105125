use Rattle.std.proofs.Common.{rules}
use Rattle.lines.proofs.NumberLaws.{number_outside, number_value, ranged_test}
use Rattle.lines.proofs.number_line.Goals as goal

pub returns-then-not-contains : goal.returns-then-not-contains
returns-then-not-contains c =
    number_outside _ _ _ _ _ _ c.after_key.ensures c.in_ok-from.from (search rules) _ c.number.ensures c.in_ok-read.read (search rules) c.in_ok-value.field-0 (search rules) c.contains.result (ranged_test c.new.result c.args.low c.args.high c.in_ok-value.field-0 _ (search rules) (search rules) (search rules) c.contains.ensures.value) c.if-not-contains.true

pub returns : goal.returns
returns c =
    number_value _ _ _ _ _ _ c.after_key.ensures c.in_ok-from.from (search rules) _ c.number.ensures c.in_ok-read.read (search rules) c.in_ok-value.field-0 (search rules) c.contains.result (ranged_test c.new.result c.args.low c.args.high c.in_ok-value.field-0 _ (search rules) (search rules) (search rules) c.contains.ensures.value) c.if-not-contains.false
