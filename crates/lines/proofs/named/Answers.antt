use Rattle.std.proofs.Common.{rules, length}
use Rattle.lines.proofs.NumberLaws.{ranged_test}
use Rattle.lines.proofs.NameLaws.{name_long, name_order}
use Rattle.lines.proofs.named.Goals as goal
use Rattle.lines.proofs.named.Goals.{then-not-contains-via-then-not-contains, then-not-contains-via-else-not-contains+then-not-is_below}

pub returns-then-not-contains : goal.returns-then-not-contains
returns-then-not-contains c =
    let t = ranged_test c.new.result 1 64 (length c.args.name.now) _ (search rules) (search rules) (search rules) c.contains.ensures.value in
    elim c.then-not-contains.branch [
      | then-not-contains-via-then-not-contains w ↦ name_long _ _ _ _ _ t w.if-not-contains.true
      | then-not-contains-via-else-not-contains+then-not-is_below w ↦ name_order _ _ _ _ _ t w.if-not-contains.false _ w.is_below.ensures w.if-not-is_below.true
    ]
