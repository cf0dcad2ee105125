use Rattle.std.proofs.Common.{ap, ◌∙◌}
use Rattle.text.specs.Numbers.{bounded}
use Rattle.text.proofs.Runs.{Told, read_past, read_other, read_enough, read_on}
use Rattle.text.proofs.more_digits.Goals as goal
use Rattle.text.proofs.more_digits.Goals.{then-not-is_ascii_digit-via-then-not-is_ascii_digit, then-not-is_ascii_digit-via-else-not-is_ascii_digit+then-value-gt429496729}

pub returns-then-not-is_ascii_digit :
    goal.returns-then-not-is_ascii_digit
returns-then-not-is_ascii_digit c =
    let t : Told c.args.s.now c.args.at c.args.first c.loop-stop.stop c.loop-stop.value =
    elim c.then-not-is_ascii_digit.branch [
      | then-not-is_ascii_digit-via-then-not-is_ascii_digit w ↦ read_other _ _ _ _ _ c.loop-stop.invariant c.loop-stop-test.true _ c.is_ascii_digit.ensures.value w.if-not-is_ascii_digit.true
      | then-not-is_ascii_digit-via-else-not-is_ascii_digit+then-value-gt429496729 w ↦ read_enough _ _ _ _ _ c.loop-stop.invariant c.loop-stop-test.true _ c.is_ascii_digit.ensures.value w.if-not-is_ascii_digit.false w.if-value-gt429496729.true
    ] in
    record { value = c.bounded.ensures ∙ ap bounded t.number; stop = t.stop }

pub loop-stop-preserved : goal.loop-stop-preserved
loop-stop-preserved c = read_on _ _ _ _ _ c.loop-stop.invariant c.loop-stop-test.true _ c.is_ascii_digit.ensures.value c.if-not-is_ascii_digit.false c.if-value-gt429496729.false _ c.from.ensures

pub returns : goal.returns
returns c =
    let t = read_past _ _ _ _ _ c.loop-stop.invariant c.loop-stop-test.false in
    record { value = c.bounded-2.ensures ∙ ap bounded t.number; stop = c.max.ensures ∙ t.stop }
