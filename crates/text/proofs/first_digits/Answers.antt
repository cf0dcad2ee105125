use Rattle.std.proofs.Common.{rules, ◌∙◌}
use Rattle.text.proofs.Runs.{first_past, first_other, first_more}
use Rattle.text.proofs.first_digits.Goals as goal

pub returns-in-Some : goal.returns-in-Some
returns-in-Some c =
    let f = first_more c.args.s.now c.args.at (search rules) (search rules) c.is_ascii_digit.result (search rules) c.if-is_ascii_digit.true _ (search rules) in
    record { value = c.more_digits.ensures.value ∙ f.value_is; stop = c.more_digits.ensures.stop ∙ f.stop_is }

pub returns-in_default : goal.returns-in_default
returns-in_default c =
    let f = first_other c.args.s.now c.args.at (search rules) (search rules) c.is_ascii_digit.result (search rules) c.if-is_ascii_digit.false in
    record { value = f.value_is; stop = f.stop_is }

pub returns-in_default-2 : goal.returns-in_default-2
returns-in_default-2 c = let f = first_past c.args.s.now c.args.at (search rules) in record { value = f.value_is; stop = f.stop_is }
