use borrow.Author.Rules.{rules}
use Rattle.checks.proofs.Items.{LeftOver, ending}
use Rattle.checks.proofs.all_repeat.Statement.{statement}
use Rattle.checks.proofs.all_repeat.Tie as tie

abbrev invariant-loop : tie.invariant-loop-left
invariant-loop left₀ left = LeftOver left₀ left

abbrev decreases-loop : tie.decreases-loop-left
decreases-loop left₀ left = left

pub all_repeat_spec : {M : Type 1} → statement M
all_repeat_spec =
    tie.close
    (tie.spec
    invariant-loop
    decreases-loop
    (λ c. search ending)
    (λ c κs. search rules)
    (λ c κs. search rules)
    (λ c. search ending)
    (λ c. search ending)
    (λ c. search ending))
