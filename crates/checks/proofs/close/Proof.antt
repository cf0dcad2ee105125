use borrow.Author.Rules.{rules}
use Rattle.checks.proofs.Placing.{Closing, closing}
use Rattle.checks.proofs.close.Statement.{statement}
use Rattle.checks.proofs.close.Tie as tie

abbrev invariant-loop : tie.invariant-loop-depth
invariant-loop ends left own depth₀ row first₀ depth first = Closing ends left own row depth₀ first₀ depth first

abbrev decreases-loop : tie.decreases-loop-depth
decreases-loop ends left own depth₀ row first₀ depth first = depth

pub close_spec : {M : Type 1} → statement M
close_spec =
    tie.close
    (tie.spec
    invariant-loop
    decreases-loop
    (λ c. search closing)
    (λ c. search rules)
    (λ c. search rules)
    (λ c. search rules)
    (λ c. search closing)
    (λ c. search rules)
    (λ c. search rules)
    (λ c. search rules)
    (λ c. search rules)
    (λ c. search rules)
    (λ c κs. search rules)
    (λ c. search rules)
    (λ c. search (closing, rules))
    (λ c. search closing))
