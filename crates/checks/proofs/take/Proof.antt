use borrow.Author.Rules.{rules}
use Rattle.checks.proofs.Items.{Taking, taking}
use Rattle.checks.proofs.take.Statement.{statement}
use Rattle.checks.proofs.take.Tie as tie

abbrev invariant-loop : tie.invariant-loop-i
invariant-loop left₀ own i kind first items₀ left items = Taking left₀ i kind left items

abbrev decreases-loop : tie.decreases-loop-i
decreases-loop left₀ own i kind first items₀ left items = items

pub take_spec : {M : Type 1} → statement M
take_spec =
    tie.close
    (tie.spec
    invariant-loop
    decreases-loop
    (λ c. search rules)
    (λ c. search rules)
    (λ c. search taking)
    (λ c κs. search rules)
    (λ c κs. search rules)
    (λ c. search rules)
    (λ c. search rules)
    (λ c κs. search rules)
    (λ c. search taking)
    (λ c κs. search rules)
    (λ c. search rules)
    (λ c. search rules)
    (λ c. search taking)
    (λ c. search taking)
    (λ c κs. search rules)
    (λ c. search taking)
    (λ c κs. search rules)
    (λ c. search rules)
    (λ c. search rules)
    (λ c. search taking))
