use borrow.Author.Rules.{rules}
use Rattle.checks.proofs.Placing.{placing}
use Rattle.checks.proofs.place.Statement.{statement}
use Rattle.checks.proofs.place.Tie as tie

pub place_spec : {M : Type 1} → statement M
place_spec =
    tie.close
    (tie.spec
    (λ c. search rules)
    (λ c. search rules)
    (λ c. search rules)
    (λ c. search rules)
    (λ c. search rules)
    (λ c. search rules)
    (λ c. search rules)
    (λ c. search rules)
    (λ c. search placing)
    (λ c κs. search rules)
    (λ c. search rules)
    (λ c κs. search rules)
    (λ c. search placing))
