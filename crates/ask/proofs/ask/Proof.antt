use borrow.Author.Rules.{rules}
use Rattle.ask.proofs.Checking.{asking}
use Rattle.ask.proofs.Meaning.{ask_told}
use Rattle.ask.proofs.ask.Statement.{statement}
use Rattle.ask.proofs.ask.Tie as tie

pub ask_spec : {M : Type 1} → statement M
ask_spec =
    tie.close
    (tie.spec
    (λ c κs. search rules)
    (λ c. ask_told _ _ _ _ (search asking))
    (λ c κs. search asking)
    (λ c. ask_told _ _ _ _ (search asking))
    (λ c κs. search rules)
    (λ c. ask_told _ _ _ _ (search asking)))
