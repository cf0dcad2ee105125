use Rattle.checks.proofs.Items.{settling}
use borrow.Author.Rules.{rules}
use Rattle.checks.proofs.settle.Statement.{statement}
use Rattle.checks.proofs.settle.Tie as tie

pub settle_spec : {M : Type 1} → statement M
settle_spec = tie.close (tie.spec (λ c. search settling) (λ c κs. search rules) (λ c. search settling) (λ c κs. search rules) (λ c. search settling))
