use borrow.Author.Rules.{rules}
use Prim.Native.Nat.{◌-◌}
use Rattle.table.specs.Rows.{kind_at}
use Rattle.checks.specs.Steps.{root_found}
use Rattle.checks.proofs.Walking.{Walking}
use Rattle.checks.proofs.Whole.{walking}
use Rattle.checks.proofs.check_rest.Statement.{statement}
use Rattle.checks.proofs.check_rest.Tie as tie

abbrev invariant-loop : tie.invariant-loop-at
invariant-loop rows count names at₀ ends₀ left₀ own₀ entries row₀ at ends left own row = Walking rows count names (root_found count (kind_at rows 0)) ends left own row at.depth at.first

abbrev decreases-loop : tie.decreases-loop-at
decreases-loop rows count names at₀ ends₀ left₀ own₀ entries row₀ at ends left own row = count - row

pub check_rest_spec : {M : Type 1} → statement M
check_rest_spec =
    tie.close
    (tie.spec
    invariant-loop
    decreases-loop
    (λ c. search walking)
    (λ c κs. search walking)
    (λ c κs. search rules)
    (λ c. search walking)
    (λ c. search rules)
    (λ c. search rules)
    (λ c. search rules)
    (λ c. search rules)
    (λ c. search rules)
    (λ c. search rules)
    (λ c κs. search walking)
    (λ c κs. search rules)
    (λ c. search walking)
    (λ c κs. search rules)
    (λ c. search walking)
    (λ c κs. search rules)
    (λ c. search rules)
    (λ c. search rules)
    (λ c. search walking)
    (λ c. search (walking, c.enter-at.ensures))
    (λ c. search walking)
    (λ c. search walking))
