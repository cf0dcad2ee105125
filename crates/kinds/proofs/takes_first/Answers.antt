use Rattle.kinds.proofs.Numbers.{takes_told, taking}
use Rattle.kinds.proofs.takes_first.Goals as goal

pub returns-then-of_first-clause-means : goal.returns-then-of_first-clause-means
returns-then-of_first-clause-means c = takes_told _ _ _ (search taking)

pub returns-then-kind-ne0-clause-means : goal.returns-then-kind-ne0-clause-means
returns-then-kind-ne0-clause-means c = takes_told _ _ _ (search taking)

pub returns-clause-means : goal.returns-clause-means
returns-clause-means c = takes_told _ _ _ (search taking)
