use borrow.Author.Tests.{lt-leb, le-leb}
use Rattle.kinds.specs.Steps.{of_first}
use Rattle.kinds.proofs.of_first.Goals as goal

pub returns-then-kind-items : goal.returns-then-kind-items
unfolding of_first
returns-then-kind-items c = rw (lt-leb _ _ c.if-kind-items.true)

pub returns : goal.returns
unfolding of_first
returns c = rw (le-leb _ _ c.if-kind-items.false)
