use Rattle.da_leaf.proofs.Leaves.{leaf_answers}
use Rattle.da_leaf.proofs.da_leaf.Goals as goal

pub returns-then-stmt_no_ref : goal.returns-then-stmt_no_ref
returns-then-stmt_no_ref c = search leaf_answers

pub returns : goal.returns
returns c = search leaf_answers
