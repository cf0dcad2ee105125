use Rattle.std.proofs.Common.{◌≡◌, true, not}
use Rattle.table.specs.Siblings.{forest}
use Rattle.reads.specs.NoRef.{expr_no_ref}
use Rattle.reads.proofs.Answers.{all_quiet, first_refers, later_refers}
use Rattle.reads.proofs.no_ref.Goals as goal

pub returns-else-not-is_mention : goal.returns-else-not-is_mention
returns-else-not-is_mention c = let e : not c.is_mention.result ≡ expr_no_ref c.args.local (forest c.args.rows) = search (first_refers, c.in-Some.ensures.some) in record { expr = e; lvalue = e; sensitivity = e; intra_event = e }

pub returns-then-not-is_mention : goal.returns-then-not-is_mention
returns-then-not-is_mention c = let e : c.is_none.result ≡ expr_no_ref c.args.local (forest c.args.rows) = search later_refers in record { expr = e; lvalue = e; sensitivity = e; intra_event = e }

pub returns-in-None : goal.returns-in-None
returns-in-None c = let e : true ≡ expr_no_ref c.args.local (forest c.args.rows) = search (all_quiet, c.in-None.ensures.none) in record { expr = e; lvalue = e; sensitivity = e; intra_event = e }
