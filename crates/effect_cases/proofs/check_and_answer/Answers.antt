-- Rows are asked about only where their ends pass the check, on the same rows as blocks: that they nest is said of ends alone.
use Rattle.std.proofs.Common.{ℕ, List, arith}
use Rattle.table.specs.Rows.{Nested}
use Rattle.checks.proofs.Passed.{checked_children}
use Rattle.case_text.specs.RowTexts.{EndsKept}
use Rattle.effect_cases.proofs.check_and_answer.Goals as goal

same_ends : (rows blocks : List ℕ) (count : ℕ) → EndsKept rows blocks → Nested blocks 0 count → Nested rows 0 count
same_ends rows blocks count k n = record {
  ordered = n.ordered;
  held = omega (arith, n.held, k.size);
  after = λ i a b. rw (← k.ends i) (n.after i a b);
  within = λ i a b. rw (← k.ends i) (n.within i a b);
  nests = λ i j a b c d. rw (← k.ends i, ← k.ends j) (n.nests i j a b c (rw (k.ends i) d));
}

pub invariant_of-all : goal.invariant_of-all
invariant_of-all g c = record {
  nested =
      same_ends c.args.rows.now c.args.blocks.now c.args.count c.requires
      (checked_children c.args.blocks.now c.args.count 1 c.check.result c.check.ensures c.in-Ok.is).ends.nested;
}
