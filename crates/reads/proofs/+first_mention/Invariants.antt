-- The loop goes from row to row, and what it keeps is that the first mention is that of the rows that are left; the expression of an event
-- whose iff is left out is asked for by a call. What falls: in the loop the rows that are left, in the call the size of the range.
use Rattle.std.proofs.Common.{◌-◌, ◌≡◌}
use Rattle.reads.proofs.Answers.{mention_of, Kept}
use Rattle.reads.proofs.+first_mention.Given as goal

abbrev pub decreases-first_mention : goal.decreases-first_mention
decreases-first_mention l = l.rows.to - l.rows.from

abbrev pub invariant-loop-row : goal.invariant-loop-row
invariant-loop-row l = record {
  kept : Kept l.rows l.left;
  same : mention_of l.iff l.local l.rows ≡ mention_of l.iff l.local l.left;
}

abbrev pub decreases-loop-row : goal.decreases-loop-row
decreases-loop-row l = l.left.to - l.left.from
