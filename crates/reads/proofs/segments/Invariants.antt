-- What the loop keeps: the segments counted so far and those of the rows that are left are the path's. What falls: the rows that are
-- left.
use Rattle.std.proofs.Common.{◌-◌, ◌≡◌, ◌+◌, ◌≤◌}
use Rattle.table.specs.Siblings.{forest}
use Rattle.reads.specs.PathRows.{count, segments}
use Rattle.reads.proofs.segments.Given as goal

abbrev pub invariant-loop-left : goal.invariant-loop-left
invariant-loop-left l = record {
  few : l.counted ≤ l.left.from;
  same : l.counted + count (forest l.left) ≡ segments (forest l.rows);
}

abbrev pub decreases-loop-left : goal.decreases-loop-left
decreases-loop-left l = l.left.to - l.left.from
