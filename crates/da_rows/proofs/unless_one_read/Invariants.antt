-- What the loop keeps: what is asked of all siblings comes to what is asked of those that are left.
use Rattle.std.proofs.Common.{◌≡◌, ◌-◌}
use Rattle.std.specs.Prelude.{Ok}
use Rattle.da.specs.declared.DaOut.TheVariants.{Falls}
use Rattle.da.specs.Walk.{unless_one_read}
use Rattle.da_rows.specs.Steps.{facts_of}
use Rattle.da_rows.proofs.unless_one_read.Given as goal

abbrev pub invariant-loop-left : goal.invariant-loop-left
invariant-loop-left l = unless_one_read (facts_of l.local l.rows) l.assigned (Ok (Falls l.assigned)) ≡ unless_one_read (facts_of l.local l.left) l.assigned (Ok (Falls l.assigned))

abbrev pub decreases-loop-left : goal.decreases-loop-left
decreases-loop-left l = l.left.to - l.left.from
