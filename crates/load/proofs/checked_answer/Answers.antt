use Prim.Native.Nat.{◌≤◌}
use native.Mathlib.Omega.{arith}
use Rattle.load.proofs.Finishing.{check_passed, check_row, check_refused}
use Rattle.load.proofs.checked_answer.Goals as goal

pub line_of-requires : goal.line_of-requires
line_of-requires c = let few : c.in-Err.refused.place ≤ 2000 = check_row c.args.record _ c.requires.1 _ c.check.ensures _ c.in-Err.is in (c.requires.0, omega arith)

pub returns-in-Ok : goal.returns-in-Ok
returns-in-Ok c = check_passed _ _ c.requires.1 _ c.check.ensures c.in-Ok.is

pub returns-in-Err : goal.returns-in-Err
returns-in-Err c = check_refused _ _ c.requires.1 _ c.check.ensures _ c.in-Err.is _ c.line_of.ensures
