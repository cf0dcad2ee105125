-- A number tells its refusal, and none is 0, which stands for no refusal: the numbers are read back, case by case.
use Prim.Native.Nat.{ℕ, ◌≤◌}
use mathlib.Core.Path.{◌≡◌, refl, sym, ap, ◌∙◌}
use mathlib.Core.Bool.{cond}
use native.Mathlib.Omega.{arith}
use lib.Dec.{eqb}
use Rattle.refusals.specs.declared.Refusal.{Refusal}
use Rattle.refusals.specs.declared.Refusal.TheVariants.{WrongLine, WrongNumber, OutOfRange, WrongName, UnknownKind, WrongSide, WrongEnd, TooDeep, WrongChildren, TooLong, NoRoom, WrongRecord, WrongTable, NoName}
use Rattle.refusals.specs.Refusals.{refusal_number}

read_back : ℕ → Refusal
read_back n =
    cond (eqb n 1) WrongLine
    (cond (eqb n 2) WrongNumber
    (cond (eqb n 3) OutOfRange
    (cond (eqb n 4) WrongName
    (cond (eqb n 5) UnknownKind
    (cond (eqb n 6) WrongSide
    (cond (eqb n 7) WrongEnd
    (cond (eqb n 8) TooDeep
    (cond (eqb n 9) WrongChildren
    (cond (eqb n 10) TooLong
    (cond (eqb n 21) NoRoom
    (cond (eqb n 22) WrongRecord
    (cond (eqb n 23) WrongTable NoName))))))))))))

read_back_lem : (r : Refusal) → read_back (refusal_number r) ≡ r
unfolding read_back
read_back_lem WrongLine = refl
read_back_lem WrongNumber = refl
read_back_lem OutOfRange = refl
read_back_lem WrongName = refl
read_back_lem UnknownKind = refl
read_back_lem WrongSide = refl
read_back_lem WrongEnd = refl
read_back_lem TooDeep = refl
read_back_lem WrongChildren = refl
read_back_lem TooLong = refl
read_back_lem NoRoom = refl
read_back_lem WrongRecord = refl
read_back_lem WrongTable = refl
read_back_lem NoName = refl

pub number_some : (r : Refusal) → 1 ≤ refusal_number r
number_some WrongLine = omega arith
number_some WrongNumber = omega arith
number_some OutOfRange = omega arith
number_some WrongName = omega arith
number_some UnknownKind = omega arith
number_some WrongSide = omega arith
number_some WrongEnd = omega arith
number_some TooDeep = omega arith
number_some WrongChildren = omega arith
number_some TooLong = omega arith
number_some NoRoom = omega arith
number_some WrongRecord = omega arith
number_some WrongTable = omega arith
number_some NoName = omega arith

pub number_tells : (a b : Refusal) → refusal_number a ≡ refusal_number b → a ≡ b
number_tells a b e = sym (read_back_lem a) ∙ ap read_back e ∙ read_back_lem b
