-- What a line can be refused with: 1 to 6, by cases of its tests.
use Prim.Native.Nat.{ℕ, ◌+◌, ◌≤◌}
use mathlib.Core.Path.{◌≡◌, subst}
use mathlib.Core.Bool.{Bool, true, false, cond, ◌&&◌}
use mathlib.Core.List.{List}
use native.Mathlib.Omega.{arith}
use lib.Dec.{leb}
use lib.ListN.{length, drop}
use Rattle.refusals.specs.declared.Refusal.{Refusal}
use Rattle.refusals.specs.declared.Refusal.TheVariants.{WrongLine, WrongNumber, OutOfRange, WrongName, UnknownKind, WrongSide}
use Rattle.refusals.specs.Refusals.{refusal_number}
use Rattle.kinds.specs.Kinds.{bytes, entry, side_fits}
use Rattle.std.specs.Prelude.{Option, Some, None, Result, Ok, Err}
use Rattle.text.specs.Fields.{starts_with, below, all_graphic}
use Rattle.text.specs.Numbers.{number_of}
use Rattle.lines.specs.declared.Line.{Line}
use Rattle.lines.specs.declared.Row.{Row}
use Rattle.lines.specs.Lines.{line_text, next_line, keyed, in_range, number_line, name_of, name_line, five_fields, row_of, row_from, row_fields, row_line, sided, row_at}

-- either of two that a test chooses from
either : {A : Type 0} (P : A → Type 0) (b : Bool) {x y : A} → P x → P y → P (cond b x y)
either P true p q = p
either P false p q = q

-- a line, or a refusal from 1 to 6
data Low {A : Type 0} : Result A Refusal → Type 0 where
  line : {l : A} → Low (Ok l)
  low : (refusal : Refusal) → refusal_number refusal ≤ 6 → Low (Err refusal)

lowest : {A : Type 0} {refusal : Refusal} → Low {A = A} (Err refusal) → refusal_number refusal ≤ 6
lowest (low refusal h) = h

range_low : (least most next : ℕ) (spelled : Option ℕ) → Low (in_range least most next spelled)
range_low least most next None = low WrongNumber (omega arith)
range_low least most next (Some v) = either Low (leb least v && leb v most) line (low OutOfRange (omega arith))

pub number_low : (key : List ℕ) (least most : ℕ) (s : List ℕ) (at : ℕ) (refusal : Refusal) → number_line key least most s at ≡ Err refusal → refusal_number refusal ≤ 6
unfolding number_line
number_low key least most s at refusal e = lowest (subst Low e (either Low (keyed key s at) (range_low least most (next_line s (at + length key)) (number_of (line_text s (at + length key)))) (low WrongLine (omega arith))))

name_of_low : (before name : List ℕ) (offset next : ℕ) → Low (name_of before name offset next)
unfolding name_of
name_of_low before text offset next = either Low (leb 1 (length text) && (leb (length text) 64 && below before text)) line (low WrongName (omega arith))

pub name_low : (before s : List ℕ) (at : ℕ) (refusal : Refusal) → name_line before s at ≡ Err refusal → refusal_number refusal ≤ 6
unfolding name_line
name_low before s at refusal e =
    lowest
    (subst Low e
    (either Low (keyed (bytes "name=") s at)
    (either Low (all_graphic (line_text s (at + 5))) (name_of_low before _ _ _) (low WrongName (omega arith)))
    (low WrongLine (omega arith))))

of_low : (side lo hi end word : Option ℕ) (next : ℕ) → Low (row_of side lo hi end word next)
unfolding row_of
of_low None lo hi end word next = low WrongNumber (omega arith)
of_low (Some a) None hi end word next = low WrongNumber (omega arith)
of_low (Some a) (Some b) None end word next = low WrongNumber (omega arith)
of_low (Some a) (Some b) (Some c) None word next = low WrongNumber (omega arith)
of_low (Some a) (Some b) (Some c) (Some d) None next = low UnknownKind (omega arith)
of_low (Some a) (Some b) (Some c) (Some d) (Some k) next = line

sided_low : (names : ℕ) (l : Result (Line Row) Refusal) → Low l → Low (sided names l)
sided_low names (Err refusal) h = h
sided_low names (Ok r) h = either Low (side_fits (entry r.value.kind).sides names r.value.side) line (low WrongSide (omega arith))

from_low : (s : List ℕ) (a b c d e : ℕ) → Low (row_from s a b c d e)
unfolding row_from
from_low s a b c d e = either Low (five_fields s a b c d e) (of_low _ _ _ _ _ _) (low WrongLine (omega arith))

pub row_low : (names : ℕ) (s : List ℕ) (at : ℕ) (refusal : Refusal) → row_at names s at ≡ Err refusal → refusal_number refusal ≤ 6
unfolding row_at row_line row_fields
row_low names s at refusal e =
    lowest (subst Low e (sided_low names _ (either Low (starts_with (bytes "row=") (drop at s)) (from_low s _ _ _ _ _) (low WrongLine (omega arith)))))
