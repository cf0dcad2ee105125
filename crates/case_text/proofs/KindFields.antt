-- The kind that a word has is no number that is no kind's.
use Prim.Native.Nat.{ℕ, ◌%◌, ◌<◌}
use mathlib.Core.Path.{◌≡◌, refl, ◌∙◌}
use mathlib.Core.List.{List}
use native.Mathlib.Omega.{arith}
use borrow.Author.Tests.{ne_eqb}
use Rattle.std.specs.Prelude.{Option, Some, None, unwrap_or}
use Rattle.kinds.specs.Words.{kind_of}
use Rattle.kinds.specs.Named.{kind_number}
use Rattle.words.proofs.Words.{found_below}
use Rattle.case_text.specs.Texts.{saturating_decimal}
use Rattle.case_text.specs.RowTexts.{kind_field}

pub kind_told : (text : List ℕ) (kind : Option ℕ) (number r : ℕ) → kind ≡ kind_of text → number ≡ saturating_decimal 0 text % 4294967296 → r ≡ unwrap_or kind number → r ≡ kind_field text
unfolding kind_field kind_number
kind_told text None number r e n q = q ∙ n ∙ rw (← e)
kind_told text (Some k) number r e n q =
    let l : k < 66 = found_below text (Some k) k e refl in
    let d : k ≡ 66 → ⊥ = λ z. omega arith in
    q ∙ rw (← e, ne_eqb k 66 d)
