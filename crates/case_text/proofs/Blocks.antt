-- Rows made blocks: kind and side number of a row are set, which no end is.
use Prim.Native.Nat.{ℕ, ◌+◌, ◌*◌}
use mathlib.Core.Path.{refl, ◌∙◌}
use mathlib.Core.List.{List}
use native.Mathlib.Omega.{arith}
use lib.ListN.{set, length-set}
use lib.Seq.{get_or-set_other}
use Rattle.case_text.specs.RowTexts.{EndsKept}

pub blocks_start : (rows : List ℕ) → EndsKept rows rows
blocks_start rows = record { size = refl; ends = λ i. refl }

pub blocks_next : (rows₀ rows : List ℕ) (row : ℕ) → EndsKept rows₀ rows → EndsKept rows₀ (set (set rows (5 * row) 20) (5 * row + 1) 0)
blocks_next rows₀ rows row w = record {
  size = length-set (set rows (5 * row) 20) (5 * row + 1) 0 ∙ length-set rows (5 * row) 20 ∙ w.size;
  ends = λ i. get_or-set_other (set rows (5 * row) 20) (5 * row + 1) (5 * i + 4) 0 0 (omega arith) ∙ get_or-set_other rows (5 * row) (5 * i + 4) 20 0 (omega arith) ∙ w.ends i;
}
