-- Rows that the code passes over without a word, since each of them does nothing with the local by itself. Definitions only.
use Rattle.std.specs.Prelude.{◌≡◌, false, List, ℕ, ◌≤◌, ◌<◌}
use Rattle.table.specs.Rows.{kind_at, side_at, Nested}
use Rattle.kinds.specs.declared.ExprClass.TheVariants.{Call}
use Rattle.kinds.specs.Named.{expr_class}
use Rattle.reads.specs.Mentions.{role_of, has_iff, mentions_at}

-- row r, as a row of an expression or a target, does nothing with the local by itself: it is no mention, no event, and no call that
-- writes (side 1)
pub record Quiet (x : ℕ) (rows : List ℕ) (r : ℕ) : Type 0 where
  pub unmentioning : mentions_at x rows r ≡ false
  pub eventless : has_iff (role_of (expr_class (kind_at rows r))) ≡ false
  pub unwriting : expr_class (kind_at rows r) ≡ Call → side_at rows r ≡ 1 → ⊥

-- each of the rows from `from` up to `to` is quiet
abbrev pub AllQuiet : ℕ → List ℕ → ℕ → ℕ → Type 0
AllQuiet x rows from to = (j : ℕ) → from ≤ j → j < to → Quiet x rows j

-- what `after_quiet` tells: the rows from i up to r are passed over, each being quiet; nothing is told of row r
pub record AfterQuiet (x : ℕ) (rows : List ℕ) (i to r : ℕ) : Type 0 where
  pub after : i ≤ r
  pub within : r ≤ to
  pub nested : Nested rows r to
  pub quiet : AllQuiet x rows i r
