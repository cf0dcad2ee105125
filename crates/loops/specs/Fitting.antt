-- A tree whose rows are of known kinds, each with the children that its kind asks for: document 01, refusals 5 and 9.
-- Definitions only.
use Rattle.std.specs.Prelude.{Bool, ◌&&◌, ℕ}
use Rattle.table.specs.Rows.{Forest}
use Rattle.table.specs.Fold.{Alg, fold}
use Rattle.kinds.specs.Kinds.{entry, is_kind, fits}
use Rattle.checks.specs.Checks.{kinds_of}
use Rattle.reads.specs.Iffs.{every}

-- "9: children that don't fit the kind": this row's do
unfoldable pub fit_here : ℕ → Forest → Bool
fit_here k cs = is_kind k && fits (entry k).children (kinds_of cs)

-- this row's do, and those of every row below it
unfoldable pub fit_at : Alg Bool
fit_at k s lo hi cs bs = fit_here k cs && every bs

-- at every row of these siblings
unfoldable pub fitting : Forest → Bool
fitting f = every (fold fit_at f)
