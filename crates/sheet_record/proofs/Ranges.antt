-- The ranges of a record's numbers, read off a record that fits.
use Prim.Native.Nat.{◌≤◌}
use mathlib.Core.Path.{◌≡◌, sym, ◌∙◌}
use mathlib.Core.Bool.{Bool, true, false, not, ◌&&◌, and-eq-true_iff}
use lib.Dec.{leb, ltb}
use borrow.Author.Tests.{leb-true, not-false}
use Rattle.sheet_record.specs.declared.Record.{Record}
use Rattle.sheet_record.specs.Records.{record_fits}

-- a record that fits
module _ (r : Record) (h : record_fits r ≡ true) where
  after_names : leb r.names 500 && (leb 1 r.rows && (leb r.rows 2000 && (ltb r.local r.names && (leb r.start 1 && leb r.sole 1)))) ≡ true
  unfolding record_fits
  after_names = ((and-eq-true_iff (leb 1 r.names) _).0 h).1

  pub fits_names : r.names ≤ 500
  fits_names = leb-true r.names 500 ((and-eq-true_iff (leb r.names 500) _).0 after_names).0

  pub fits_rows : (1 ≤ r.rows) × (r.rows ≤ 2000)
  fits_rows =
      let t = (and-eq-true_iff (leb 1 r.rows) _).0 ((and-eq-true_iff (leb r.names 500) _).0 after_names).1 in
      (leb-true 1 r.rows t.0, leb-true r.rows 2000 ((and-eq-true_iff (leb r.rows 2000) _).0 t.1).0)

-- by what record_fits answered
pub few_names : (r : Record) (b : Bool) → b ≡ record_fits r → not b ≡ false → r.names ≤ 500
few_names r b q n = fits_names r (sym q ∙ not-false b n)
