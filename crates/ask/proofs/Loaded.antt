-- Tables as loading leaves them are not refused: they pass the check, and asking is the walk.
use Prim.Native.Nat.{ℕ, zero, suc, ◌*◌, ◌≤◌, ◌<◌}
use mathlib.Core.Path.{◌≡◌, refl}
use mathlib.Core.Bool.{true}
use mathlib.Core.List.{List}
use native.Mathlib.Omega.{arith}
use lib.ListN.{length}
use borrow.Author.Tests.{le-leb}
use Rattle.checks.specs.Checks.{passed}
use Rattle.checks.proofs.Passed.{fields_passed, children_passed, checked_pass}
use Rattle.sheet_record.specs.declared.Record.{Record}
use Rattle.sheet_record.specs.Records.{mark_at, record_held, marks_fit}
use Rattle.sheet.specs.Meaning.{Asked}
use Rattle.ask.specs.Ask.{table_checked, walked, walk_answer, ask_of}

all_marks : (names : List ℕ) (count : ℕ) → ((i : ℕ) → i < count → mark_at names i ≤ 1) → marks_fit names count ≡ true
unfolding marks_fit
all_marks names zero h = refl
all_marks names (suc n) h = rw (le-leb (mark_at names n) 1 (h n (omega arith))) (all_marks names n (λ i k. h i (omega arith)))

module _ (r : Record) (rows names : List ℕ) (a : Asked r rows names) where
  is_held : record_held r (length rows) (length names) ≡ true
  unfolding record_held
  is_held = rw (a.fits, le-leb (5 * r.rows) (length rows) a.rows_held, le-leb (3 * r.names) (length names) a.names_held)

  pub is_checked : table_checked r rows ≡ passed
  is_checked = checked_pass rows r.rows r.names (fields_passed rows r.rows r.names _ refl a.fields) (children_passed rows r.rows _ refl a.children)

  pub asked_walks : ask_of r rows names ≡ walk_answer (walked r rows names)
  unfolding ask_of
  asked_walks = rw (is_held, all_marks names r.names a.marks, is_checked)
