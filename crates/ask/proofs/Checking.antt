-- What the functions answer, from what stands in the code where they return: a law for each place, with the tests before it as premises.
use Prim.Native.Nat.{ℕ, ◌*◌, ◌≤◌}
use mathlib.Core.Path.{◌≡◌, refl, sym, ◌∙◌}
use mathlib.Core.Bool.{Bool, true, false, not, and-eq-true_iff}
use mathlib.Core.List.{List}
use native.Mathlib.Omega.{arith}
use lib.Dec.{leb}
use lib.ListN.{length}
use borrow.Author.Rules.{rules}
use borrow.Author.Tests.{leb-true, not-true, not-false}
use Rattle.checks.specs.Checks.{passed}
use Rattle.checks.proofs.Passed.{checked_children}
use Rattle.sheet_record.specs.declared.Record.{Record}
use Rattle.sheet_record.specs.Records.{record_fits, record_held, marks_fit}
use Rattle.refusals.specs.declared.Refusal.TheVariants.{WrongRecord, WrongTable}
use Rattle.da_walk.specs.Statement.{StatementIn}
use Rattle.answers.specs.declared.Answer.{Answer}
use Rattle.answers.specs.declared.Answer.TheVariants.{Refused}
use Rattle.ask.specs.Ask.{table_checked, table_answer, ask_of}

-- walk
-- a table that passes has a statement as its first row
pub table_statement : (r : Record) (rows : List ℕ) → table_checked r rows ≡ passed → StatementIn rows 0 r.rows
table_statement r rows e =
    let right = checked_children rows r.rows r.names (table_checked r rows) refl e in
    record { nested = right.ends.nested; some = omega (arith, right.ends.held.some); statement = right.statement }

-- ask
module _ (r : Record) (rows names : List ℕ) (b : Bool) (e : b ≡ record_held r (length rows) (length names)) where
  pub ask_record : not b ≡ true → Refused WrongRecord 0 ≡ ask_of r rows names
  unfolding ask_of
  ask_record h = rw (← e, not-true b h)

  module _ (h : not b ≡ false) where
    pub names_room : 3 * r.names ≤ length names
    unfolding record_held
    names_room =
        let t = ((and-eq-true_iff (record_fits r) _).0 (sym e ∙ not-false b h)).1 in
        leb-true (3 * r.names) (length names) ((and-eq-true_iff (leb (5 * r.rows) (length rows)) _).0 t).1

    module _ (c : Bool) (f : c ≡ marks_fit names r.names) where
      pub ask_marks : not c ≡ true → Refused WrongTable 0 ≡ ask_of r rows names
      unfolding ask_of
      ask_marks k = rw (← e, not-false b h, ← f, not-true c k)

      pub ask_checked : (a : Answer) → not c ≡ false → a ≡ table_answer r rows names → a ≡ ask_of r rows names
      unfolding ask_of
      ask_checked a k w = w ∙ rw (← e, not-false b h, ← f, not-false c k)

pub ruleset asking = (rules, ask_record, names_room, ask_marks, ask_checked)
