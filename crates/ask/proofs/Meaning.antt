-- What an answer means, from demand 3 over trees: asking refuses with 22 or 23, or answers as the walk does, by cases of the definition; then what the
-- walk means is what the answer means.
use mathlib.Core.Path.{◌≡◌, refl}
use mathlib.Core.Bool.{Bool, true, false, cond, and-eq-true_iff}
use mathlib.Core.List.{List}
use Prim.Native.Nat.{ℕ, ◌*◌, ◌<◌}
use native.Mathlib.Omega.{arith}
use lib.Dec.{eqb, leb}
use lib.ListN.{length}
use borrow.Author.Tests.{leb-true}
use Rattle.checks.specs.Checks.{Checked}
use Rattle.checks.specs.Steps.{Held}
use Rattle.checks.proofs.Places.{Within, checked_place}
use Rattle.refusals.specs.declared.Refusal.TheVariants.{WrongRecord, WrongTable}
use Rattle.sheet_record.specs.declared.Record.{Record}
use Rattle.sheet_record.specs.Records.{record_fits, marks_of, record_held, marks_fit}
use Rattle.sheet_record.proofs.Ranges.{fits_rows}
use Rattle.da.specs.declared.DaOut.TheVariants as O
use Rattle.std.specs.Prelude.{Ok, Err}
use Rattle.da.specs.Outcome.{DaResult, reason_number, State, Accepted}
use Rattle.da.specs.Walk.{da_ctx}
use Rattle.da.proofs.Reasons.{Reasoned, goes_on, stops, nine_reasons}
use Rattle.soundness.proofs.Demand3.{walk_means}
use Rattle.answers.specs.declared.Answer.{Answer}
use Rattle.answers.specs.declared.Answer.TheVariants.{Falls, Jumps, Refused}
use Rattle.answers.specs.Answers.{AcceptedAnswer, numbers_of, WalkNumbers, falls, jumps, gives_up}
use Rattle.ask.specs.Ask.{table_checked, row_tree, start_of, walked, walk_answer, after_table, table_answer, ask_of}
use Rattle.ask.specs.Meaning.{AskNumbers, by_walk, wrong_record, wrong_table, AskMeans}

-- asking refuses, or answers as the walk does
pub data AskedTo (r : Record) (rows names : List ℕ) : Answer → Type 0 where
  no_record : AskedTo r rows names (Refused WrongRecord 0)
  no_table : (row : ℕ) → row < r.rows → AskedTo r rows names (Refused WrongTable row)
  walks : AskedTo r rows names (walk_answer (walked r rows names))

-- where a record is held, the table holds its rows
record_table : (r : Record) (rows : List ℕ) (name_room : ℕ) → record_held r (length rows) name_room ≡ true → Held rows r.rows
unfolding record_held
record_table r rows name_room e =
    let t = (and-eq-true_iff (record_fits r) _).0 e in
    record { some = (fits_rows r t.0).0; few = (fits_rows r t.0).1; room = leb-true (5 * r.rows) (length rows) ((and-eq-true_iff (leb (5 * r.rows) (length rows)) _).0 t.1).0 }

-- a refusal of a table is at one of its rows
table_place : (r : Record) (rows : List ℕ) → Held rows r.rows → Within 0 r.rows 9 (table_checked r rows)
table_place r rows h = checked_place rows r.rows h r.names

module _ (r : Record) (rows names : List ℕ) where
  checked_to : (c : Checked) → Within 0 r.rows 9 c → AskedTo r rows names (after_table c (walk_answer (walked r rows names)))
  checked_to (Ok u) w = walks
  checked_to (Err refused) w = no_table refused.place (w.row refused.refusal refused.place refl).1

  marked_to : Held rows r.rows → (b : Bool) → AskedTo r rows names (cond b (table_answer r rows names) (Refused WrongTable 0))
  marked_to h true = checked_to (table_checked r rows) (table_place r rows h)
  marked_to h false = no_table 0 (omega (arith, h.some))

  held_to : (b : Bool) → record_held r (length rows) (length names) ≡ b → AskedTo r rows names (cond b (cond (marks_fit names r.names) (table_answer r rows names) (Refused WrongTable 0)) (Refused WrongRecord 0))
  held_to true e = marked_to (record_table r rows (length names) e) (marks_fit names r.names)
  held_to false e = no_record

  pub asked_to : AskedTo r rows names (ask_of r rows names)
  unfolding ask_of
  asked_to = held_to (record_held r (length rows) (length names)) refl

-- the walk's answers
walk_accepted : (d : DaResult) → AcceptedAnswer (walk_answer d) → Accepted d
walk_accepted (Ok out) h = tt
walk_accepted (Err stop) h = h

walk_falls : (d : DaResult) (a : State) → walk_answer d ≡ Falls a → d ≡ Ok (O.Falls a)
walk_falls (Ok (O.Falls b)) a h = cc
walk_falls (Ok O.Jumps) a h = cc
walk_falls (Err stop) a h = cc

walk_jumps : (d : DaResult) → walk_answer d ≡ Jumps → d ≡ Ok O.Jumps
walk_jumps (Ok (O.Falls b)) h = cc
walk_jumps (Ok O.Jumps) h = refl
walk_jumps (Err stop) h = cc

-- the walk's answers in numbers
reasoned_numbers : {d : DaResult} → Reasoned d → WalkNumbers (numbers_of (walk_answer d))
reasoned_numbers (goes_on (O.Falls a)) = falls a
reasoned_numbers (goes_on O.Jumps) = jumps
reasoned_numbers (stops reason lo hi l m) = gives_up (reason_number reason) lo hi l m

pub walk_numbers : (r : Record) (rows names : List ℕ) → WalkNumbers (numbers_of (walk_answer (walked r rows names)))
walk_numbers r rows names = reasoned_numbers (nine_reasons (da_ctx r.local (marks_of names) (eqb r.sole 1)) (row_tree r rows) (start_of r))

module _ (r : Record) (rows names : List ℕ) where
  accepted_walk : {a : Answer} → AskedTo r rows names a → AcceptedAnswer a → Accepted (walked r rows names)
  accepted_walk no_record h = absurd h
  accepted_walk (no_table row b) h = absurd h
  accepted_walk walks h = walk_accepted (walked r rows names) h

  falls_walk : {a : Answer} → AskedTo r rows names a → a ≡ Falls true → walked r rows names ≡ Ok (O.Falls true)
  falls_walk no_record h = cc
  falls_walk (no_table row b) h = cc
  falls_walk walks h = walk_falls (walked r rows names) true h

  jumps_walk : {a : Answer} → AskedTo r rows names a → a ≡ Jumps → walked r rows names ≡ Ok O.Jumps
  jumps_walk no_record h = cc
  jumps_walk (no_table row b) h = cc
  jumps_walk walks h = walk_jumps (walked r rows names) h

  told_numbers : {a : Answer} → AskedTo r rows names a → AskNumbers r (numbers_of a)
  told_numbers no_record = wrong_record
  told_numbers (no_table row b) = wrong_table row b
  told_numbers walks = by_walk (walk_numbers r rows names)

  -- "start 0" is the unwritten start
  unwritten_start : r.start ≡ 0 → start_of r ≡ false
  unwritten_start h = rw h

  pub ask_means : (a : Answer) → a ≡ ask_of r rows names → AskMeans r rows names a
  ask_means a e =
      let asked : AskedTo r rows names a = rw e (asked_to r rows names) in
      let walk = walk_means r.local (marks_of names) (eqb r.sole 1) (row_tree r rows) (start_of r) in
      record {
        safe = λ h z. walk.safe (accepted_walk asked h) (unwritten_start z);
        written = λ h z. walk.written (falls_walk asked h) (unwritten_start z);
        away = λ h. walk.away (jumps_walk asked h);
      }

-- all clauses of the contract
pub ask_told : (r : Record) (rows names : List ℕ) (a : Answer) → a ≡ ask_of r rows names → (a ≡ ask_of r rows names) × (AskNumbers r (numbers_of a) × AskMeans r rows names a)
ask_told r rows names a e = (e, (rw e (told_numbers r rows names (asked_to r rows names)), ask_means r rows names a e))
