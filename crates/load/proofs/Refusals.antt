-- Which numbers a load can be refused with, and where: 1 to 9 at a line, 10, 21. So it is never 22, 23 or 24, which are of a state; and it is
-- 21 only for tables that are too short for some sheet. By cases of the definition.
use Prim.Native.Nat.{ℕ, ◌*◌, ◌≤◌, ◌<◌}
use mathlib.Core.Path.{◌≡◌, refl}
use mathlib.Core.Bool.{Bool, true, false, cond, ◌&&◌, and-eq-true_iff}
use mathlib.Core.List.{List}
use native.Mathlib.Omega.{arith}
use lib.Dec.{leb}
use lib.ListN.{length}
use borrow.Author.Tests.{leb-true, leb-false}
use Rattle.checks.specs.Steps.{Held}
use Rattle.checks.specs.Checks.{Checked, children_of}
use Rattle.checks.proofs.Places.{children_place}
use Rattle.sheet_record.specs.declared.Record.{Record}
use Rattle.sheet.specs.Meaning.{LoadNumbers, loaded, of_line, too_long, no_room}
use Rattle.sheet.proofs.Reading.{RecordTold}
use Rattle.sheet.proofs.Refusals.{lines_of_refused}
use Rattle.refusals.specs.declared.Refusal.TheVariants.{TooLong, NoRoom}
use Rattle.std.specs.Prelude.{Ok, Err}
use Rattle.refusals.specs.Refusals.{refusal_number}
use Rattle.refusals.proofs.Distinct.{number_some}
use Rattle.sheet.specs.Load.{Loaded, refusal_of, place_of, Parsed, parsed, wrong, lines_of, refuse, table_of, has_room, after_checks, checked_answer, with_tables, finish_of, after_parse, load_of}
use Rattle.load.proofs.Finishing.{answered}
use Rattle.load.proofs.Loading.{record_told, row_count}
use Rattle.load.proofs.GoodLoad.{table_length}

-- a table with fewer numbers than 2,000 rows, or 500 names, may need
pub data TooShort (row_room name_room : ℕ) : Type 0 where
  few_rows : row_room < 5 * 2000 → TooShort row_room name_room
  few_names : name_room < 3 * 500 → TooShort row_room name_room

-- a refusal's number and place: of a line, of the size, or of the tables
data OfLoad (row_room name_room number place : ℕ) : Type 0 where
  at_line : 1 ≤ number → number ≤ 9 → 1 ≤ place → OfLoad row_room name_room number place
  of_size : number ≡ 10 → place ≡ 0 → OfLoad row_room name_room number place
  of_room : number ≡ 21 → place ≡ 0 → TooShort row_room name_room → OfLoad row_room name_room number place

module _ (s : List ℕ) (row_room name_room : ℕ) where
  -- an answer whose refusal, if it has one, is such
  abbrev OfInput : Loaded → Type 0
  OfInput (Ok r) = Unit
  OfInput (Err x) = OfLoad row_room name_room (refusal_number x.refusal) x.place

  checks_number : (c : Checked) (r : Record) (table : List ℕ) → Held table r.rows → children_of table r.rows ≡ c → OfInput (after_checks c r)
  checks_number (Ok u) r table h e = tt
  checks_number (Err x) r table h e = at_line (number_some x.refusal) (omega (arith, (children_place table r.rows h).number x.refusal x.place e)) (omega arith)

  with_tables_lem : (a : Loaded) (rows names : List ℕ) → OfInput a → OfInput (with_tables row_room name_room a rows names).answer
  with_tables_lem a rows names h = rw (answered row_room name_room a rows names) h

  lines_held : (r : Record) (names rows : List ℕ) → lines_of s ≡ parsed r names rows → has_room row_room name_room r ≡ true → Held (table_of row_room rows) r.rows
  unfolding has_room
  lines_held r names rows l q =
      let f = (record_told s r names rows l).facts in
      let room : 5 * r.rows ≤ row_room = leb-true (5 * r.rows) row_room ((and-eq-true_iff (leb (5 * r.rows) row_room) _).0 q).0 in
      let count = row_count s r names rows l in
      record { some = f.rows.least; few = f.rows.most; room = omega (arith, table_length row_room rows (omega (arith, count))) }

  -- a record's ranges keep its rows and names within the full lengths
  too_short : (r : Record) (names rows : List ℕ) → lines_of s ≡ parsed r names rows → has_room row_room name_room r ≡ false → TooShort row_room name_room
  unfolding has_room
  too_short r names rows l = go (leb (5 * r.rows) row_room) refl
    where
      t : RecordTold r
      t = record_told s r names rows l

      go : (b : Bool) → leb (5 * r.rows) row_room ≡ b → b && leb (3 * r.names) name_room ≡ false → TooShort row_room name_room
      go true e q = few_names (omega (arith, leb-false (3 * r.names) name_room q, t.names.most))
      go false e q = few_rows (omega (arith, leb-false (5 * r.rows) row_room e, t.facts.rows.most))

  room_number : (r : Record) (names rows : List ℕ) → lines_of s ≡ parsed r names rows → (b : Bool) → has_room row_room name_room r ≡ b
      → OfInput (cond b (with_tables row_room name_room (checked_answer r (table_of row_room rows)) (table_of row_room rows) (table_of name_room names)) (refuse row_room name_room NoRoom 0)).answer
  unfolding checked_answer refuse
  room_number r names rows l true q = with_tables_lem (checked_answer r (table_of row_room rows)) (table_of row_room rows) (table_of name_room names) (checks_number (children_of (table_of row_room rows) r.rows) r (table_of row_room rows) (lines_held r names rows l q) refl)
  room_number r names rows l false q = of_room refl refl (too_short r names rows l q)

  parse_number : (p : Parsed) → lines_of s ≡ p → OfInput (after_parse row_room name_room p).answer
  unfolding finish_of refuse
  parse_number (parsed r names rows) l = room_number r names rows l (has_room row_room name_room r) refl
  parse_number (wrong refusal line) l = let o = lines_of_refused s refusal line l in at_line (number_some refusal) (omega (arith, o.number)) o.place

  load_input : OfInput (load_of s row_room name_room).answer
  unfolding load_of refuse
  load_input = go (leb (length s) 65536)
    where
      go : (b : Bool) → OfInput (cond b (after_parse row_room name_room (lines_of s)) (refuse row_room name_room TooLong 0)).answer
      go true = parse_number (lines_of s) refl
      go false = of_size refl refl

  numbers_told : (n place : ℕ) → OfLoad row_room name_room n place → LoadNumbers n place
  numbers_told n place (at_line a b c) = of_line a b c
  numbers_told n place (of_size a b) = too_long a b
  numbers_told n place (of_room a b short) = no_room a b

  -- what a load tells in numbers
  pub load_numbers : (a : Loaded) → a ≡ (load_of s row_room name_room).answer → LoadNumbers (refusal_of a) (place_of a)
  load_numbers a e = go a (rw e load_input)
    where
      go : (a : Loaded) → OfInput a → LoadNumbers (refusal_of a) (place_of a)
      go (Ok r) h = loaded refl refl
      go (Err x) h = numbers_told (refusal_number x.refusal) x.place h

  short_told : (a : Loaded) → OfInput a → refusal_of a ≡ 21 → TooShort row_room name_room
  short_told (Ok r) h e = absurd (omega (arith, e))
  short_told (Err x) (at_line a b c) e = absurd (omega (arith, b, e))
  short_told (Err x) (of_size a b) e = absurd (omega (arith, a, e))
  short_told (Err x) (of_room a b short) e = short

  -- 21 is the tables' fault: they are too short for some sheet
  pub no_room_short : refusal_of (load_of s row_room name_room).answer ≡ 21 → TooShort row_room name_room
  no_room_short = short_told (load_of s row_room name_room).answer load_input
