-- What a good load tells: it passes every check that asking makes, its names ascend, its rows are a tree. The definition is taken apart case by case,
-- and each part cites the law of its lines or of its check.
use Prim.Native.Nat.{ℕ, zero, suc, ◌+◌, ◌-◌, ◌*◌, ◌≤◌, ◌<◌}
use mathlib.Core.Path.{◌≡◌, refl, sym, ap, ◌∙◌}
use mathlib.Core.Bool.{Bool, true, false, cond, ◌||◌, and-eq-true_iff}
use mathlib.Core.List.{List, [], ◌∷◌, ◌++◌}
use native.Mathlib.Omega.{arith}
use lib.Dec.{leb, ltb}
use lib.ListN.{length, take, get_or, replicate, length-append, length-replicate, get_or-append, get_or-eq_default}
use lib.Seq.{take_at}
use borrow.Author.Tests.{leb-true, le-leb, ltb-true, ltb-false, lt-ltb}
use Rattle.kinds.specs.Kinds.{bytes}
use Rattle.table.specs.Rows.{tree, Nested}
use Rattle.table.proofs.Same.{tree_front}
use Rattle.checks.specs.Checks.{Checked, passed, fields_of, ends_of, children_of}
use Rattle.checks.proofs.Same.{children_same}
use Rattle.checks.proofs.Rows.{both_pass}
use Rattle.checks.proofs.Passed.{children_passed}
use Rattle.text.specs.Fields.{starts_with, below}
use Rattle.lines.specs.Lines.{jump_mark}
use Rattle.sheet_record.specs.declared.Record.{Record}
use Rattle.sheet_record.specs.Records.{record_fits, mark_at, text_at}
use Rattle.sheet.proofs.ReadLaws.{NameEntry, names_length, names_entry, names_ascend, entry_append, text_append}
use Rattle.refusals.specs.declared.Refusal.{Refusal}
use Rattle.refusals.specs.declared.Refusal.TheVariants.{TooLong, NoRoom}
use Rattle.std.specs.Prelude.{Ok, Err}
use Rattle.refusals.specs.declared.Refused.{Refused}
use Rattle.sheet.specs.Load.{Loaded, Parsed, parsed, wrong, lines_of, Loading, refuse, table_of, has_room, after_checks, checked_answer, with_tables, finish_of, after_parse, load_of}
use Rattle.sheet.specs.Meaning.{Asked, LoadMeans}
use Rattle.sheet.proofs.Reading.{RecordTold, BeforeParts, before_parts}
use Rattle.load.proofs.Finishing.{never, answered}
use Rattle.load.proofs.Loading.{LinesTold, lines_told, record_told, row_count, lines_fields, refused_load}

-- the lines, the room and the checks of a good load, and its tables
pub record GoodLoad (s : List ℕ) (row_room name_room : ℕ) (r : Record) : Type 0 where
  pub name_numbers : List ℕ
  pub row_numbers : List ℕ
  pub lines : lines_of s ≡ parsed r name_numbers row_numbers
  pub for_rows : 5 * r.rows ≤ row_room
  pub for_names : 3 * r.names ≤ name_room
  pub checked : children_of (table_of row_room row_numbers) r.rows ≡ passed
  pub is : load_of s row_room name_room ≡ record { answer = Ok r; rows = table_of row_room row_numbers; names = table_of name_room name_numbers }

good_checks : (c : Checked) (q r : Record) → after_checks c q ≡ Ok r → (c ≡ passed) × (q ≡ r)
good_checks (Ok u) q r e = (refl, cc)
good_checks (Err x) q r e = never e

module _ (s : List ℕ) (row_room name_room : ℕ) (r : Record) where
  not_done : (f : Refusal) (l : ℕ) → (refuse row_room name_room f l).answer ≡ Ok r → GoodLoad s row_room name_room r
  unfolding refuse
  not_done f l e = never e

  good_tables : (a : Loaded) (rows names : List ℕ) → (with_tables row_room name_room a rows names).answer ≡ Ok r → a ≡ Ok r
  unfolding refuse
  good_tables (Ok q) rows names e = e
  good_tables (Err x) rows names e = never e

  good_room : (q : Record) (ns rs : List ℕ) → lines_of s ≡ parsed q ns rs → load_of s row_room name_room ≡ finish_of row_room name_room q ns rs → (b : Bool) → has_room row_room name_room q ≡ b → (cond b (with_tables row_room name_room (checked_answer q (table_of row_room rs)) (table_of row_room rs) (table_of name_room ns)) (refuse row_room name_room NoRoom 0)).answer ≡ Ok r → GoodLoad s row_room name_room r
  unfolding has_room checked_answer finish_of
  good_room q ns rs l w true b e =
      let a = good_tables (checked_answer q (table_of row_room rs)) (table_of row_room rs) (table_of name_room ns) e in
      let c = good_checks (children_of (table_of row_room rs) q.rows) q r a in
      let x = c.1 in
      let t = (and-eq-true_iff (leb (5 * q.rows) row_room) (leb (3 * q.names) name_room)).0 b in
      let whole : load_of s row_room name_room ≡ with_tables row_room name_room (checked_answer q (table_of row_room rs)) (table_of row_room rs) (table_of name_room ns) = w ∙ rw b in
      record {
        name_numbers = ns;
        row_numbers = rs;
        lines = l ∙ ap (λ (y : Record). parsed y ns rs) x;
        for_rows = omega (arith, leb-true (5 * q.rows) row_room t.0, ap (λ (y : Record). y.rows) x);
        for_names = omega (arith, leb-true (3 * q.names) name_room t.1, ap (λ (y : Record). y.names) x);
        checked = ap (λ (y : Record). children_of (table_of row_room rs) y.rows) (sym x) ∙ c.0;
        is = whole ∙ ap (λ (y : Loaded). with_tables row_room name_room y (table_of row_room rs) (table_of name_room ns)) a;
      }
  good_room q ns rs l w false b e = not_done NoRoom 0 e

  good_lines : (p : Parsed) → lines_of s ≡ p → load_of s row_room name_room ≡ after_parse row_room name_room p → (after_parse row_room name_room p).answer ≡ Ok r → GoodLoad s row_room name_room r
  unfolding finish_of
  good_lines (parsed q ns rs) l w e = good_room q ns rs l w (has_room row_room name_room q) refl e
  good_lines (wrong refusal line) l w e = not_done refusal line e

  good_length : (b : Bool) → leb (length s) 65536 ≡ b → (cond b (after_parse row_room name_room (lines_of s)) (refuse row_room name_room TooLong 0)).answer ≡ Ok r → GoodLoad s row_room name_room r
  unfolding load_of
  good_length true b e = good_lines (lines_of s) refl (rw b) e
  good_length false b e = not_done TooLong 0 e

  pub good_load : (load_of s row_room name_room).answer ≡ Ok r → GoodLoad s row_room name_room r
  unfolding load_of
  good_load e = good_length (leb (length s) 65536) refl e

-- numbers in front of a table
pub table_length : (room : ℕ) (numbers : List ℕ) → length numbers ≤ room → length (table_of room numbers) ≡ room
unfolding table_of
table_length room numbers h = length-append numbers (replicate (room - length numbers) 0) ∙ omega (arith, length-replicate {A = ℕ} (room - length numbers) 0)

table_front : (room : ℕ) (numbers : List ℕ) (i : ℕ) → i < length numbers → get_or (table_of room numbers) i 0 ≡ get_or numbers i 0
unfolding table_of
table_front room numbers i h = get_or-append numbers (replicate (room - length numbers) 0) 0 i h

-- past them it reads zeros, as the numbers themselves do
past_zeros : (n i : ℕ) → get_or (replicate {A = ℕ} n 0) i 0 ≡ 0
past_zeros zero i = refl
past_zeros (suc n) zero = refl
past_zeros (suc n) (suc i) = past_zeros n i

any_place : (numbers : List ℕ) (n i : ℕ) → get_or (numbers ++ replicate n 0) i 0 ≡ get_or numbers i 0
any_place [] n i = past_zeros n i
any_place (x ∷ xs) n zero = refl
any_place (x ∷ xs) n (suc i) = any_place xs n i

table_reads : (room : ℕ) (numbers : List ℕ) (i : ℕ) → get_or (table_of room numbers) i 0 ≡ get_or numbers i 0
unfolding table_of
table_reads room numbers i = any_place numbers (room - length numbers) i

-- a mark is 0 or 1
mark_small : (name : List ℕ) → jump_mark name ≤ 1
unfolding jump_mark
mark_small name = go (starts_with (bytes "$break$") name || starts_with (bytes "$continue$") name)
  where
    go : (b : Bool) → cond b 1 0 ≤ 1
    go true = omega arith
    go false = omega arith

record_right : (r : Record) → RecordTold r → record_fits r ≡ true
unfolding record_fits
record_right r t =
    let f = t.facts in
    let below : r.local < r.names = omega (arith, t.names, f.local) in
    rw
    (le-leb 1 r.names t.names.least, le-leb r.names 500 t.names.most, le-leb 1 r.rows f.rows.least, le-leb r.rows 2000 f.rows.most, lt-ltb r.local r.names below, le-leb r.start 1 f.start.most, le-leb r.sole 1 f.sole.most)

-- of its tables
module _ (s : List ℕ) (row_room name_room : ℕ) (r : Record) (g : GoodLoad s row_room name_room r) where
  told : LinesTold s r g.name_numbers g.row_numbers
  told = lines_told s r g.name_numbers g.row_numbers g.lines

  parts : BeforeParts s r g.name_numbers told.rows_at
  parts = before_parts s r g.name_numbers told.rows_at told.first

  rows_counted : length g.row_numbers ≡ 5 * r.rows
  rows_counted = row_count s r g.name_numbers g.row_numbers g.lines

  name_count : length g.name_numbers ≡ 3 * r.names
  name_count = names_length s r.names [] parts.names_at 3 g.name_numbers parts.facts_at parts.names

  rows_wide : length (table_of row_room g.row_numbers) ≡ row_room
  rows_wide = table_length row_room g.row_numbers (omega (arith, rows_counted, g.for_rows))

  names_wide : length (table_of name_room g.name_numbers) ≡ name_room
  names_wide = table_length name_room g.name_numbers (omega (arith, name_count, g.for_names))

  ranges : RecordTold r
  ranges = record_told s r g.name_numbers g.row_numbers g.lines

  fields : fields_of (table_of row_room g.row_numbers) r.rows r.names ≡ passed
  unfolding table_of
  fields =
      lines_fields s r g.name_numbers g.row_numbers g.lines (table_of row_room g.row_numbers) (omega (arith, rows_wide, g.for_rows)) front
    where
      front : take (5 * r.rows) (table_of row_room g.row_numbers) ≡ g.row_numbers
      front = take_at g.row_numbers _ (5 * r.rows) rows_counted

  entry : (i : ℕ) → i < r.names → NameEntry s (table_of name_room g.name_numbers) i
  unfolding table_of
  entry i h =
      entry_append s g.name_numbers (replicate (name_room - length g.name_numbers) 0) i r.names name_count h
      (names_entry s r.names [] parts.names_at 3 g.name_numbers parts.facts_at parts.names i h)

  asked : Asked r (table_of row_room g.row_numbers) (table_of name_room g.name_numbers)
  asked =
      record {
        fits = record_right r ranges;
        rows_held = omega (arith, rows_wide, g.for_rows);
        names_held = omega (arith, names_wide, g.for_names);
        marks = λ i h. rw (entry i h).mark (mark_small (text_at s (table_of name_room g.name_numbers) i));
        fields = fields;
        ends = (both_pass (ends_of (table_of row_room g.row_numbers) r.rows) _ g.checked).0;
        children = g.checked;
      }

  -- every mark is that of the name's text; a number that no name has stands for the empty text
  marks : (i : ℕ) → mark_at (table_of name_room g.name_numbers) i ≡ jump_mark (text_at s g.name_numbers i)
  unfolding jump_mark starts_with
  marks i = table_reads name_room g.name_numbers (3 * i + 2) ∙ go (ltb i r.names) refl
    where
      go : (b : Bool) → ltb i r.names ≡ b → mark_at g.name_numbers i ≡ jump_mark (text_at s g.name_numbers i)
      go true q = (names_entry s r.names [] parts.names_at 3 g.name_numbers parts.facts_at parts.names i (ltb-true i r.names q)).mark
      go false q =
          let h : r.names ≤ i = ltb-false i r.names q in
          rw (get_or-eq_default g.name_numbers 0 {n = 3 * i + 2} (omega (arith, name_count)), get_or-eq_default g.name_numbers 0 {n = 3 * i + 1} (omega (arith, name_count)))

  ascends : (i : ℕ) → i + 1 < r.names → below (text_at s (table_of name_room g.name_numbers) i) (text_at s (table_of name_room g.name_numbers) (i + 1)) ≡ true
  unfolding table_of
  ascends i h =
      rw
      (text_append s g.name_numbers (replicate (name_room - length g.name_numbers) 0) i r.names name_count (omega arith), text_append s g.name_numbers (replicate (name_room - length g.name_numbers) 0) (i + 1) r.names name_count h)
      (names_ascend s r.names [] parts.names_at 3 g.name_numbers parts.facts_at parts.names i h)

  nested : Nested (table_of row_room g.row_numbers) 0 r.rows
  nested = (children_passed (table_of row_room g.row_numbers) r.rows passed (sym g.checked) refl).ends.nested

  same_tree : tree (table_of row_room g.row_numbers) 0 r.rows ≡ tree g.row_numbers 0 r.rows
  unfolding table_of
  same_tree = tree_front g.row_numbers (replicate (row_room - length g.row_numbers) 0) 0 r.rows (omega (arith, rows_counted)) nested

-- the laws of a good load
module _ (s : List ℕ) (row_room name_room : ℕ) (r : Record) (e : (load_of s row_room name_room).answer ≡ Ok r) where
  good : GoodLoad s row_room name_room r
  good = good_load s row_room name_room r e

  row_table : (load_of s row_room name_room).rows ≡ table_of row_room good.row_numbers
  row_table = ap (λ (x : Loading). x.rows) good.is

  name_table : (load_of s row_room name_room).names ≡ table_of name_room good.name_numbers
  name_table = ap (λ (x : Loading). x.names) good.is

  -- it passes every check that asking makes
  pub load_asked : Asked r (load_of s row_room name_room).rows (load_of s row_room name_room).names
  load_asked = rw (row_table, name_table) (asked s row_room name_room r good)

  -- its name table says of each name where its line has it, and its mark
  pub load_entry : (i : ℕ) → i < r.names → NameEntry s (load_of s row_room name_room).names i
  load_entry i h = rw name_table (entry s row_room name_room r good i h)

  -- its names ascend
  pub load_ascends : (i : ℕ) → i + 1 < r.names → below (text_at s (load_of s row_room name_room).names i) (text_at s (load_of s row_room name_room).names (i + 1)) ≡ true
  load_ascends i h = rw name_table (ascends s row_room name_room r good i h)

  -- its rows nest, which is the premise of every law of their tree; and the tree is that of the sheet's row lines alone
  pub load_nested : Nested (load_of s row_room name_room).rows 0 r.rows
  load_nested = rw row_table (nested s row_room name_room r good)

  pub load_tree : (names rows : List ℕ) → lines_of s ≡ parsed r names rows → tree (load_of s row_room name_room).rows 0 r.rows ≡ tree rows 0 r.rows
  load_tree names rows l = rw row_table (same_tree s row_room name_room r good ∙ ap (λ (x : List ℕ). tree x 0 r.rows) (same_rows (sym good.lines ∙ l)))
    where
      same_rows : parsed r good.name_numbers good.row_numbers ≡ parsed r names rows → good.row_numbers ≡ rows
      same_rows p = cc

  -- a name is marked exactly where its line's text begins as a loop jump's does
  pub load_marks : (names rows : List ℕ) → lines_of s ≡ parsed r names rows → (i : ℕ) → mark_at (load_of s row_room name_room).names i ≡ jump_mark (text_at s names i)
  load_marks names rows l i = rw name_table (marks s row_room name_room r good i ∙ ap (λ (x : List ℕ). jump_mark (text_at s x i)) (same_names (sym good.lines ∙ l)))
    where
      same_names : parsed r good.name_numbers good.row_numbers ≡ parsed r names rows → good.name_numbers ≡ names
      same_names p = cc

-- the answer for good lines is the same in all tables that have room for them
module _ (s : List ℕ) (r : Record) (names rows : List ℕ) (l : lines_of s ≡ parsed r names rows) where
  count : length rows ≡ 5 * r.rows
  count = row_count s r names rows l

  answer_with : (row_room name_room : ℕ) → length s ≤ 65536 → has_room row_room name_room r ≡ true → (load_of s row_room name_room).answer ≡ checked_answer r (table_of row_room rows)
  unfolding load_of finish_of
  answer_with row_room name_room h q = rw (le-leb (length s) 65536 h, l, q) (answered row_room name_room (checked_answer r (table_of row_room rows)) (table_of row_room rows) (table_of name_room names))

  for_rows : (row_room name_room : ℕ) → has_room row_room name_room r ≡ true → 5 * r.rows ≤ row_room
  unfolding has_room
  for_rows row_room name_room q = leb-true (5 * r.rows) row_room ((and-eq-true_iff (leb (5 * r.rows) row_room) _).0 q).0

  same_checks : (row_room other_room : ℕ) → 5 * r.rows ≤ row_room → 5 * r.rows ≤ other_room → children_of (table_of row_room rows) r.rows ≡ children_of (table_of other_room rows) r.rows
  same_checks row_room other_room a b =
      children_same (table_of row_room rows) (table_of other_room rows) r.rows
      (omega (arith, count, table_length row_room rows (omega (arith, count))))
      (omega (arith, count, table_length other_room rows (omega (arith, count))))
      (λ i h. table_front row_room rows i (omega (arith, count)) ∙ sym (table_front other_room rows i (omega (arith, count))))

  pub load_room : (row_room name_room other_rows other_names : ℕ) → length s ≤ 65536 → has_room row_room name_room r ≡ true → has_room other_rows other_names r ≡ true → (load_of s row_room name_room).answer ≡ (load_of s other_rows other_names).answer
  unfolding checked_answer
  load_room row_room name_room other_rows other_names h p q =
      answer_with row_room name_room h p
      ∙ ap (λ (c : Checked). after_checks c r) (same_checks row_room other_rows (for_rows row_room name_room p) (for_rows other_rows other_names q))
      ∙ sym (answer_with other_rows other_names h q)

-- what a load's answer and tables mean
pub load_means : (s : List ℕ) (row_room name_room : ℕ) (a : Loaded) (rows names : List ℕ) → a ≡ (load_of s row_room name_room).answer → rows ≡ (load_of s row_room name_room).rows → names ≡ (load_of s row_room name_room).names → LoadMeans a rows names
unfolding refuse
load_means s row_room name_room a rows names p q t =
    record {
      zero_rows = λ x e. zeros row_room rows (q ∙ ap (λ (y : Loading). y.rows) (whole x e));
      zero_names = λ x e. zeros name_room names (t ∙ ap (λ (y : Loading). y.names) (whole x e));
      good = λ r e. rw (q, t) (load_asked s row_room name_room r (sym p ∙ e));
    }
  where
    whole : (x : Refused) → a ≡ Err x → load_of s row_room name_room ≡ refuse row_room name_room x.refusal x.place
    whole x e = refused_load row_room name_room x s (sym p ∙ e)

    zeros : (n : ℕ) (l : List ℕ) → l ≡ replicate n 0 → l ≡ replicate (length l) 0
    zeros n l e = let k : length l ≡ n = ap length e ∙ length-replicate {A = ℕ} n 0 in e ∙ ap (λ (m : ℕ). replicate m 0) (sym k)
