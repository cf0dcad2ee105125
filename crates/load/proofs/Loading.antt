-- The whole of a load, from its lines and what follows them: the parts of lines that are right, that their fields pass in every table that has them in
-- front, and what a refusal leaves. By cases of the definition.
use Prim.Native.Nat.{ℕ, ◌+◌, ◌*◌, ◌≤◌, ◌<◌}
use mathlib.Core.Path.{◌≡◌, refl, sym, ap, ◌∙◌}
use mathlib.Core.Bool.{Bool, true, false, cond, and-eq-true_iff, true≢false}
use mathlib.Core.List.{List}
use native.Mathlib.Omega.{arith}
use lib.Dec.{leb, ltb}
use lib.ListN.{length, take, get_or, replicate}
use lib.Seq.{get_or-take}
use borrow.Author.Tests.{le-leb, lt-leb, leb-true, ltb-false}
use Rattle.refusals.specs.declared.Refusal.{Refusal}
use Rattle.refusals.specs.declared.Refusal.TheVariants.{WrongLine, TooLong, NoRoom}
use Rattle.table.specs.Rows.{kind_at}
use Rattle.checks.specs.Checks.{passed, fields_of}
use Rattle.checks.proofs.Passed.{fields_pass}
use Rattle.sheet.specs.Header.{first_row}
use Rattle.sheet.specs.Sections.{Lines, read, refused, after_lines, rows_from}
use Rattle.sheet_record.specs.declared.Record.{Record}
use Rattle.std.specs.Prelude.{Ok, Err, is_err}
use Rattle.refusals.specs.declared.Refused.{Refused}
use Rattle.refusals.specs.Refusals.{refused_at}
use Rattle.sheet.specs.Load.{Loaded, Before, before, stopped, before_rows, Parsed, parsed, wrong, after_before, line_of, lines_of, Loading, refuse, table_of, has_room, checked_answer, with_tables, finish_of, after_parse, load_of}
use Rattle.sheet.specs.Steps.{answer_of, BothFilled, FieldsRead, GoodFilled, finish_fronts}
use Rattle.sheet.proofs.NumberLines.{FactsTold}
use Rattle.sheet.proofs.Reading.{RecordTold, before_told}
use Rattle.sheet.proofs.ReadLaws.{rows_length, rows_kind, rows_side}
use Rattle.load.proofs.Finishing.{never}

apart : {A : Type 0} → ◌≡◌ {A = ℕ} 0 1 → A
apart z = absurd (omega (arith, z))

-- the parts of lines that are right
pub record LinesTold (s : List ℕ) (r : Record) (names rows : List ℕ) : Type 0 where
  pub rows_at : ℕ
  pub end : ℕ
  pub first : before_rows s ≡ before r names rows_at
  pub last : rows_from r.names r.rows s rows_at ≡ read rows end
  pub all : length s ≤ end

pub lines_told : (s : List ℕ) (r : Record) (names rows : List ℕ) → lines_of s ≡ parsed r names rows → LinesTold s r names rows
unfolding lines_of
lines_told s r names rows e = from_before (before_rows s) refl e
  where
    from_end : (q : Record) (ns rs : List ℕ) (at end : ℕ) → before_rows s ≡ before q ns at → rows_from q.names q.rows s at ≡ read rs end → (b : Bool) → ltb end (length s) ≡ b → cond b (wrong WrongLine (line_of q q.rows)) (parsed q ns rs) ≡ parsed r names rows → LinesTold s r names rows
    from_end q ns rs at end f l true h e = apart (cc)
    from_end q ns rs at end f l false h e =
        let x : q ≡ r = cc in
        let y : ns ≡ names = cc in
        let z : rs ≡ rows = cc in
        record {
          rows_at = at;
          end = end;
          first = f ∙ ap (λ (a : Record). before a ns at) x ∙ ap (λ (a : List ℕ). before r a at) y;
          last = ap (λ (a : Record). rows_from a.names a.rows s at) (sym x) ∙ l ∙ ap (λ (a : List ℕ). read a end) z;
          all = ltb-false end (length s) h;
        }

    from_rows : (q : Record) (ns : List ℕ) (at : ℕ) → before_rows s ≡ before q ns at → (l : Lines) → rows_from q.names q.rows s at ≡ l → after_lines wrong l (λ rs end. cond (ltb end (length s)) (wrong WrongLine (line_of q q.rows)) (parsed q ns rs)) ≡ parsed r names rows → LinesTold s r names rows
    from_rows q ns at f (read rs end) l e = from_end q ns rs at end f l (ltb end (length s)) refl e
    from_rows q ns at f (refused refusal line) l e = apart (cc)

    from_before : (b : Before) → before_rows s ≡ b → after_before b (λ q ns at. after_lines wrong (rows_from q.names q.rows s at) (λ rs end. cond (ltb end (length s)) (wrong WrongLine (line_of q q.rows)) (parsed q ns rs))) ≡ parsed r names rows → LinesTold s r names rows
    from_before (before q ns at) f e = from_rows q ns at f (rows_from q.names q.rows s at) refl e
    from_before (stopped refusal line) f e = apart (cc)

pub record_told : (s : List ℕ) (r : Record) (names rows : List ℕ) → lines_of s ≡ parsed r names rows → RecordTold r
record_told s r names rows e = let t = lines_told s r names rows e in before_told s r names t.rows_at t.first

-- rows that were read have known kinds and side numbers of theirs, so that the fields pass in every table that has them in front
module _ (s : List ℕ) (r : Record) (names rows : List ℕ) (l : lines_of s ≡ parsed r names rows) where
  lines : LinesTold s r names rows
  lines = lines_told s r names rows l

  pub row_count : length rows ≡ 5 * r.rows
  row_count = rows_length r.names s r.rows tt lines.rows_at (first_row r.names) rows lines.end lines.last

  pub lines_fields : (table : List ℕ) → 5 * r.rows ≤ length table → take (5 * r.rows) table ≡ rows → fields_of table r.rows r.names ≡ passed
  lines_fields table h e =
      fields_pass table r.rows r.names
      (record {
        held = record { some = ranges.rows.least; few = ranges.rows.most; room = h };
        known = λ i k. rw (kind i k) (rows_kind r.names s r.rows tt lines.rows_at (first_row r.names) rows lines.end lines.last i k);
        sides = λ i k. rw (kind i k, same (5 * i + 1) (omega arith)) (rows_side r.names s r.rows tt lines.rows_at (first_row r.names) rows lines.end lines.last i k);
      })
    where
      ranges : FactsTold r.names r
      ranges = (record_told s r names rows l).facts

      same : (i : ℕ) → i < 5 * r.rows → get_or table i 0 ≡ get_or rows i 0
      same i k = sym (ap (λ (t : List ℕ). get_or t i 0) (sym e) ∙ get_or-take (5 * r.rows) table i 0 k)

      kind : (i : ℕ) → i < r.rows → kind_at table i ≡ kind_at rows i
      kind i k = same (5 * i) (omega arith)

-- an answer of all lines
parsed_read : (p : Parsed) (r : Record) → Ok r ≡ answer_of p → (names : List ℕ) × ((rows : List ℕ) × (p ≡ parsed r names rows))
parsed_read (parsed q names rows) r e = let x : q ≡ r = cc in (names, (rows, rw x))
parsed_read (wrong refusal line) r e = apart (cc)

refused_read : (row_room name_room : ℕ) (p : Parsed) (x : Refused) → Err x ≡ answer_of p → Err x ≡ (after_parse row_room name_room p).answer
unfolding refuse
refused_read row_room name_room (parsed q names rows) x e = apart (cc)
refused_read row_room name_room (wrong f l) x e = e

module _ (s : List ℕ) (row_room name_room : ℕ) where
  -- 10
  pub load_long : 65536 < length s → refused_at TooLong 0 ≡ (load_of s row_room name_room).answer
  unfolding load_of refuse
  load_long h = rw (lt-leb (length s) 65536 h)

  module _ (h : length s ≤ 65536) (a : Loaded) (q : a ≡ answer_of (lines_of s)) where
    -- 1 to 6
    pub load_lines : (x : Refused) → a ≡ Err x → Err x ≡ (load_of s row_room name_room).answer
    unfolding load_of
    load_lines x e = rw (le-leb (length s) 65536 h) (refused_read row_room name_room (lines_of s) x (sym e ∙ q))

    module _ (r : Record) (e : a ≡ Ok r) where
      told : (names : List ℕ) × ((rows : List ℕ) × (lines_of s ≡ parsed r names rows))
      told = parsed_read (lines_of s) r (sym e ∙ q)

      pub load_rows : r.rows ≤ 2000
      load_rows = (record_told s r told.0 told.1.0 told.1.1).facts.rows.most

      pub load_names : r.names ≤ 500
      load_names = (record_told s r told.0 told.1.0 told.1.1).names.most

      pub fields_read : (rows names : List ℕ) → BothFilled s rows names → FieldsRead r rows
      fields_read rows names w = record { pass = λ k table h f. lines_fields s r told.0 told.1.0 told.1.1 table h (f ∙ w.row_front r told.0 told.1.0 told.1.1 k) }

      -- what follows the lines that the tables hold
      module _ (rows names : List ℕ) (i : length rows ≡ row_room) (j : length names ≡ name_room) (w : BothFilled s rows names) where
        fronts : (b : Bool) → has_room row_room name_room r ≡ b → finish_of row_room name_room r (take (3 * r.names) names) (take (5 * r.rows) rows) ≡ finish_of row_room name_room r told.0 told.1.0
        unfolding finish_of has_room
        fronts true b =
            let t = (and-eq-true_iff (leb (5 * r.rows) row_room) _).0 b in
            let x = w.row_front r told.0 told.1.0 told.1.1 (omega (arith, i, leb-true (5 * r.rows) row_room t.0)) in
            let y = w.name_front r told.0 told.1.0 told.1.1 (omega (arith, j, leb-true (3 * r.names) name_room t.1)) in
            rw (x, y)
        fronts false b = rw b

        whole : finish_fronts r rows names ≡ load_of s row_room name_room
        unfolding load_of finish_fronts
        whole = rw (le-leb (length s) 65536 h, i, j, told.1.1) (fronts (has_room row_room name_room r) refl)

        pub load_answer : (f : Loaded) → f ≡ (finish_fronts r rows names).answer → f ≡ (load_of s row_room name_room).answer
        load_answer f p = p ∙ ap (λ (x : Loading). x.answer) whole

        pub load_filled : (f : Loaded) (new_rows new_names : List ℕ) → GoodFilled f (finish_fronts r rows names) new_rows new_names → GoodFilled f (load_of s row_room name_room) new_rows new_names
        load_filled f new_rows new_names g = record { row_table = λ x p. g.row_table x p ∙ ap (λ (z : Loading). z.rows) whole; name_table = λ x p. g.name_table x p ∙ ap (λ (z : Loading). z.names) whole }

-- a refused load leaves zeros in both tables, whatever it was refused for
module _ (row_room name_room : ℕ) (x : Refused) where
  by_refusal : (f : Refusal) (l : ℕ) → (refuse row_room name_room f l).answer ≡ Err x → refuse row_room name_room f l ≡ refuse row_room name_room x.refusal x.place
  unfolding refuse
  by_refusal f l e = let z : x ≡ record { refusal = f; place = l } = cc in rw z

  by_checks : (a : Loaded) (rows names : List ℕ) → (with_tables row_room name_room a rows names).answer ≡ Err x → with_tables row_room name_room a rows names ≡ refuse row_room name_room x.refusal x.place
  by_checks (Ok r) rows names e = never (sym e)
  by_checks (Err f) rows names e = by_refusal f.refusal f.place e

  by_room : (b : Bool) (a : Loaded) (rows names : List ℕ) → (cond b (with_tables row_room name_room a rows names) (refuse row_room name_room NoRoom 0)).answer ≡ Err x → cond b (with_tables row_room name_room a rows names) (refuse row_room name_room NoRoom 0) ≡ refuse row_room name_room x.refusal x.place
  by_room true a rows names e = by_checks a rows names e
  by_room false a rows names e = by_refusal NoRoom 0 e

  by_lines : (p : Parsed) → (after_parse row_room name_room p).answer ≡ Err x → after_parse row_room name_room p ≡ refuse row_room name_room x.refusal x.place
  unfolding finish_of
  by_lines (parsed r names rows) e = by_room (has_room row_room name_room r) (checked_answer r (table_of row_room rows)) (table_of row_room rows) (table_of name_room names) e
  by_lines (wrong f l) e = by_refusal f l e

  by_length : (b : Bool) (p : Parsed) → (cond b (after_parse row_room name_room p) (refuse row_room name_room TooLong 0)).answer ≡ Err x → cond b (after_parse row_room name_room p) (refuse row_room name_room TooLong 0) ≡ refuse row_room name_room x.refusal x.place
  by_length true p e = by_lines p e
  by_length false p e = by_refusal TooLong 0 e

  pub refused_load : (s : List ℕ) → (load_of s row_room name_room).answer ≡ Err x → load_of s row_room name_room ≡ refuse row_room name_room x.refusal x.place
  unfolding load_of
  refused_load s e = by_length (leb (length s) 65536) (lines_of s) e

-- the two tables of a load, as the code leaves them
refused_told : (a : Loaded) → is_err a ≡ true → (x : Refused) × (a ≡ Err x)
refused_told (Ok r) e = absurd (true≢false (sym e))
refused_told (Err x) e = (x, refl)

done_told : (a : Loaded) → is_err a ≡ false → (r : Record) × (a ≡ Ok r)
done_told (Ok r) e = (r, refl)
done_told (Err x) e = absurd (true≢false e)

module _ (s : List ℕ) (row_room name_room : ℕ) (a : Loaded) (q : a ≡ (load_of s row_room name_room).answer) (b : Bool) (p : b ≡ is_err a) where
  module _ (e : b ≡ true) where
    whole_refused : (x : Refused) × (load_of s row_room name_room ≡ refuse row_room name_room x.refusal x.place)
    whole_refused = let t = refused_told a (sym p ∙ e) in (t.0, refused_load row_room name_room t.0 s (sym q ∙ t.1))

    pub zero_rows : (rows old : List ℕ) → rows ≡ replicate (length old) 0 → length old ≡ row_room → rows ≡ (load_of s row_room name_room).rows
    unfolding refuse
    zero_rows rows old z k = z ∙ ap (λ (n : ℕ). replicate n 0) k ∙ sym (ap (λ (x : Loading). x.rows) whole_refused.1)

    pub zero_names : (names old : List ℕ) → names ≡ replicate (length old) 0 → length old ≡ name_room → names ≡ (load_of s row_room name_room).names
    unfolding refuse
    zero_names names old z k = z ∙ ap (λ (n : ℕ). replicate n 0) k ∙ sym (ap (λ (x : Loading). x.names) whole_refused.1)

  module _ (e : b ≡ false) (rows names : List ℕ) (g : GoodFilled a (load_of s row_room name_room) rows names) where
    pub good_rows : rows ≡ (load_of s row_room name_room).rows
    good_rows = let t = done_told a (sym p ∙ e) in g.row_table t.0 t.1

    pub good_names : names ≡ (load_of s row_room name_room).names
    good_names = let t = done_told a (sym p ∙ e) in g.name_table t.0 t.1
