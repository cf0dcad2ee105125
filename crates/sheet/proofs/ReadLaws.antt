-- What the numbers of lines that were read say: of each name, of two names that follow one another, and of each row. Line i is found by
-- induction on i, its numbers in its place.
use Prim.Native.Nat.{ℕ, zero, suc, ◌+◌, ◌-◌, ◌*◌, ◌≤◌, ◌<◌}
use mathlib.Core.Path.{◌≡◌, refl, sym, ap, ◌∙◌}
use mathlib.Core.Bool.{true}
use mathlib.Core.List.{List, [], ◌++◌}
use native.Mathlib.Nat.{add-zero, mul-suc, mul-zero, zero-add}
use native.Mathlib.Numerals.{add-one}
use native.Mathlib.Omega.{arith}
use lib.ListN.{length, drop, get_or, length-append, get_or-append}
use lib.Seq.{get_or-append-add}
use Rattle.kinds.specs.Kinds.{bytes, entry, side_fits}
use Rattle.table.specs.Rows.{kind_at, side_at}
use Rattle.text.specs.Fields.{field, ends_by, starts_with, below, all_graphic}
use Rattle.std.specs.Prelude.{Result, Ok, Err}
use Rattle.refusals.specs.declared.Refusal.{Refusal}
use Rattle.lines.specs.declared.Line.{Line as LineRead}
use Rattle.lines.specs.declared.Name.{Name}
use Rattle.lines.specs.declared.Row.{Row}
use Rattle.lines.specs.Lines.{jump_mark, name_line, row_at}
use Rattle.lines.proofs.Told.{field_within, field_back, field_after, NameTold, name_told, name_text_lem, row_told}
use Rattle.sheet_record.specs.Records.{offset_at, size_at, mark_at, text_at}
use Rattle.sheet.specs.Sections.{Line, right_line, wrong_line, Lines, read, refused, prepend, after_line, lines_from, name_numbers, name_text, of_name, name_step, row_numbers, of_row, row_step}
use Rattle.sheet.proofs.Going.{never}

-- the first of n lines that were read: what it holds, and the lines after it
record First {A : Type 0} (step : A → ℕ → Line A) (n : ℕ) (by : A) (at line : ℕ) (numbers : List ℕ) (end : ℕ) : Type 0 where
  own : List ℕ
  new : A
  next : ℕ
  others : List ℕ
  is : step by at ≡ right_line own new next
  split : numbers ≡ own ++ others
  after : lines_from step (n - 1) new next (line + 1) ≡ read others end

first_line : {A : Type 0} (step : A → ℕ → Line A) (n : ℕ) (by : A) (at line : ℕ) (numbers : List ℕ) (end : ℕ) → lines_from step n by at line ≡ read numbers end → 0 < n → First step n by at line numbers end
unfolding lines_from
first_line {A = A} step zero by at line numbers end e h = absurd (omega arith)
first_line {A = A} step (suc n) by at line numbers end e h = go (step by at) refl e
  where
    rest : (own : List ℕ) (new : A) (next : ℕ) → step by at ≡ right_line own new next → (l : Lines) → lines_from step n new next (line + 1) ≡ l → prepend own l ≡ read numbers end → First step (suc n) by at line numbers end
    rest own new next q (read others last) p e =
        let z : suc n - 1 ≡ n = omega arith in
        record { own = own; new = new; next = next; others = others; is = q; split = cc; after = rw z (cc) }
    rest own new next q (refused refusal l) p e = never e

    go : (l : Line A) → step by at ≡ l → after_line l line (λ after next. lines_from step n after next (line + 1)) ≡ read numbers end → First step (suc n) by at line numbers end
    go (right_line own new next) q e = rest own new next q (lines_from step n new next (line + 1)) refl e
    go (wrong_line refusal) q e = never e

-- line i of lines that were read, after a text and at a place: what it holds, and that its numbers stand in its place
record LineAt {A : Type 0} (step : A → ℕ → Line A) (width : ℕ) (numbers : List ℕ) (i : ℕ) (by : A) (at : ℕ) : Type 0 where
  own : List ℕ
  new : A
  next : ℕ
  is : step by at ≡ right_line own new next
  placed : (j : ℕ) → j < width → get_or numbers (width * i + j) 0 ≡ get_or own j 0

-- line i of n lines that were read, and the line after it
record Two {A : Type 0} (step : A → ℕ → Line A) (width n : ℕ) (numbers : List ℕ) (i : ℕ) : Type 0 where
  by : A
  at : ℕ
  this : LineAt step width numbers i by at
  after : suc i < n → LineAt step width numbers (suc i) this.new this.next

-- lines that put `width` numbers each into a table
module _ {A : Type 0} (step : A → ℕ → Line A) (width : ℕ) (wide : (by : A) (at : ℕ) (own : List ℕ) (new : A) (next : ℕ) → step by at ≡ right_line own new next → length own ≡ width) where
  module _ {n : ℕ} {by : A} {at line : ℕ} {numbers : List ℕ} {end : ℕ} (f : First step n by at line numbers end) where
    own_wide : length f.own ≡ width
    own_wide = wide by at f.own f.new f.next f.is

    front_at : (j : ℕ) → j < width → get_or numbers (width * 0 + j) 0 ≡ get_or f.own j 0
    front_at j h = rw (mul-zero width, zero-add j, f.split) (get_or-append f.own f.others 0 j (omega (arith, own_wide)))

    later_at : (i j : ℕ) → get_or numbers (width * suc i + j) 0 ≡ get_or f.others (width * i + j) 0
    later_at i j =
        let z : width * suc i + j ≡ length f.own + (width * i + j) = omega (arith, mul-suc width i, own_wide) in
        rw (z, f.split) (get_or-append-add f.own f.others (width * i + j) 0)

    -- the first line, and one of the lines after it
    abbrev front : LineAt step width numbers 0 by at
    front = record { own = f.own; new = f.new; next = f.next; is = f.is; placed = front_at }

    abbrev later : {i : ℕ} {t : A} {a : ℕ} → LineAt step width f.others i t a → LineAt step width numbers (suc i) t a
    later {i} r = record { own = r.own; new = r.new; next = r.next; is = r.is; placed = λ j h. later_at i j ∙ r.placed j h }

  lines_length : (n : ℕ) (by : A) (at line : ℕ) (numbers : List ℕ) (end : ℕ) → lines_from step n by at line ≡ read numbers end → length numbers ≡ width * n
  unfolding lines_from
  lines_length zero by at line numbers end e = let z : numbers ≡ [] = cc in rw (z, mul-zero width)
  lines_length (suc n) by at line numbers end e =
      let f = first_line step (suc n) by at line numbers end e (omega arith) in
      let z : suc n - 1 ≡ n = omega arith in
      let r = lines_length n f.new f.next (line + 1) f.others end (rw z at f.after) in
      omega (arith, ap length f.split, length-append f.own f.others, own_wide f, mul-suc width n)

  line_at : (i n : ℕ) (by : A) (at line : ℕ) (numbers : List ℕ) (end : ℕ) → lines_from step n by at line ≡ read numbers end → i < n → Two step width n numbers i
  line_at zero n by at line numbers end e h =
      let f = first_line step n by at line numbers end e h in
      record {
        by = by;
        at = at;
        this = front f;
        after = λ m. later f (front (first_line step (n - 1) f.new f.next (line + 1) f.others end f.after (omega arith)));
      }
  line_at (suc i) n by at line numbers end e h =
      let f = first_line step n by at line numbers end e (omega arith) in
      let r = line_at i (n - 1) f.new f.next (line + 1) f.others end f.after (omega arith) in
      record { by = r.by; at = r.at; this = later f r.this; after = λ m. later f (r.after (omega arith)) }

-- what a name table says of name i: its text is in the sheet and is that of its line, which has the key of a name and is ended
pub record NameEntry (s table : List ℕ) (i : ℕ) : Type 0 where
  pub within : offset_at table i + size_at table i ≤ length s
  pub some : 1 ≤ size_at table i
  pub few : size_at table i ≤ 64
  pub line : text_at s table i ≡ field 10 s (offset_at table i)
  pub ended : ends_by 10 10 s (offset_at table i) ≡ true
  pub keyed : starts_with (bytes "name=") (drop (offset_at table i - 5) s) ≡ true
  pub graphic : all_graphic (text_at s table i) ≡ true
  pub mark : mark_at table i ≡ jump_mark (text_at s table i)

-- a line that holds a name
record NameHeld (s text : List ℕ) (at : ℕ) (own new : List ℕ) (next : ℕ) : Type 0 where
  line : LineRead Name
  told : NameTold text s at line
  own_is : own ≡ name_numbers line.value
  new_is : new ≡ name_text s line.value
  next_is : next ≡ line.next

name_held : (s text : List ℕ) (at : ℕ) (own new : List ℕ) (next : ℕ) → name_step s text at ≡ right_line own new next → NameHeld s text at own new next
unfolding name_step
name_held s text at own new next e = go (name_line text s at) refl e
  where
    go : (l : Result (LineRead Name) Refusal) → name_line text s at ≡ l → of_name s l ≡ right_line own new next → NameHeld s text at own new next
    go (Ok line) q e = record { line = line; told = name_told text s at line q; own_is = cc; new_is = cc; next_is = cc }
    go (Err refusal) q e = absurd (let z : ◌≡◌ {A = ℕ} 0 1 = cc in omega arith)

-- the three numbers of such a line, as the table has them
module _ (s numbers : List ℕ) (i : ℕ) (text : List ℕ) (at : ℕ) (l : LineAt (name_step s) 3 numbers i text at) where
  held : NameHeld s text at l.own l.new l.next
  held = name_held s text at l.own l.new l.next l.is

  told : NameTold text s at held.line
  told = held.told

  offset_is : offset_at numbers i ≡ at + 5
  offset_is = rw (add-zero (3 * i), held.own_is, told.is) at (l.placed 0 (omega arith))

  size_is : size_at numbers i ≡ length (field 10 s (at + 5))
  size_is = rw (held.own_is, told.is) at (l.placed 1 (omega arith))

  mark_is : mark_at numbers i ≡ jump_mark (field 10 s (at + 5))
  mark_is = rw (held.own_is, told.is) at (l.placed 2 (omega arith))

  text_is : text_at s numbers i ≡ field 10 s (at + 5)
  text_is = rw (offset_is, size_is) (field_back 10 10 s (at + 5) told.ended)

  entry_is : NameEntry s numbers i
  entry_is =
      let back : at + 5 - 5 ≡ at = omega arith in
      record {
        within = rw (offset_is, size_is) (field_within 10 10 s (at + 5) told.ended);
        some = rw size_is told.some;
        few = rw size_is told.few;
        line = text_is ∙ rw offset_is;
        ended = rw offset_is told.ended;
        keyed = rw (offset_is, back) told.key;
        graphic = rw text_is told.graphic;
        mark = mark_is ∙ rw text_is;
      }

  -- what the line after it is held against, and where that starts
  new_is : l.new ≡ text_at s numbers i
  new_is = held.new_is ∙ name_text_lem text s at held.line told ∙ sym text_is

  next_is : l.next ≡ offset_at numbers i + size_at numbers i + 1
  next_is = held.next_is ∙ told.goes_on ∙ field_after 10 10 s (at + 5) told.ended ∙ rw (offset_is, size_is)

name_wide : (s text : List ℕ) (at : ℕ) (own new : List ℕ) (next : ℕ) → name_step s text at ≡ right_line own new next → length own ≡ 3
name_wide s text at own new next e = rw (name_held s text at own new next e).own_is

-- names that were read: three numbers each, which are its entry
module _ (s : List ℕ) (count : ℕ) (before : List ℕ) (at line : ℕ) (numbers : List ℕ) (next : ℕ) (e : lines_from (name_step s) count before at line ≡ read numbers next) where
  pub names_length : length numbers ≡ 3 * count
  names_length = lines_length (name_step s) 3 (name_wide s) count before at line numbers next e

  name_at : (i : ℕ) → i < count → Two (name_step s) 3 count numbers i
  name_at i h = line_at (name_step s) 3 (name_wide s) i count before at line numbers next e h

  pub names_entry : (i : ℕ) → i < count → NameEntry s numbers i
  names_entry i h = let t = name_at i h in entry_is s numbers i t.by t.at t.this

  -- the first stands at the place that the lines start from
  pub names_first : 0 < count → offset_at numbers 0 ≡ at + 5
  names_first h = offset_is s numbers 0 before at (front (name_step s) 3 (name_wide s) (first_line (name_step s) count before at line numbers next e h))

  -- each other stands on the line after the name before it, and is above that name
  pub names_follow : (i : ℕ) → i + 1 < count → offset_at numbers (i + 1) ≡ offset_at numbers i + size_at numbers i + 6
  names_follow i h =
      let t = name_at i (omega arith) in
      let a = offset_is s numbers (suc i) t.this.new t.this.next (t.after (omega arith)) in
      let n = next_is s numbers i t.by t.at t.this in
      rw (add-one i) (omega arith)

  pub names_ascend : (i : ℕ) → i + 1 < count → below (text_at s numbers i) (text_at s numbers (i + 1)) ≡ true
  names_ascend i h =
      let t = name_at i (omega arith) in
      let b = t.after (omega arith) in
      rw (add-one i, text_is s numbers (suc i) t.this.new t.this.next b, ← new_is s numbers i t.by t.at t.this)
      (told s numbers (suc i) t.this.new t.this.next b).above

-- numbers after those of the names change nothing of them
module _ (s numbers more : List ℕ) (i count : ℕ) (l : length numbers ≡ 3 * count) (h : i < count) where
  kept : (j : ℕ) → j < 3 → get_or (numbers ++ more) (3 * i + j) 0 ≡ get_or numbers (3 * i + j) 0
  kept j b = get_or-append numbers more 0 (3 * i + j) (omega arith)

  pub offset_append : offset_at (numbers ++ more) i ≡ offset_at numbers i
  offset_append = rw (add-zero (3 * i)) at (kept 0 (omega arith))

  pub size_append : size_at (numbers ++ more) i ≡ size_at numbers i
  size_append = kept 1 (omega arith)

  pub text_append : text_at s (numbers ++ more) i ≡ text_at s numbers i
  text_append = rw (offset_append, size_append)

  pub entry_append : NameEntry s numbers i → NameEntry s (numbers ++ more) i
  entry_append e = record {
    within = rw (offset_append, size_append) e.within;
    some = rw size_append e.some;
    few = rw size_append e.few;
    line = rw (offset_append, size_append) e.line;
    ended = rw offset_append e.ended;
    keyed = rw offset_append e.keyed;
    graphic = rw (offset_append, size_append) e.graphic;
    mark = kept 2 (omega arith) ∙ e.mark ∙ rw text_append;
  }

-- a line that holds a row
record RowHeld (names : ℕ) (s : List ℕ) (at : ℕ) (own : List ℕ) (next : ℕ) : Type 0 where
  line : LineRead Row
  is : row_at names s at ≡ Ok line
  own_is : own ≡ row_numbers line.value

row_held : (names : ℕ) (s : List ℕ) (by : Unit {0}) (at : ℕ) (own : List ℕ) (new : Unit {0}) (next : ℕ) → row_step names s by at ≡ right_line own new next → RowHeld names s at own next
unfolding row_step
row_held names s by at own new next e = go (row_at names s at) refl e
  where
    go : (l : Result (LineRead Row) Refusal) → row_at names s at ≡ l → of_row l ≡ right_line own new next → RowHeld names s at own next
    go (Ok line) q e = record { line = line; is = q; own_is = cc }
    go (Err refusal) q e = absurd (let z : ◌≡◌ {A = ℕ} 0 1 = cc in omega arith)

row_wide : (names : ℕ) (s : List ℕ) (by : Unit {0}) (at : ℕ) (own : List ℕ) (new : Unit {0}) (next : ℕ) → row_step names s by at ≡ right_line own new next → length own ≡ 5
row_wide names s by at own new next e = rw (row_held names s by at own new next e).own_is

-- rows that were read: five numbers each, and its kind is one of the table and has its side number
module _ (names : ℕ) (s : List ℕ) (count : ℕ) (by : Unit {0}) (at line : ℕ) (numbers : List ℕ) (next : ℕ) (e : lines_from (row_step names s) count by at line ≡ read numbers next) where
  pub rows_length : length numbers ≡ 5 * count
  rows_length = lines_length (row_step names s) 5 (row_wide names s) count by at line numbers next e

  right : (i : ℕ) → i < count → (kind_at numbers i < 66) × (side_fits (entry (kind_at numbers i)).sides names (side_at numbers i) ≡ true)
  right i h =
      let t = line_at (row_step names s) 5 (row_wide names s) i count by at line numbers next e h in
      let l = t.this in
      let r = row_held names s t.by t.at l.own l.new l.next l.is in
      let kind : kind_at numbers i ≡ r.line.value.kind = rw (add-zero (5 * i), r.own_is) at (l.placed 0 (omega arith)) in
      let side : side_at numbers i ≡ r.line.value.side = rw r.own_is at (l.placed 1 (omega arith)) in
      rw (kind, side) (row_told names s t.at r.line r.is)

  pub rows_kind : (i : ℕ) → i < count → kind_at numbers i < 66
  rows_kind i h = (right i h).0

  pub rows_side : (i : ℕ) → i < count → side_fits (entry (kind_at numbers i)).sides names (side_at numbers i) ≡ true
  rows_side i h = (right i h).1
