-- The lines that hold one number each: the code's tables are the header's two lists, a line is read as its list tells of it, and holds a number in its
-- range.
use Prim.Native.Nat.{ℕ, zero, suc, ◌+◌, ◌-◌, ◌*◌, ◌≤◌, ◌<◌}
use mathlib.Core.Path.{◌≡◌, refl, sym, ap, ◌∙◌}
use mathlib.Core.List.{List, [], ◌∷◌, map}
use native.Mathlib.Numerals.{add-one}
use native.Mathlib.Omega.{arith}
use lib.ListN.{length, drop, get_or, set, length-set}
use lib.Seq.{take-length}
use Rattle.std.specs.Prelude.{Result, Ok, Err}
use Rattle.refusals.specs.declared.Refusal.{Refusal}
use Rattle.refusals.specs.declared.Refused.{Refused}
use Rattle.lines.specs.declared.Line.{Line as LineRead}
use Rattle.lines.specs.Lines.{number_line}
use Rattle.lines.proofs.InRange.{Ranged, value_ranged}
use Rattle.sheet_record.specs.declared.Record.{Record}
use Rattle.sheet.specs.declared.header.KeyLine.{KeyLine}
use Rattle.sheet.specs.Header.{greatest, HeaderLine, head_lines, fact_lines, record_by, first_fact}
use Rattle.sheet.specs.Sections.{Lines, read, refused, prepend, after_line, lines_from, of_number, number_step, head_from, facts_from}
use Rattle.sheet.specs.Steps.{at_line, limit_of, KeyOf, Keys, no_key, one_key, numbers_of, head_of, facts_of}
use Rattle.sheet.proofs.Going.{put_all, at_line_ok, at_line_err, never, Going, going_start, going_done, going_filled, going_wrong, going_next}

-- a line of a table is one of the header's
record Listed (ks : List KeyLine) (ls : List HeaderLine) (i : ℕ) (d : KeyLine) : Type 0 where
  line : HeaderLine
  is : KeyOf (get_or ks i d) line
  rest : drop i ls ≡ line ∷ drop (suc i) ls

listed : {ks : List KeyLine} {ls : List HeaderLine} (i : ℕ) (d : KeyLine) → Keys ks ls → i < length ks → Listed ks ls i d
listed i d no_key h = absurd (omega arith)
listed zero d (one_key k t) h = record { line = _; is = k; rest = refl }
listed (suc i) d (one_key k t) h = let l = listed i d t (omega arith) in record { line = l.line; is = l.is; rest = l.rest }

pub keys_length : {ks : List KeyLine} {ls : List HeaderLine} → Keys ks ls → length ls ≡ length ks
keys_length no_key = refl
keys_length (one_key k t) = ap suc (keys_length t)

-- what the loop over a table's lines knows at line i
pub record NumberLoop (s : List ℕ) (from first names : ℕ) (ks : List KeyLine) (ls : List HeaderLine) (numbers : List ℕ) (at i : ℕ) : Type 0 where
  pub going : Going (number_step names s) ls 1 (length ls) from first numbers (drop i ls) at i
  pub kept : length numbers ≡ length ks

module _ (s : List ℕ) (from first names : ℕ) (ks : List KeyLine) (ls : List HeaderLine) (t : Keys ks ls) where
  pub number_loop_start : (numbers : List ℕ) → length numbers ≡ length ks → NumberLoop s from first names ks ls numbers from 0
  number_loop_start numbers e = record { going = going_start (number_step names s) ls 1 (length ls) from first numbers; kept = e }

  module _ (numbers : List ℕ) (at i : ℕ) (g : NumberLoop s from first names ks ls numbers at i) where
    pub number_loop_done : length ks ≤ i → Ok (record { value = numbers; next = at }) ≡ numbers_of (lines_from (number_step names s) (length ls) ls from first)
    number_loop_done h =
        let m : length ls ≤ i = omega (arith, keys_length t) in
        let done = going_done (number_step names s) ls 1 (length ls) from first numbers _ at i g.going m in
        let f = going_filled (number_step names s) ls 1 (length ls) from first numbers _ at i g.going m in
        let a : 1 * length ls ≡ length numbers = omega (arith, keys_length t, g.kept) in
        let b : numbers ≡ g.going.numbers = sym (take-length numbers) ∙ rw (← a) (f.front (omega arith) _ at done) in
        rw (done, ← b)

    module _ (more : i < length ks) (d : KeyLine) where
      here : Listed ks ls i d
      here = listed i d t more

      module _ (high : ℕ) (h : high ≡ greatest (limit_of (get_or ks i d).high) names) (r : Result (LineRead ℕ) Refusal) (q : r ≡ number_line (get_or ks i d).key.now (get_or ks i d).low high s at) (m : Result (LineRead ℕ) Refused) (n : m ≡ at_line (first + i) r) where
        told : r ≡ number_line here.line.key here.line.low (greatest here.line.high names) s at
        told = q ∙ rw (h, here.is.key, here.is.low, here.is.high)

        left : i < length ls
        left = omega (arith, keys_length t)

        pub number_loop_wrong : (x : Refused) → m ≡ Err x → Err x ≡ numbers_of (lines_from (number_step names s) (length ls) ls from first)
        unfolding number_step
        number_loop_wrong x e =
            let w = at_line_err (first + i) r x (sym e ∙ n) in
            let z : number_line here.line.key here.line.low (greatest here.line.high names) s at ≡ Err w.0 = sym told ∙ w.1.0 in
            rw (w.1.1, going_wrong (number_step names s) ls 1 (length ls) from first numbers _ at i g.going left w.0 (rw (here.rest, z)))

        pub number_loop_next : (l : LineRead ℕ) → m ≡ Ok l → NumberLoop s from first names ks ls (set numbers i l.value) l.next (i + 1)
        unfolding number_step
        number_loop_next l e =
            let a : 1 * i ≡ i = omega arith in
            let b : number_line here.line.key here.line.low (greatest here.line.high names) s at ≡ Ok l = sym told ∙ at_line_ok (first + i) r l (sym e ∙ n) in
            record {
              going = going_next (number_step names s) ls 1 (length ls) from first numbers (drop i ls) at i g.going left (l.value ∷ []) (drop (i + 1) ls) l.next (rw (add-one i, here.rest, b)) refl (set numbers i l.value) (rw a (put_all numbers i (l.value ∷ []) (omega (arith, g.kept))));
              kept = length-set numbers i l.value ∙ g.kept;
            }

-- a number for each line, in its range
pub data InRanges (names : ℕ) : List HeaderLine → List ℕ → Type 0 where
  no_line : InRanges names [] []
  ranged : {l : HeaderLine} {ls : List HeaderLine} {v : ℕ} {vs : List ℕ} → Ranged l.low (greatest l.high names) v → InRanges names ls vs → InRanges names (l ∷ ls) (v ∷ vs)

-- the first line of a list that was read, and those after it
record FirstNumber (names : ℕ) (s : List ℕ) (l : HeaderLine) (ls : List HeaderLine) (at line : ℕ) (numbers : List ℕ) (end : ℕ) : Type 0 where
  held : LineRead ℕ
  others : List ℕ
  split : numbers ≡ held.value ∷ others
  is : number_line l.key l.low (greatest l.high names) s at ≡ Ok held
  after : lines_from (number_step names s) (length ls) ls held.next (line + 1) ≡ read others end

first_number : (names : ℕ) (s : List ℕ) (l : HeaderLine) (ls : List HeaderLine) (at line : ℕ) (numbers : List ℕ) (end : ℕ) → lines_from (number_step names s) (suc (length ls)) (l ∷ ls) at line ≡ read numbers end → FirstNumber names s l ls at line numbers end
unfolding lines_from number_step
first_number names s l ls at line numbers end e = go (number_line l.key l.low (greatest l.high names) s at) refl e
  where
    rest : (n : LineRead ℕ) → number_line l.key l.low (greatest l.high names) s at ≡ Ok n → (m : Lines) → lines_from (number_step names s) (length ls) ls n.next (line + 1) ≡ m → prepend (n.value ∷ []) m ≡ read numbers end → FirstNumber names s l ls at line numbers end
    rest n q (read vs last) p e = record { held = n; others = vs; split = cc; is = q; after = cc }
    rest n q (refused refusal m) p e = never e

    go : (n : Result (LineRead ℕ) Refusal) → number_line l.key l.low (greatest l.high names) s at ≡ n → after_line (of_number ls n) line (λ after next. lines_from (number_step names s) (length ls) after next (line + 1)) ≡ read numbers end → FirstNumber names s l ls at line numbers end
    go (Ok n) q e = rest n q (lines_from (number_step names s) (length ls) ls n.next (line + 1)) refl e
    go (Err refusal) q e = never e

-- every line of a list that was read holds a number in its range
pub numbers_ranged : (names : ℕ) (s : List ℕ) (ls : List HeaderLine) (at line : ℕ) (numbers : List ℕ) (end : ℕ) → lines_from (number_step names s) (length ls) ls at line ≡ read numbers end → InRanges names ls numbers
unfolding lines_from
numbers_ranged names s [] at line numbers end e = let z : numbers ≡ [] = cc in rw z no_line
numbers_ranged names s (l ∷ ls) at line numbers end e =
    let f = first_number names s l ls at line numbers end e in
    rw f.split (ranged (value_ranged l.key l.low (greatest l.high names) s at f.held f.is) (numbers_ranged names s ls f.held.next (line + 1) f.others end f.after))

-- the numbers of the first two lines, of which the second is the count of names
pub record HeadTold (numbers : List ℕ) : Type 0 where
  pub two : length numbers ≡ 2
  pub names : Ranged 1 500 (get_or numbers 1 0)

head_ranges : (numbers : List ℕ) → InRanges 0 head_lines numbers → HeadTold numbers
head_ranges _ (ranged a (ranged b no_line)) = record { two = refl; names = b }

pub head_told : (s numbers : List ℕ) (next : ℕ) → head_from s ≡ read numbers next → HeadTold numbers
head_told s numbers next e = head_ranges numbers (numbers_ranged 0 s head_lines 0 1 numbers next e)

-- the numbers that the lines after the names hold, as the record has them
pub record FactsTold (names : ℕ) (r : Record) : Type 0 where
  pub same : r.names ≡ names
  pub rows : Ranged 1 2000 r.rows
  pub local : Ranged 0 (names - 1) r.local
  pub start : Ranged 0 1 r.start
  pub sole : Ranged 0 1 r.sole

facts_ranges : (names : ℕ) (numbers : List ℕ) → InRanges names fact_lines numbers → FactsTold names (record_by names numbers)
facts_ranges names _ (ranged a (ranged b (ranged c (ranged d no_line)))) = record { same = refl; rows = d; local = a; start = b; sole = c }

pub facts_told : (names : ℕ) (s : List ℕ) (at : ℕ) (numbers : List ℕ) (next : ℕ) → facts_from names s at ≡ read numbers next → FactsTold names (record_by names numbers)
facts_told names s at numbers next e = facts_ranges names numbers (numbers_ranged names s fact_lines at (first_fact names) numbers next e)

-- each line tells the number of the record that was read from it
pub record Places (names : ℕ) (facts : List ℕ) : Type 0 where
  pub count : map (λ (l : HeaderLine). l.number (record_by names facts)) head_lines ≡ 1 ∷ names ∷ []
  pub others : map (λ (l : HeaderLine). l.number (record_by names facts)) fact_lines ≡ facts

places : (names : ℕ) (facts : List ℕ) → InRanges names fact_lines facts → Places names facts
places names _ (ranged a (ranged b (ranged c (ranged d no_line)))) = record { count = refl; others = refl }

pub facts_placed : (names : ℕ) (s : List ℕ) (at : ℕ) (numbers : List ℕ) (next : ℕ) → facts_from names s at ≡ read numbers next → Places names numbers
facts_placed names s at numbers next e = places names numbers (numbers_ranged names s fact_lines at (first_fact names) numbers next e)

-- `head_of`
head_told_as : (l : Lines) (head : LineRead (List ℕ)) → Ok head ≡ numbers_of l → Ok (record { value = get_or head.value 1 0; next = head.next }) ≡ head_of l
head_told_as (read numbers next) head e = let z : head ≡ record { value = numbers; next = next } = cc in rw z
head_told_as (refused refusal line) head e = absurd (cc)

head_refused_as : (l : Lines) (x : Refused) → Err x ≡ numbers_of l → Err x ≡ head_of l
head_refused_as (read numbers next) x e = absurd (cc)
head_refused_as (refused refusal line) x e = let z : x ≡ record { refusal = refusal; place = line } = cc in rw z

-- `facts_from`
facts_told_as : (names : ℕ) (l : Lines) (facts : LineRead (List ℕ)) → Ok facts ≡ numbers_of l → Ok (record { value = record_by names facts.value; next = facts.next }) ≡ facts_of names l
facts_told_as names (read numbers next) facts e = let z : facts ≡ record { value = numbers; next = next } = cc in rw z
facts_told_as names (refused refusal line) facts e = absurd (cc)

facts_refused_as : (names : ℕ) (l : Lines) (x : Refused) → Err x ≡ numbers_of l → Err x ≡ facts_of names l
facts_refused_as names (read numbers next) x e = absurd (cc)
facts_refused_as names (refused refusal line) x e = let z : x ≡ record { refusal = refusal; place = line } = cc in rw z

module _ (r : Result (LineRead (List ℕ)) Refused) (l : Lines) (e : r ≡ numbers_of l) where
  pub head_refused : (x : Refused) → r ≡ Err x → Err x ≡ head_of l
  head_refused x q = head_refused_as l x (sym q ∙ e)

  pub head_read : (head : LineRead (List ℕ)) → r ≡ Ok head → Ok (record { value = get_or head.value 1 0; next = head.next }) ≡ head_of l
  head_read head q = head_told_as l head (sym q ∙ e)

  pub facts_refused : (names : ℕ) (x : Refused) → r ≡ Err x → Err x ≡ facts_of names l
  facts_refused names x q = facts_refused_as names l x (sym q ∙ e)

  pub facts_read : (names : ℕ) (facts : LineRead (List ℕ)) → r ≡ Ok facts → Ok (record { value = record_by names facts.value; next = facts.next }) ≡ facts_of names l
  facts_read names facts q = facts_told_as names l facts (sym q ∙ e)
