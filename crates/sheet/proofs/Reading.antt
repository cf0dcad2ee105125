-- All lines, from what is told of their parts: each part that is read is followed by the next, and the first that is refused is the answer.
use Prim.Native.Nat.{ℕ, ◌*◌, ◌≤◌, ◌<◌}
use mathlib.Core.Path.{◌≡◌, refl, sym, ap, subst, ◌∙◌}
use mathlib.Core.List.{List}
use native.Mathlib.Omega.{arith}
use lib.ListN.{length, take, get_or}
use borrow.Author.Tests.{lt-ltb, le-ltb}
use Rattle.std.specs.Prelude.{Result, Ok, Err}
use Rattle.refusals.specs.declared.Refusal.{Refusal}
use Rattle.refusals.specs.declared.Refused.{Refused}
use Rattle.refusals.specs.Refusals.{refused_at}
use Rattle.refusals.specs.declared.Refusal.TheVariants.{WrongLine}
use Rattle.lines.proofs.InRange.{Ranged}
use Rattle.sheet_record.specs.declared.Record.{Record}
use Rattle.lines.specs.declared.Line.{Line}
use Rattle.sheet.specs.Header.{record_by}
use Rattle.sheet.specs.Sections.{Lines, read, refused, after_lines, head_from, names_from, facts_from, rows_from}
use Rattle.sheet.specs.Load.{Before, before, stopped, before_rows, parsed, wrong, line_of, lines_of}
use Rattle.sheet.specs.Steps.{section_of, Filled, head_of, facts_of, before_of, answer_of, NamesFilled, BothFilled}
use Rattle.sheet.proofs.Going.{section_read, section_refused}
use Rattle.sheet.proofs.NumberLines.{FactsTold, head_told, facts_told}

apart : {A : Type 0} → ◌≡◌ {A = ℕ} 0 1 → A
apart z = absurd (omega (arith, z))

head_refused : (l : Lines) (x : Refused) → Err x ≡ head_of l → l ≡ refused x.refusal x.place
head_refused (read numbers n) x e = apart (cc)
head_refused (refused f m) x e = let z : x ≡ record { refusal = f; place = m } = cc in rw z

head_numbers : (l : Lines) (head : Line ℕ) → Ok head ≡ head_of l → (numbers : List ℕ) × ((l ≡ read numbers head.next) × (get_or numbers 1 0 ≡ head.value))
head_numbers (read numbers n) head e = let z : head ≡ record { value = get_or numbers 1 0; next = n } = cc in (numbers, (rw z, rw z))
head_numbers (refused f m) head e = apart (cc)

facts_read : (b : Before) (facts : Line Record) → Ok facts ≡ before_of b → (numbers : List ℕ) × (b ≡ before facts.value numbers facts.next)
facts_read (before q numbers n) facts e = let z : facts ≡ record { value = q; next = n } = cc in (numbers, rw z)
facts_read (stopped refusal line) facts e = apart (cc)

facts_refused : (b : Before) (x : Refused) → Err x ≡ before_of b → b ≡ stopped x.refusal x.place
facts_refused (before q numbers n) x e = apart (cc)
facts_refused (stopped f m) x e = let z : x ≡ record { refusal = f; place = m } = cc in rw z

not_stopped : {A : Type 0} {refusal : Refusal} {line : ℕ} {r : Record} {numbers : List ℕ} {next : ℕ} → stopped refusal line ≡ before r numbers next → A
not_stopped e = apart (cc)

-- the parts of lines before the rows that are right
pub record BeforeParts (s : List ℕ) (r : Record) (numbers : List ℕ) (next : ℕ) : Type 0 where
  pub head : List ℕ
  pub facts : List ℕ
  pub names_at : ℕ
  pub facts_at : ℕ
  pub first : head_from s ≡ read head names_at
  pub names : names_from r.names s names_at ≡ read numbers facts_at
  pub last : facts_from r.names s facts_at ≡ read facts next
  pub counted : r.names ≡ get_or head 1 0
  pub is : r ≡ record_by r.names facts

pub before_parts : (s : List ℕ) (r : Record) (numbers : List ℕ) (next : ℕ) → before_rows s ≡ before r numbers next → BeforeParts s r numbers next
unfolding before_rows
before_parts s r numbers next e = from_head (head_from s) refl e
  where
    from_facts : (head : List ℕ) (at : ℕ) (ns : List ℕ) (then : ℕ) → head_from s ≡ read head at → names_from (get_or head 1 0) s at ≡ read ns then → (f : Lines) → facts_from (get_or head 1 0) s then ≡ f → after_lines stopped f (λ facts at. before (record_by (get_or head 1 0) facts) ns at) ≡ before r numbers next → BeforeParts s r numbers next
    from_facts head at ns then h n (read facts m) f e =
        let w : ns ≡ numbers = cc in
        let y : record_by (get_or head 1 0) facts ≡ r = cc in
        let z : m ≡ next = cc in
        let c : get_or head 1 0 ≡ r.names = ap (λ (x : Record). x.names) y in
        record {
          head = head;
          facts = facts;
          names_at = at;
          facts_at = then;
          first = h;
          names = ap (λ (c : ℕ). names_from c s at) (sym c) ∙ n ∙ ap (λ (l : List ℕ). read l then) w;
          last = ap (λ (c : ℕ). facts_from c s then) (sym c) ∙ f ∙ ap (read facts) z;
          counted = sym c;
          is = sym y ∙ ap (λ (c : ℕ). record_by c facts) c;
        }
    from_facts head at ns then h n (refused refusal line) f e = not_stopped e

    from_names : (head : List ℕ) (at : ℕ) → head_from s ≡ read head at → (l : Lines) → names_from (get_or head 1 0) s at ≡ l → after_lines stopped l (λ ns at. after_lines stopped (facts_from (get_or head 1 0) s at) (λ facts at. before (record_by (get_or head 1 0) facts) ns at)) ≡ before r numbers next → BeforeParts s r numbers next
    from_names head at h (read ns then) n e = from_facts head at ns then h n (facts_from (get_or head 1 0) s then) refl e
    from_names head at h (refused refusal line) n e = not_stopped e

    from_head : (h : Lines) → head_from s ≡ h → after_lines stopped h (λ head at. after_lines stopped (names_from (get_or head 1 0) s at) (λ ns at. after_lines stopped (facts_from (get_or head 1 0) s at) (λ facts at. before (record_by (get_or head 1 0) facts) ns at))) ≡ before r numbers next → BeforeParts s r numbers next
    from_head (read head at) h e = from_names head at h (names_from (get_or head 1 0) s at) refl e
    from_head (refused refusal line) h e = not_stopped e

-- the numbers of the record are in their ranges
pub record RecordTold (r : Record) : Type 0 where
  pub names : Ranged 1 500 r.names
  pub facts : FactsTold r.names r

pub before_told : (s : List ℕ) (r : Record) (numbers : List ℕ) (next : ℕ) → before_rows s ≡ before r numbers next → RecordTold r
before_told s r numbers next e =
    let p = before_parts s r numbers next e in
    record {
      names = rw p.counted (head_told s p.head p.names_at p.first).names;
      facts = subst (FactsTold r.names) (sym p.is) (facts_told r.names s p.facts_at p.facts next p.last);
    }

stopped_filled : (s : List ℕ) (refusal : Refusal) (line : ℕ) (t : List ℕ) → before_rows s ≡ stopped refusal line → NamesFilled s t
stopped_filled s refusal line t e = record { front = λ r numbers next q h. not_stopped (sym e ∙ q) }

-- `read_names`: the head, the names, the facts
module _ (s : List ℕ) (h : Result (Line ℕ) Refused) (p : h ≡ head_of (head_from s)) where
  head_stops : (x : Refused) → h ≡ Err x → before_rows s ≡ stopped x.refusal x.place
  unfolding before_rows
  head_stops x e = rw (head_refused (head_from s) x (sym e ∙ p))

  pub names_head : (x : Refused) → h ≡ Err x → Err x ≡ before_of (before_rows s)
  names_head x e = rw (head_stops x e)

  pub head_filled : (x : Refused) (t : List ℕ) → h ≡ Err x → NamesFilled s t
  head_filled x t e = stopped_filled s x.refusal x.place t (head_stops x e)

  module _ (head : Line ℕ) (d : h ≡ Ok head) where
    first : (numbers : List ℕ) × ((head_from s ≡ read numbers head.next) × (get_or numbers 1 0 ≡ head.value))
    first = head_numbers (head_from s) head (sym d ∙ p)

    pub count_most : head.value ≤ 500
    count_most = omega (arith, (head_told s first.0 head.next first.1.0).names.most, first.1.1)

    module _ (c : Result ℕ Refused) (q : c ≡ section_of (names_from head.value s head.next)) where
      names_stop : (x : Refused) → c ≡ Err x → before_rows s ≡ stopped x.refusal x.place
      unfolding before_rows
      names_stop x e = rw (first.1.0, first.1.1, section_refused (names_from head.value s head.next) x (sym e ∙ q))

      pub names_section : (x : Refused) → c ≡ Err x → Err x ≡ before_of (before_rows s)
      names_section x e = rw (names_stop x e)

      pub section_filled : (x : Refused) (t : List ℕ) → c ≡ Err x → NamesFilled s t
      section_filled x t e = stopped_filled s x.refusal x.place t (names_stop x e)

      module _ (next : ℕ) (e : c ≡ Ok next) where
        told : (numbers : List ℕ) × (names_from head.value s head.next ≡ read numbers next)
        told = section_read (names_from head.value s head.next) next (sym e ∙ q)

        whole : before_rows s ≡ after_lines stopped (facts_from head.value s next) (λ facts at. before (record_by head.value facts) told.0 at)
        unfolding before_rows
        whole = rw (first.1.0, first.1.1, told.1)

        with_facts : (n : ℕ) (ns : List ℕ) (f : Lines) → facts_of n f ≡ before_of (after_lines stopped f (λ facts at. before (record_by n facts) ns at))
        with_facts n ns (read facts at) = refl
        with_facts n ns (refused refusal line) = refl

        pub names_facts : (r : Result (Line Record) Refused) → r ≡ facts_of head.value (facts_from head.value s next) → r ≡ before_of (before_rows s)
        names_facts r t = t ∙ with_facts head.value told.0 (facts_from head.value s next) ∙ ap before_of (sym whole)

        pub names_filled : (t : List ℕ) → Filled 3 head.value (names_from head.value s head.next) t → NamesFilled s t
        names_filled t w = record { front = λ r ns n b k. front r ns (before_parts s r ns n b) k }
          where
            front : (r : Record) (ns : List ℕ) {n : ℕ} → BeforeParts s r ns n → 3 * r.names ≤ length t → take (3 * r.names) t ≡ ns
            front r ns parts k =
                let h : read first.0 head.next ≡ read parts.head parts.names_at = sym first.1.0 ∙ parts.first in
                let i : parts.head ≡ first.0 = cc in
                let x : head.value ≡ r.names = sym (parts.counted ∙ ap (λ (l : List ℕ). get_or l 1 0) i ∙ first.1.1) in
                let y : head.next ≡ parts.names_at = cc in
                let f : names_from head.value s head.next ≡ read ns parts.facts_at = ap (λ (c : ℕ). names_from c s head.next) x ∙ ap (names_from r.names s) y ∙ parts.names in
                ap (λ (c : ℕ). take (3 * c) t) (sym x) ∙ w.front (omega (arith, x, k)) ns parts.facts_at f

-- `read_lines`: the lines before the rows, and the rows
not_wrong : {A : Type 0} {refusal : Refusal} {line : ℕ} {r : Record} {names rows : List ℕ} → wrong refusal line ≡ parsed r names rows → A
not_wrong e = apart (cc)

wrong_filled : (s : List ℕ) (refusal : Refusal) (line : ℕ) (rows names : List ℕ) → lines_of s ≡ wrong refusal line → BothFilled s rows names
wrong_filled s refusal line rows names e = record { row_front = λ r ns rs q h. not_wrong (sym e ∙ q); name_front = λ r ns rs q h. not_wrong (sym e ∙ q) }

module _ (s : List ℕ) (f : Result (Line Record) Refused) (p : f ≡ before_of (before_rows s)) where
  before_stops : (x : Refused) → f ≡ Err x → lines_of s ≡ wrong x.refusal x.place
  unfolding lines_of
  before_stops x e = rw (facts_refused (before_rows s) x (sym e ∙ p))

  pub lines_before : (x : Refused) → f ≡ Err x → Err x ≡ answer_of (lines_of s)
  lines_before x e = rw (before_stops x e)

  pub before_filled : (x : Refused) (rows names : List ℕ) → f ≡ Err x → BothFilled s rows names
  before_filled x rows names e = wrong_filled s x.refusal x.place rows names (before_stops x e)

  module _ (facts : Line Record) (d : f ≡ Ok facts) where
    known : (numbers : List ℕ) × (before_rows s ≡ before facts.value numbers facts.next)
    known = facts_read (before_rows s) facts (sym d ∙ p)

    pub few_rows : facts.value.rows ≤ 2000
    few_rows = (before_told s facts.value known.0 facts.next known.1).facts.rows.most

    pub few_names : facts.value.names ≤ 500
    few_names = (before_told s facts.value known.0 facts.next known.1).names.most

    module _ (c : Result ℕ Refused) (q : c ≡ section_of (rows_from facts.value.names facts.value.rows s facts.next)) where
      rows_stop : (x : Refused) → c ≡ Err x → lines_of s ≡ wrong x.refusal x.place
      unfolding lines_of
      rows_stop x e = rw (known.1, section_refused (rows_from facts.value.names facts.value.rows s facts.next) x (sym e ∙ q))

      pub lines_rows : (x : Refused) → c ≡ Err x → Err x ≡ answer_of (lines_of s)
      lines_rows x e = rw (rows_stop x e)

      pub rows_filled : (x : Refused) (rows names : List ℕ) → c ≡ Err x → BothFilled s rows names
      rows_filled x rows names e = wrong_filled s x.refusal x.place rows names (rows_stop x e)

      module _ (end : ℕ) (e : c ≡ Ok end) where
        read_rows : (numbers : List ℕ) × (rows_from facts.value.names facts.value.rows s facts.next ≡ read numbers end)
        read_rows = section_read (rows_from facts.value.names facts.value.rows s facts.next) end (sym e ∙ q)

        -- a line after the last row
        extra : end < length s → lines_of s ≡ wrong WrongLine (line_of facts.value facts.value.rows)
        unfolding lines_of
        extra h = rw (known.1, read_rows.1, lt-ltb end (length s) h)

        pub lines_extra : end < length s → (line : ℕ) → line ≡ line_of facts.value facts.value.rows → refused_at WrongLine line ≡ answer_of (lines_of s)
        lines_extra h line q = rw (extra h, q)

        pub extra_filled : (rows names : List ℕ) → end < length s → BothFilled s rows names
        extra_filled rows names h = wrong_filled s WrongLine (line_of facts.value facts.value.rows) rows names (extra h)

        all : length s ≤ end → lines_of s ≡ parsed facts.value known.0 read_rows.0
        unfolding lines_of
        all h = rw (known.1, read_rows.1, le-ltb end (length s) h)

        pub lines_done : length s ≤ end → Ok facts.value ≡ answer_of (lines_of s)
        lines_done h = rw (all h)

        pub done_filled : (rows names : List ℕ) → Filled 5 facts.value.rows (rows_from facts.value.names facts.value.rows s facts.next) rows → NamesFilled s names → length s ≤ end → BothFilled s rows names
        done_filled rows names w v h = record { row_front = λ x ns rs b k. row_front x ns rs (same x ns rs b) k; name_front = λ x ns rs b k. name_front x ns rs (same x ns rs b) k }
          where
            same : (x : Record) (ns rs : List ℕ) → lines_of s ≡ parsed x ns rs → parsed facts.value known.0 read_rows.0 ≡ parsed x ns rs
            same x ns rs b = sym (all h) ∙ b

            row_front : (x : Record) (ns rs : List ℕ) → parsed facts.value known.0 read_rows.0 ≡ parsed x ns rs → 5 * x.rows ≤ length rows → take (5 * x.rows) rows ≡ rs
            row_front x ns rs b k =
                let y : x ≡ facts.value = cc in
                let z : read_rows.0 ≡ rs = cc in
                let n : x.rows ≡ facts.value.rows = ap (λ (m : Record). m.rows) y in
                ap (λ (m : ℕ). take (5 * m) rows) n ∙ w.front (omega (arith, n, k)) read_rows.0 end read_rows.1 ∙ z

            name_front : (x : Record) (ns rs : List ℕ) → parsed facts.value known.0 read_rows.0 ≡ parsed x ns rs → 3 * x.names ≤ length names → take (3 * x.names) names ≡ ns
            name_front x ns rs b k =
                let y : x ≡ facts.value = cc in
                let z : known.0 ≡ ns = cc in
                let n : x.names ≡ facts.value.names = ap (λ (m : Record). m.names) y in
                ap (λ (m : ℕ). take (3 * m) names) n ∙ v.front facts.value known.0 facts.next known.1 (omega (arith, n, k)) ∙ z
