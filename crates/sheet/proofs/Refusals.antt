-- What the lines of a sheet can be refused with, and where: 1 to 6, at a line from 1 on. The induction is on the lines left.
use Prim.Native.Nat.{ℕ, zero, suc, ◌+◌, ◌≤◌}
use mathlib.Core.Path.{◌≡◌, refl}
use mathlib.Core.Bool.{Bool, true, false, cond}
use mathlib.Core.List.{List, [], ◌∷◌}
use native.Mathlib.Omega.{arith}
use lib.Dec.{ltb}
use lib.ListN.{length, get_or}
use Rattle.refusals.specs.declared.Refusal.{Refusal}
use Rattle.refusals.specs.declared.Refusal.TheVariants.{WrongLine}
use Rattle.refusals.specs.Refusals.{refusal_number}
use Rattle.std.specs.Prelude.{Result, Ok, Err}
use Rattle.lines.specs.declared.Line.{Line as LineRead}
use Rattle.lines.specs.declared.Name.{Name}
use Rattle.lines.specs.declared.Row.{Row}
use Rattle.lines.specs.Lines.{number_line, name_line, row_at}
use Rattle.lines.proofs.Refusals.{number_low, name_low, row_low}
use Rattle.sheet_record.specs.declared.Record.{Record}
use Rattle.sheet.specs.Header.{HeaderLine, greatest, head_lines, fact_lines, first_name, first_fact, first_row}
use Rattle.sheet.specs.Sections.{Line, right_line, wrong_line, Lines, read, refused, prepend, after_line, lines_from, after_lines, of_number, number_step, of_name, name_step, of_row, row_step, head_from, facts_from, names_from, rows_from}
use Rattle.sheet.specs.Load.{Before, before, stopped, before_rows, parsed, wrong, after_before, line_of, lines_of}

-- a refusal of lines that start at one: its number, and its line
pub record OfLines (first : ℕ) (refusal : Refusal) (line : ℕ) : Type 0 where
  pub number : refusal_number refusal ≤ 6
  pub place : first ≤ line

apart : {A : Type 0} → ◌≡◌ {A = ℕ} 0 1 → A
apart z = absurd (omega (arith, z))

lower : {a b : ℕ} {refusal : Refusal} {line : ℕ} → a ≤ b → OfLines b refusal line → OfLines a refusal line
lower h o = record { number = o.number; place = omega (arith, h, o.place) }

-- lines, each of which is refused so
module _ {A : Type 0} (step : A → ℕ → Line A) (low : (by : A) (at : ℕ) (refusal : Refusal) → step by at ≡ wrong_line refusal → refusal_number refusal ≤ 6) where
  lines_refused : (n : ℕ) (by : A) (at line : ℕ) (refusal : Refusal) (place : ℕ) → lines_from step n by at line ≡ refused refusal place → OfLines line refusal place
  unfolding lines_from
  lines_refused zero by at line refusal place e = apart (cc)
  lines_refused (suc n) by at line refusal place e = go (step by at) refl (λ after next q. lines_refused n after next (line + 1) refusal place q) e
    where
      rest : (l : Lines) (numbers : List ℕ) → (l ≡ refused refusal place → OfLines (line + 1) refusal place) → prepend numbers l ≡ refused refusal place → OfLines line refusal place
      rest (read others next) numbers h e = apart (cc)
      rest (refused f m) numbers h e = lower (omega arith) (h e)

      go : (l : Line A) → step by at ≡ l → ((after : A) (next : ℕ) → lines_from step n after next (line + 1) ≡ refused refusal place → OfLines (line + 1) refusal place) → after_line l line (λ after next. lines_from step n after next (line + 1)) ≡ refused refusal place → OfLines line refusal place
      go (right_line numbers after next) q h e = rest (lines_from step n after next (line + 1)) numbers (h after next) e
      go (wrong_line f) q h e =
          let x : f ≡ refusal = cc in
          let y : line ≡ place = cc in
          record { number = rw (← x) (low by at f q); place = omega (arith, y) }

number_step_low : (names : ℕ) (s : List ℕ) (by : List HeaderLine) (at : ℕ) (refusal : Refusal) → number_step names s by at ≡ wrong_line refusal → refusal_number refusal ≤ 6
unfolding number_step
number_step_low names s [] at refusal e = let x : WrongLine ≡ refusal = cc in rw (← x) (omega arith)
number_step_low names s (l ∷ ls) at refusal e = go (number_line l.key l.low (greatest l.high names) s at) refl e
  where
    go : (n : Result (LineRead ℕ) Refusal) → number_line l.key l.low (greatest l.high names) s at ≡ n → of_number ls n ≡ wrong_line refusal → refusal_number refusal ≤ 6
    go (Ok line) q e = apart (cc)
    go (Err f) q e = let x : f ≡ refusal = cc in rw (← x) (number_low l.key l.low (greatest l.high names) s at f q)

name_step_low : (s by : List ℕ) (at : ℕ) (refusal : Refusal) → name_step s by at ≡ wrong_line refusal → refusal_number refusal ≤ 6
unfolding name_step
name_step_low s by at refusal e = go (name_line by s at) refl e
  where
    go : (n : Result (LineRead Name) Refusal) → name_line by s at ≡ n → of_name s n ≡ wrong_line refusal → refusal_number refusal ≤ 6
    go (Ok line) q e = apart (cc)
    go (Err f) q e = let x : f ≡ refusal = cc in rw (← x) (name_low by s at f q)

row_step_low : (names : ℕ) (s : List ℕ) (by : Unit {0}) (at : ℕ) (refusal : Refusal) → row_step names s by at ≡ wrong_line refusal → refusal_number refusal ≤ 6
unfolding row_step
row_step_low names s by at refusal e = go (row_at names s at) refl e
  where
    go : (n : Result (LineRead Row) Refusal) → row_at names s at ≡ n → of_row n ≡ wrong_line refusal → refusal_number refusal ≤ 6
    go (Ok line) q e = apart (cc)
    go (Err f) q e = let x : f ≡ refusal = cc in rw (← x) (row_low names s at f q)

-- what follows lines, where they are refused from line 1 on
module _ {A : Type 0} (refuse : Refusal → ℕ → A) (out : A) (first : ℕ) (some : 1 ≤ first) (P : Type 0) (told : (refusal : Refusal) (line : ℕ) → refuse refusal line ≡ out → OfLines 1 refusal line → P) where
  after_lines_lem : (l : Lines) → ((refusal : Refusal) (place : ℕ) → l ≡ refused refusal place → OfLines first refusal place) → (more : List ℕ → ℕ → A) → ((numbers : List ℕ) (next : ℕ) → more numbers next ≡ out → P) → after_lines refuse l more ≡ out → P
  after_lines_lem (read numbers next) h more go e = go numbers next e
  after_lines_lem (refused refusal line) h more go e = told refusal line e (lower some (h refusal line refl))

-- the lines before the rows
before_refused : (s : List ℕ) (refusal : Refusal) (line : ℕ) → before_rows s ≡ stopped refusal line → OfLines 1 refusal line
unfolding before_rows
before_refused s refusal line e =
    after_lines_lem stopped (stopped refusal line) 1 (omega arith) (OfLines 1 refusal line) stop (head_from s)
    (lines_refused (number_step 0 s) (number_step_low 0 s) (length head_lines) head_lines 0 1) _
    (λ head at. after_lines_lem stopped (stopped refusal line) first_name (omega arith) (OfLines 1 refusal line) stop (names_from (get_or head 1 0) s at)
    (lines_refused (name_step s) (name_step_low s) (get_or head 1 0) [] at first_name) _
    (λ names at. after_lines_lem stopped (stopped refusal line) (first_fact (get_or head 1 0)) (omega arith) (OfLines 1 refusal line) stop (facts_from (get_or head 1 0) s at)
    (lines_refused (number_step (get_or head 1 0) s) (number_step_low (get_or head 1 0) s) (length fact_lines) fact_lines at (first_fact (get_or head 1 0))) _
    (λ facts next e. apart (cc))))
    e
  where
    stop : (f : Refusal) (l : ℕ) → stopped f l ≡ stopped refusal line → OfLines 1 f l → OfLines 1 refusal line
    stop f l e o = let x : f ≡ refusal = cc in let y : l ≡ line = cc in record { number = rw (← x) o.number; place = omega (arith, o.place, y) }

-- all lines
pub lines_of_refused : (s : List ℕ) (refusal : Refusal) (line : ℕ) → lines_of s ≡ wrong refusal line → OfLines 1 refusal line
unfolding lines_of
lines_of_refused s refusal line e = go (before_rows s) refl e
  where
    stop : (f : Refusal) (l : ℕ) → wrong f l ≡ wrong refusal line → OfLines 1 f l → OfLines 1 refusal line
    stop f l e o = let x : f ≡ refusal = cc in let y : l ≡ line = cc in record { number = rw (← x) o.number; place = omega (arith, o.place, y) }

    extra : (r : Record) (names rows : List ℕ) (b : Bool) → cond b (wrong WrongLine (line_of r r.rows)) (parsed r names rows) ≡ wrong refusal line → OfLines 1 refusal line
    extra r names rows true e = stop WrongLine (line_of r r.rows) e (record { number = omega arith; place = omega arith })
    extra r names rows false e = apart (cc)

    go : (b : Before) → before_rows s ≡ b → after_before b (λ r names at. after_lines wrong (rows_from r.names r.rows s at) (λ rows at. cond (ltb at (length s)) (wrong WrongLine (line_of r r.rows)) (parsed r names rows))) ≡ wrong refusal line → OfLines 1 refusal line
    go (stopped f l) q e = stop f l e (before_refused s f l q)
    go (before r names at) q e =
        after_lines_lem wrong (wrong refusal line) (first_row r.names) (omega arith) (OfLines 1 refusal line) stop (rows_from r.names r.rows s at)
        (lines_refused (row_step r.names s) (row_step_low r.names s) r.rows tt at (first_row r.names)) _
        (λ rows next. extra r names rows (ltb next (length s)))
        e
