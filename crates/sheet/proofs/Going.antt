-- Lines read one after the other, for numbers, names and rows alike: the numbers of those read, before those of the lines left, are the numbers
-- of all. The induction is on the lines left, which fall.
use Prim.Native.Nat.{ℕ, zero, suc, ◌+◌, ◌-◌, ◌*◌, ◌≤◌, ◌<◌}
use mathlib.Core.Path.{◌≡◌, refl, sym, ap, ◌∙◌}
use mathlib.Core.Bool.{Bool, true, false, cond}
use mathlib.Core.List.{List, [], ◌++◌, append_assoc, append-nil}
use native.Mathlib.Nat.{add-zero, sub-zero, mul-zero, mul-le-mul_left}
use native.Mathlib.Omega.{arith}
use lib.Dec.{leb}
use lib.ListN.{length, take}
use lib.Seq.{length-sets, sets-eq, drop-drop}
use borrow.Rule.Slice.PartMut.{put_mid}
use borrow.Author.Tests.{le-leb, lt-leb}
use Rattle.writing.specs.Putting.{put}
use Rattle.writing.proofs.Puts.{front_put}
use Rattle.std.specs.Prelude.{Result, Ok, Err}
use Rattle.refusals.specs.declared.Refusal.{Refusal}
use Rattle.refusals.specs.declared.Refused.{Refused}
use Rattle.sheet.specs.Sections.{Line, right_line, wrong_line, Lines, read, refused, prepend, lines_from}
use Rattle.sheet.specs.Steps.{at_line, section_of, Filled, put_whole}

-- numbers put into a table, if it has room
pub put_none : (t : List ℕ) (w : ℕ) (numbers : List ℕ) → length t < w + length numbers → t ≡ put_whole t w numbers
unfolding put_whole
put_none t w numbers h = rw (lt-leb (w + length numbers) (length t) h)

pub put_all : (t : List ℕ) (w : ℕ) (numbers : List ℕ) → w + length numbers ≤ length t → put t w numbers ≡ put_whole t w numbers
unfolding put_whole
put_all t w numbers h = rw (le-leb (w + length numbers) (length t) h)

pub put_length : (t : List ℕ) (w : ℕ) (numbers : List ℕ) → length (put_whole t w numbers) ≡ length t
unfolding put_whole
put_length t w numbers = go (leb (w + length numbers) (length t))
  where
    go : (b : Bool) → length (cond b (put t w numbers) t) ≡ length t
    go true = length-sets t w numbers
    go false = refl

put_front : (t : List ℕ) (w : ℕ) (numbers : List ℕ) → w + length numbers ≤ length t → take (w + length numbers) (put_whole t w numbers) ≡ take w t ++ numbers
put_front t w numbers h = rw (← put_all t w numbers h) (front_put t w numbers h)

-- a part of the table that holds the numbers now
pub put_part : (t : List ℕ) (w : ℕ) (numbers part : List ℕ) → w + length numbers ≤ length t → part ≡ numbers → put_mid w (w + length numbers - w) t part ≡ put_whole t w numbers
put_part t w numbers part h e =
    let z : w + length numbers - w ≡ length numbers = omega arith in
    rw (e, z, ← put_all t w numbers h, sets-eq numbers t w h, append_assoc, drop-drop)

-- what is read on a line, from what it is with the line
pub at_line_ok : {A : Type 0} (line : ℕ) (r : Result A Refusal) (x : A) → Ok x ≡ at_line line r → r ≡ Ok x
at_line_ok line (Ok y) x e = cc
at_line_ok line (Err refusal) x e = absurd (cc)

pub at_line_err : {A : Type 0} (line : ℕ) (r : Result A Refusal) (x : Refused) → Err x ≡ at_line line r → (refusal : Refusal) × ((r ≡ Err refusal) × (x ≡ record { refusal = refusal; place = line }))
at_line_err line (Ok y) x e = absurd (cc)
at_line_err line (Err refusal) x e = (refusal, (refl, cc))

prepend_nil : (l : Lines) → prepend [] l ≡ l
prepend_nil (read numbers next) = refl
prepend_nil (refused refusal line) = refl

prepend_both : (a b : List ℕ) (l : Lines) → prepend a (prepend b l) ≡ prepend (a ++ b) l
prepend_both a b (read numbers next) = ap (λ (x : List ℕ). read x next) (sym (append_assoc a b numbers))
prepend_both a b (refused refusal line) = refl

pub never : {A : Type 0} {refusal : Refusal} {line : ℕ} {numbers : List ℕ} {next : ℕ} → refused refusal line ≡ read numbers next → A
never e = absurd (let z : ◌≡◌ {A = ℕ} 0 1 = cc in omega arith)

-- lines that a section was told of
pub section_read : (l : Lines) (next : ℕ) → Ok next ≡ section_of l → (numbers : List ℕ) × (l ≡ read numbers next)
section_read (read numbers n) next e = let z : n ≡ next = cc in (numbers, ap (read numbers) z)
section_read (refused refusal line) next e = absurd (let z : ◌≡◌ {A = ℕ} 0 1 = cc in omega arith)

pub section_refused : (l : Lines) (x : Refused) → Err x ≡ section_of l → l ≡ refused x.refusal x.place
section_refused (read numbers n) x e = absurd (let z : ◌≡◌ {A = ℕ} 0 1 = cc in omega arith)
section_refused (refused f m) x e = let z : x ≡ record { refusal = f; place = m } = cc in rw z

-- the first of some lines is wrong, or right
lines_wrong : {A : Type 0} (step : A → ℕ → Line A) (n : ℕ) (by : A) (at line : ℕ) (refusal : Refusal) → 0 < n → step by at ≡ wrong_line refusal → lines_from step n by at line ≡ refused refusal line
unfolding lines_from
lines_wrong step zero by at line refusal h e = absurd (omega arith)
lines_wrong step (suc n) by at line refusal h e = rw e

lines_holds : {A : Type 0} (step : A → ℕ → Line A) (n : ℕ) (by : A) (at line : ℕ) (numbers : List ℕ) (new : A) (next : ℕ) → 0 < n → step by at ≡ right_line numbers new next → lines_from step n by at line ≡ prepend numbers (lines_from step (n - 1) new next (line + 1))
unfolding lines_from
lines_holds step zero by at line numbers new next h e = absurd (omega arith)
lines_holds step (suc n) by at line numbers new next h e = let z : suc n - 1 ≡ n = omega arith in rw (e, z)

-- what is known before line i of `count`: the numbers so far, with those of the lines left, are the numbers of all; and they
-- stand in front of the table if that has room for all
pub record Going {A : Type 0} (step : A → ℕ → Line A) (start : A) (width count from first : ℕ) (t : List ℕ) (by : A) (at i : ℕ) : Type 0 where
  pub numbers : List ℕ
  pub same : lines_from step count start from first ≡ prepend numbers (lines_from step (count - i) by at (first + i))
  pub front : width * count ≤ length t → take (width * i) t ≡ numbers
  pub upto : i ≤ count

module _ {A : Type 0} (step : A → ℕ → Line A) (start : A) (width count from first : ℕ) where
  pub going_start : (t : List ℕ) → Going step start width count from first t start from 0
  going_start t = record { numbers = []; same = rw (sub-zero, add-zero first) (sym (prepend_nil _)); front = λ h. rw (mul-zero width); upto = omega arith }

  module _ (t : List ℕ) (by : A) (at i : ℕ) (g : Going step start width count from first t by at i) where
    -- no line is left
    pub going_done : count ≤ i → lines_from step count start from first ≡ read g.numbers at
    unfolding lines_from
    going_done h = let z : count - i ≡ 0 = omega arith in g.same ∙ rw (z, append-nil)

    pub going_filled : count ≤ i → Filled width count (lines_from step count start from first) t
    going_filled h = record { front = λ r numbers next e. whole (sym (going_done h) ∙ e) r }
      where
        end : i ≡ count
        end = omega (arith, g.upto)

        whole : {numbers : List ℕ} {next : ℕ} → read g.numbers at ≡ read numbers next → width * count ≤ length t → take (width * count) t ≡ numbers
        whole {numbers} e r = let k : g.numbers ≡ numbers = cc in rw (← end) (g.front r ∙ k)

    module _ (more : i < count) where
      -- the next line is wrong
      pub going_wrong : (refusal : Refusal) → step by at ≡ wrong_line refusal → lines_from step count start from first ≡ refused refusal (first + i)
      going_wrong refusal e = g.same ∙ rw (lines_wrong step (count - i) by at (first + i) refusal (omega arith) e)

      pub wrong_filled : (refusal : Refusal) (u : List ℕ) → step by at ≡ wrong_line refusal → Filled width count (lines_from step count start from first) u
      wrong_filled refusal u e = record { front = λ r numbers next q. never (sym (going_wrong refusal e) ∙ q) }

      -- the next line is right
      pub going_next : (numbers : List ℕ) (new : A) (next : ℕ) → step by at ≡ right_line numbers new next → length numbers ≡ width → (u : List ℕ) → u ≡ put_whole t (width * i) numbers → Going step start width count from first u new next (i + 1)
      going_next numbers new next e n u p =
          let a : count - (i + 1) ≡ count - i - 1 = omega arith in
          let b : first + (i + 1) ≡ first + i + 1 = omega arith in
          record {
            numbers = g.numbers ++ numbers;
            same = rw (a, b) (g.same ∙ ap (prepend g.numbers) (lines_holds step (count - i) by at (first + i) numbers new next (omega arith) e) ∙ prepend_both g.numbers numbers (lines_from step (count - i - 1) new next (first + i + 1)));
            front = λ r. written (omega (arith, r, ap length p, put_length t (width * i) numbers));
            upto = omega arith;
          }
        where
          until : width * i + width ≤ width * count
          until = let k : i + 1 ≤ count = omega arith in let m : width * (i + 1) ≤ width * count = mul-le-mul_left width k in omega (arith, m)

          written : width * count ≤ length t → take (width * (i + 1)) u ≡ g.numbers ++ numbers
          written r =
              let z : width * (i + 1) ≡ width * i + length numbers = omega (arith, n) in
              rw (z, p, ← g.front r) (put_front t (width * i) numbers (omega (arith, n, until, r)))
