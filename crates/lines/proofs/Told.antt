-- What is known of a name and of a row that a line holds: where the text stands, that its place and length give it back, and that a kind is one of the
-- table's. By cases of the definition's tests.
use Prim.Native.Nat.{ℕ, ◌+◌, ◌≤◌, ◌<◌}
use mathlib.Core.Path.{◌≡◌, refl, sym, ap}
use mathlib.Core.Bool.{Bool, true, false, cond, ◌&&◌, and-eq-true_iff}
use mathlib.Core.List.{List}
use native.Mathlib.Omega.{arith}
use lib.Dec.{leb, ltb}
use lib.ListN.{length, take, drop, length-drop}
use lib.Seq.{length-take-le}
use borrow.Author.Tests.{leb-true, ltb-true}
use Rattle.kinds.specs.Kinds.{bytes, entry, side_fits}
use Rattle.kinds.specs.Words.{kind_of}
use Rattle.std.specs.Prelude.{Option, Some, None, Result, Ok, Err}
use Rattle.words.proofs.Words.{found_below}
use Rattle.text.specs.Fields.{field_length, field_of, field, stop_at, stands, ends_by, after, starts_with, below, all_graphic}
use Rattle.text.specs.Numbers.{number_of}
use Rattle.refusals.specs.declared.Refusal.{Refusal}
use Rattle.refusals.specs.declared.Refusal.TheVariants.{WrongLine, WrongName, WrongSide}
use Rattle.lines.specs.declared.Line.{Line}
use Rattle.lines.specs.declared.Name.{Name}
use Rattle.lines.specs.declared.Row.{Row}
use Rattle.lines.proofs.InRange.{never}
use Rattle.lines.specs.Lines.{keyed, jump_mark, name_of, name_line, five_fields, row_of, row_from, row_fields, row_line, sided, row_at}

-- a field that a byte ends stops in the sheet, and so far its text goes
field_stops : (sep end : ℕ) (s : List ℕ) (at : ℕ) → ends_by sep end s at ≡ true → (at + field_length sep (drop at s) < length s) × (length (field sep s at) ≡ field_length sep (drop at s))
unfolding ends_by stands stop_at field_of
field_stops sep end s at e =
    let h : at + field_length sep (drop at s) < length s = ltb-true _ _ ((and-eq-true_iff (ltb (at + field_length sep (drop at s)) (length s)) _).0 e).0 in
    (h, length-take-le (field_length sep (drop at s)) (drop at s) (omega (arith, length-drop at s)))

module _ (sep end : ℕ) (s : List ℕ) (at : ℕ) (e : ends_by sep end s at ≡ true) where
  -- the text of such a field is in the sheet
  pub field_within : at + length (field sep s at) ≤ length s
  field_within = let h = field_stops sep end s at e in omega arith

  -- the bytes that the text's place and length give are the text
  pub field_back : take (length (field sep s at)) (drop at s) ≡ field sep s at
  unfolding field_of
  field_back = ap (λ (n : ℕ). take n (drop at s)) (field_stops sep end s at e).1

  -- what follows the field starts past the text and the byte that ends it
  pub field_after : after sep s at ≡ at + length (field sep s at) + 1
  unfolding after stop_at
  field_after = let h = field_stops sep end s at e in omega arith

-- what is known of the name on a line: its key, where it stands, its text, which is ended by byte 10, and its order
pub record NameTold (before s : List ℕ) (at : ℕ) (line : Line Name) : Type 0 where
  pub is : line.value ≡ record { offset = at + 5; length = length (field 10 s (at + 5)); mark = jump_mark (field 10 s (at + 5)) }
  pub goes_on : line.next ≡ after 10 s (at + 5)
  pub key : starts_with (bytes "name=") (drop at s) ≡ true
  pub ended : ends_by 10 10 s (at + 5) ≡ true
  pub some : 1 ≤ length (field 10 s (at + 5))
  pub few : length (field 10 s (at + 5)) ≤ 64
  pub graphic : all_graphic (field 10 s (at + 5)) ≡ true
  pub above : below before (field 10 s (at + 5)) ≡ true

pub name_told : (before s : List ℕ) (at : ℕ) (line : Line Name) → name_line before s at ≡ Ok line → NameTold before s at line
unfolding name_line name_of keyed
name_told before s at line e = keyed_told (starts_with (bytes "name=") (drop at s) && ends_by 10 10 s (at + 5)) refl e
  where
    text : List ℕ
    text = field 10 s (at + 5)

    entry : Name
    entry = record { offset = at + 5; length = length text; mark = jump_mark text }

    fits_told : (f : Bool) → leb 1 (length text) && (leb (length text) 64 && below before text) ≡ f → (starts_with (bytes "name=") (drop at s) ≡ true) × (ends_by 10 10 s (at + 5) ≡ true) → all_graphic text ≡ true → cond f (Ok (record { value = entry; next = after 10 s (at + 5) })) (Err WrongName) ≡ Ok line → NameTold before s at line
    fits_told true q k g e =
        let a = (and-eq-true_iff (leb 1 (length text)) _).0 q in
        let b = (and-eq-true_iff (leb (length text) 64) (below before text)).0 a.1 in
        record { is = sym (cc); goes_on = cc; key = k.0; ended = k.1; some = leb-true _ _ a.0; few = leb-true _ _ b.0; graphic = g; above = b.1 }
    fits_told false q k g e = never e

    graphic_told : (g : Bool) → all_graphic text ≡ g → (starts_with (bytes "name=") (drop at s) ≡ true) × (ends_by 10 10 s (at + 5) ≡ true) → cond g (name_of before text (at + 5) (after 10 s (at + 5))) (Err WrongName) ≡ Ok line → NameTold before s at line
    graphic_told true q k e = fits_told (leb 1 (length text) && (leb (length text) 64 && below before text)) refl k q e
    graphic_told false q k e = never e

    keyed_told : (k : Bool) → starts_with (bytes "name=") (drop at s) && ends_by 10 10 s (at + 5) ≡ k → cond k (cond (all_graphic text) (name_of before text (at + 5) (after 10 s (at + 5))) (Err WrongName)) (Err WrongLine) ≡ Ok line → NameTold before s at line
    keyed_told true q e = graphic_told (all_graphic text) refl ((and-eq-true_iff (starts_with (bytes "name=") (drop at s)) _).0 q) e
    keyed_told false q e = never e

-- a name's offset and length are in the sheet, and give its text
pub name_within : (before s : List ℕ) (at : ℕ) (line : Line Name) → NameTold before s at line → line.value.offset + line.value.length ≤ length s
name_within before s at line t = rw t.is (field_within 10 10 s (at + 5) t.ended)

pub name_text_lem : (before s : List ℕ) (at : ℕ) (line : Line Name) → NameTold before s at line → take line.value.length (drop line.value.offset s) ≡ field 10 s (at + 5)
name_text_lem before s at line t = rw t.is (field_back 10 10 s (at + 5) t.ended)

-- the kind of a row is in the table
of_known : (side lo hi end : Option ℕ) (word : Option ℕ) (after : ℕ) → ((k : ℕ) → word ≡ Some k → k < 66) → (line : Line Row) → row_of side lo hi end word after ≡ Ok line → line.value.kind < 66
unfolding row_of
of_known None lo hi end word after known line e = never e
of_known (Some a) None hi end word after known line e = never e
of_known (Some a) (Some b) None end word after known line e = never e
of_known (Some a) (Some b) (Some c) None word after known line e = never e
of_known (Some a) (Some b) (Some c) (Some d) None after known line e = never e
of_known (Some a) (Some b) (Some c) (Some d) (Some k) after known line e = let l : Line Row = record { value = record { kind = k; side = a; lo = b; hi = c; end = d }; next = after } in let y : l ≡ line = cc in let z = ap (λ (l : Line Row). l.value.kind) y in omega (arith, known k refl)

from_known : (s : List ℕ) (a b c d e : ℕ) (line : Line Row) → row_from s a b c d e ≡ Ok line → line.value.kind < 66
unfolding row_from
from_known s a b c d e line q = go (five_fields s a b c d e) q
  where
    go : (f : Bool) → cond f (row_of (number_of (field 32 s b)) (number_of (field 32 s c)) (number_of (field 32 s d)) (number_of (field 32 s e)) (kind_of (field 32 s a)) (after 32 s e)) (Err WrongLine) ≡ Ok line → line.value.kind < 66
    go true q = of_known (number_of (field 32 s b)) (number_of (field 32 s c)) (number_of (field 32 s d)) (number_of (field 32 s e)) (kind_of (field 32 s a)) (after 32 s e) (λ k p. found_below (field 32 s a) (Some k) k (sym p) refl) line q
    go false q = never q

pub row_known : (s : List ℕ) (at : ℕ) (line : Line Row) → row_line s at ≡ Ok line → line.value.kind < 66
unfolding row_line row_fields
row_known s at line e = go (starts_with (bytes "row=") (drop at s)) e
  where
    go : (k : Bool) → cond k (row_fields s (at + 4)) (Err WrongLine) ≡ Ok line → line.value.kind < 66
    go true e = from_known s (at + 4) (after 32 s (at + 4)) (after 32 s (after 32 s (at + 4))) (after 32 s (after 32 s (after 32 s (at + 4)))) (after 32 s (after 32 s (after 32 s (after 32 s (at + 4))))) line e
    go false e = never e

side_told : (names : ℕ) (line r : Line Row) (b : Bool) → side_fits (entry r.value.kind).sides names r.value.side ≡ b → cond b (Ok r) (Err WrongSide) ≡ Ok line → (◌≡◌ {A = Result (Line Row) Refusal} (Ok r) (Ok line)) × (side_fits (entry line.value.kind).sides names line.value.side ≡ true)
side_told names line r true q e = let z : r ≡ line = cc in (e, rw (← z) q)
side_told names line r false q e = never e

-- what is known of the row on a line with so many names: its kind is in the table, and has its side number
pub row_told : (names : ℕ) (s : List ℕ) (at : ℕ) (line : Line Row) → row_at names s at ≡ Ok line → (line.value.kind < 66) × (side_fits (entry line.value.kind).sides names line.value.side ≡ true)
unfolding row_at
row_told names s at line e = let p = go (row_line s at) e in (row_known s at line p.0, p.1)
  where
    go : (l : Result (Line Row) Refusal) → sided names l ≡ Ok line → (l ≡ Ok line) × (side_fits (entry line.value.kind).sides names line.value.side ≡ true)
    go (Ok r) e = side_told names line r (side_fits (entry r.value.kind).sides names r.value.side) refl e
    go (Err refusal) e = never e
