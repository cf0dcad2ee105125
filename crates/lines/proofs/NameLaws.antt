-- A line with a name, test by test: a law for each place where the code returns, with the tests before it as premises.
use Prim.Native.Nat.{ℕ, ◌-◌}
use mathlib.Core.Path.{◌≡◌, refl, sym, ◌∙◌}
use mathlib.Core.Bool.{Bool, true, false, cond, ◌&&◌, true≢false}
use mathlib.Core.List.{List, [], ◌∷◌}
use native.Mathlib.Omega.{arith}
use lib.Dec.{eqb, leb}
use borrow.Author.Tests.{eq-eqb, eqb-true, lt-ltb}
use lib.ListN.{length, take, drop}
use mir.Val.{bool_byte}
use Rattle.std.specs.Prelude.{Option, Some, None, Result, Ok, Err}
use Rattle.std.specs.List.{starts_with as begins_with}
use Rattle.kinds.specs.Kinds.{bytes}
use Rattle.text.specs.Fields.{below, stands, starts_with}
use Rattle.text.specs.Steps.{after_byte, after_key, graphic_line}
use Rattle.text.specs.declared.GraphicLine.{GraphicLine}
use Rattle.text.proofs.Places.{begins, byte_missed}
use Rattle.text.proofs.FieldLaws.{key_found, field_part, line_missed, line_ends, line_next, line_told, line_text_lem}
use Rattle.refusals.specs.declared.Refusal.{Refusal}
use Rattle.refusals.specs.declared.Refusal.TheVariants.{WrongLine, WrongName}
use Rattle.lines.specs.declared.Line.{Line}
use Rattle.lines.specs.declared.Name.{Name}
use Rattle.lines.specs.Lines.{jump_mark, name_of, name_line}
use Rattle.lines.proofs.NumberLaws.{no_key, no_end, key_and_end}

-- both beginnings begin with the byte `$`
other_first : (y : ℕ) (b : Bool) → eqb 36 y ≡ b → eqb y 36 ≡ false → b ≡ false
other_first y true p e = absurd (true≢false (sym (eq-eqb y 36 (sym (eqb-true 36 y p))) ∙ e))
other_first y false p e = refl

no_dollar : (name : List ℕ) → stands 36 name 0 ≡ false → 0 ≡ jump_mark name
unfolding jump_mark stands starts_with
no_dollar [] e = refl
no_dollar (y ∷ ys) e = rw (other_first y (eqb 36 y) refl (rw (lt-ltb 0 (length (y ∷ ys)) (omega arith)) at e))

pub mark_none : (name : List ℕ) (o : Option ℕ) → o ≡ after_byte 36 name 0 → o ≡ None → 0 ≡ jump_mark name
mark_none name o q e = no_dollar name (byte_missed 36 name 0 o q e)

-- the jump mark, as the two beginnings were found or not
module _ (name : List ℕ) (a : Bool) (p : a ≡ begins_with eqb name (bytes "$break$")) where
  pub mark_break : a ≡ true → 1 ≡ jump_mark name
  unfolding jump_mark
  mark_break e = rw (← begins (bytes "$break$") name, ← p, e)

  pub mark_other : a ≡ false → (b : Bool) → b ≡ begins_with eqb name (bytes "$continue$") → bool_byte b ≡ jump_mark name
  unfolding jump_mark
  mark_other e b q = rw (← begins (bytes "$break$") name, ← begins (bytes "$continue$") name, ← p, e, ← q) (go b)
    where
      go : (b : Bool) → bool_byte b ≡ cond b 1 0
      go true = refl
      go false = refl

-- a name's length and place in the order
module _ (before name : List ℕ) (offset next : ℕ) (l : Bool) (p : l ≡ (leb 1 (length name) && leb (length name) 64)) where
  tests : leb 1 (length name) && (leb (length name) 64 && below before name) ≡ (l && below before name)
  tests = rw p (go (leb 1 (length name)))
    where
      go : (a : Bool) → (a && (leb (length name) 64 && below before name)) ≡ ((a && leb (length name) 64) && below before name)
      go true = refl
      go false = refl

  pub name_long : l ≡ false → Err WrongName ≡ name_of before name offset next
  unfolding name_of
  name_long e = rw (tests, e)

  module _ (e : l ≡ true) (r : Bool) (q : r ≡ below before name) where
    pub name_order : r ≡ false → Err WrongName ≡ name_of before name offset next
    unfolding name_of
    name_order n = rw (tests, e, ← q, n)

    pub name_told : r ≡ true → (m : ℕ) → m ≡ jump_mark name → Ok (record { value = record { offset = offset; length = length name; mark = m }; next = next }) ≡ name_of before name offset next
    unfolding name_of
    name_told n m f = rw (tests, e, ← q, n, f)

-- the line, as its key, its end and its bytes were found
module _ (before s : List ℕ) (at : ℕ) (o : Option ℕ) (q : o ≡ after_key (bytes "name=") s at) where
  pub name_key : o ≡ None → Err WrongLine ≡ name_line before s at
  unfolding name_line
  name_key z = rw (no_key (bytes "name=") s at o q z)

  module _ (from : ℕ) (e : o ≡ Some from) (g : GraphicLine) (r : g ≡ graphic_line s from) where
    pub name_end : g.next ≡ None → Err WrongLine ≡ name_line before s at
    unfolding name_line
    name_end z = rw (no_end (bytes "name=") s at o q from e (line_missed s from g r z))

    module _ (next : ℕ) (d : g.next ≡ Some next) where
      pub name_bytes : g.all ≡ false → Err WrongName ≡ name_line before s at
      unfolding name_line
      name_bytes f =
          rw
          (key_and_end (bytes "name=") s at o q from e (line_ends s from g r next d), ← (key_found (bytes "name=") s at o q from e).1, ← line_told s from g r next d, f)

      pub name_is : g.all ≡ true → (out : Result (Line Name) Refusal) → out ≡ name_of before (take (g.stop - from) (drop from s)) from next → out ≡ name_line before s at
      unfolding name_line
      name_is t out p =
          p
          ∙ rw
          (field_part 10 s from g.stop (line_text_lem s from g r t), key_and_end (bytes "name=") s at o q from e (line_ends s from g r next d), ← (key_found (bytes "name=") s at o q from e).1, ← line_told s from g r next d, t, line_next s from g r next d)
