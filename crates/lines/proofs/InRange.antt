-- A number that a line holds is in the line's range, by cases of the line's tests.
use Prim.Native.Nat.{ℕ, ◌≤◌, ◌+◌}
use mathlib.Core.Path.{◌≡◌, refl}
use mathlib.Core.Bool.{Bool, true, false, cond, ◌&&◌, and-eq-true_iff}
use mathlib.Core.List.{List}
use native.Mathlib.Omega.{arith}
use lib.Dec.{leb}
use lib.ListN.{length}
use borrow.Author.Tests.{leb-true}
use Rattle.std.specs.Prelude.{Option, Some, None, Result, Ok, Err}
use Rattle.text.specs.Fields.{field, after}
use Rattle.text.specs.Numbers.{number_of}
use Rattle.refusals.specs.declared.Refusal.{Refusal}
use Rattle.refusals.specs.declared.Refusal.TheVariants.{WrongLine, OutOfRange}
use Rattle.lines.specs.declared.Line.{Line}
use Rattle.lines.specs.Lines.{keyed, in_range, number_line}

pub record Ranged (low high v : ℕ) : Type 0 where
  pub least : low ≤ v
  pub most : v ≤ high

-- no refusal is a line
pub never : {A B : Type 0} {refusal : Refusal} {line : B} → ◌≡◌ {A = Result B Refusal} (Err refusal) (Ok line) → A
never e = absurd (let z : ◌≡◌ {A = ℕ} 0 1 = cc in omega arith)

in_range_lem : (low high after : ℕ) (spelled : Option ℕ) (line : Line ℕ) → in_range low high after spelled ≡ Ok line → Ranged low high line.value
in_range_lem low high after None line e = never e
in_range_lem low high after (Some n) line e = go (leb low n && leb n high) refl e
  where
    go : (b : Bool) → leb low n && leb n high ≡ b → cond b (Ok (record { value = n; next = after })) (Err OutOfRange) ≡ Ok line → Ranged low high line.value
    go true q e =
        let z : n ≡ line.value = cc in
        let t = (and-eq-true_iff (leb low n) (leb n high)).0 q in
        record { least = rw (← z) (leb-true low n t.0); most = rw (← z) (leb-true n high t.1) }
    go false q e = never e

pub value_ranged : (key : List ℕ) (low high : ℕ) (s : List ℕ) (at : ℕ) (line : Line ℕ) → number_line key low high s at ≡ Ok line → Ranged low high line.value
unfolding number_line
value_ranged key low high s at line e = go (keyed key s at) e
  where
    go : (b : Bool) → cond b (in_range low high (after 10 s (at + length key)) (number_of (field 10 s (at + length key)))) (Err WrongLine) ≡ Ok line → Ranged low high line.value
    go true e = in_range_lem low high (after 10 s (at + length key)) (number_of (field 10 s (at + length key))) line e
    go false e = never e
