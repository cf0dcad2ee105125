-- The lines of names: each is held against the text of the one before it, which the loop keeps as a part of the sheet.
use Prim.Native.Nat.{ℕ, ◌+◌, ◌-◌, ◌*◌, ◌≤◌, ◌<◌}
use mathlib.Core.Path.{◌≡◌, refl, sym, ap, ◌∙◌}
use mathlib.Core.List.{List, []}
use native.Mathlib.Omega.{arith}
use lib.ListN.{length, take, drop}
use Rattle.std.specs.Prelude.{Result, Ok, Err}
use Rattle.refusals.specs.declared.Refusal.{Refusal}
use Rattle.refusals.specs.declared.Refused.{Refused}
use Rattle.lines.specs.declared.Line.{Line as LineRead}
use Rattle.lines.specs.declared.Name.{Name}
use Rattle.lines.specs.Lines.{name_line}
use Rattle.lines.proofs.Told.{name_told, name_within}
use Rattle.sheet.specs.Sections.{wrong_line, name_step, name_numbers, name_text, names_from}
use Rattle.sheet.specs.Steps.{at_line, section_of, Filled, put_whole}
use Rattle.sheet.proofs.Going.{put_length, at_line_ok, at_line_err, Going, going_start, going_done, going_filled, going_wrong, wrong_filled, going_next}

-- what the loop over the names knows before name i; `before` is the text of the name before it
pub record NameLoop (s : List ℕ) (from count : ℕ) (t₀ t before : List ℕ) (at i : ℕ) : Type 0 where
  pub going : Going (name_step s) [] 3 count from 3 t before at i
  pub kept : length t ≡ length t₀

pub name_loop_start : (s : List ℕ) (from count : ℕ) (t : List ℕ) → NameLoop s from count t t [] from 0
name_loop_start s from count t = record { going = going_start (name_step s) [] 3 count from 3 t; kept = refl }

module _ (s : List ℕ) (from count : ℕ) (t₀ t before : List ℕ) (at i : ℕ) (g : NameLoop s from count t₀ t before at i) where
  pub name_loop_done : count ≤ i → Ok at ≡ section_of (names_from count s from)
  name_loop_done h = sym (ap section_of (going_done (name_step s) [] 3 count from 3 t _ at i g.going h))

  pub name_loop_filled : count ≤ i → Filled 3 count (names_from count s from) t
  name_loop_filled h = going_filled (name_step s) [] 3 count from 3 t _ at i g.going h

  module _ (more : i < count) (r : Result (LineRead Name) Refusal) (q : r ≡ name_line before s at) (m : Result (LineRead Name) Refused) (n : m ≡ at_line (3 + i) r) where
    -- a line that is wrong
    name_wrong : (x : Refused) → m ≡ Err x → (refusal : Refusal) × ((name_step s before at ≡ wrong_line refusal) × (x ≡ record { refusal = refusal; place = 3 + i }))
    unfolding name_step
    name_wrong x e = let w = at_line_err (3 + i) r x (sym e ∙ n) in let z : name_line before s at ≡ Err w.0 = sym q ∙ w.1.0 in (w.0, (rw z, w.1.1))

    pub name_loop_wrong : (x : Refused) → m ≡ Err x → Err x ≡ section_of (names_from count s from)
    name_loop_wrong x e = let w = name_wrong x e in rw (w.1.1, going_wrong (name_step s) [] 3 count from 3 t _ at i g.going more w.0 w.1.0)

    pub name_loop_wrong_filled : (x : Refused) → m ≡ Err x → Filled 3 count (names_from count s from) t
    name_loop_wrong_filled x e = let w = name_wrong x e in wrong_filled (name_step s) [] 3 count from 3 t _ at i g.going more w.0 t w.1.0

    module _ (l : LineRead Name) (e : m ≡ Ok l) where
      is_read : name_line before s at ≡ Ok l
      is_read = sym q ∙ at_line_ok (3 + i) r l (sym e ∙ n)

      pub name_loop_within : l.value.offset + l.value.length ≤ length s
      name_loop_within = name_within _ s at l (name_told _ s at l is_read)

      pub name_loop_next : (u : List ℕ) → u ≡ put_whole t (3 * i) (name_numbers l.value) → NameLoop s from count t₀ u (take (l.value.offset + l.value.length - l.value.offset) (drop l.value.offset s)) l.next (i + 1)
      unfolding name_step
      name_loop_next u p =
          let text : l.value.offset + l.value.length - l.value.offset ≡ l.value.length = omega arith in
          record {
            going = rw text (going_next (name_step s) [] 3 count from 3 t _ at i g.going more (name_numbers l.value) (name_text s l.value) l.next (rw is_read) refl u p);
            kept = ap length p ∙ put_length t (3 * i) (name_numbers l.value) ∙ g.kept;
          }
