-- The lines of rows: kind and side number of each are told by the table of kinds, as the definition asks.
use Prim.Native.Nat.{ℕ, ◌+◌, ◌*◌, ◌≤◌, ◌<◌}
use mathlib.Core.Path.{◌≡◌, refl, sym, ap, ◌∙◌}
use mathlib.Core.Bool.{Bool, true, false}
use mathlib.Core.List.{List, map}
use native.Mathlib.Omega.{arith}
use lib.ListN.{length, get_or}
use Rattle.kinds.specs.declared.Kind.{Kind}
use Rattle.kinds.specs.Kinds.{kinds, entry, side_fits}
use Rattle.kinds.specs.Steps.{numbers, side_below}
use Rattle.kinds.proofs.Numbers.{entry_sides}
use Rattle.std.specs.Prelude.{Result, Ok, Err}
use Rattle.refusals.specs.declared.Refusal.{Refusal}
use Rattle.refusals.specs.declared.Refusal.TheVariants.{WrongSide}
use Rattle.refusals.specs.declared.Refused.{Refused}
use Rattle.refusals.specs.Refusals.{refused_at}
use Rattle.lines.specs.declared.Line.{Line as LineRead}
use Rattle.lines.specs.declared.Row.{Row}
use Rattle.lines.specs.Lines.{row_line, row_at}
use Rattle.lines.proofs.Told.{row_known}
use Rattle.sheet.specs.Header.{first_row}
use Rattle.sheet.specs.Sections.{wrong_line, row_step, row_numbers, rows_from}
use Rattle.sheet.specs.Steps.{at_line, section_of, Filled, put_whole}
use Rattle.sheet.proofs.Going.{put_length, at_line_ok, at_line_err, Going, going_start, going_done, going_filled, going_wrong, wrong_filled, going_next}

-- what the loop over the rows knows before row i
pub record RowLoop (names : ℕ) (s : List ℕ) (from count : ℕ) (t₀ t : List ℕ) (at i : ℕ) : Type 0 where
  pub going : Going (row_step names s) tt 5 count from (first_row names) t tt at i
  pub kept : length t ≡ length t₀

pub row_loop_start : (names : ℕ) (s : List ℕ) (from count : ℕ) (t : List ℕ) → RowLoop names s from count t t from 0
row_loop_start names s from count t = record { going = going_start (row_step names s) tt 5 count from (first_row names) t; kept = refl }

module _ (names : ℕ) (s : List ℕ) (from count : ℕ) (t₀ t : List ℕ) (at i : ℕ) (g : RowLoop names s from count t₀ t at i) where
  pub row_loop_done : count ≤ i → Ok at ≡ section_of (rows_from names count s from)
  row_loop_done h = sym (ap section_of (going_done (row_step names s) tt 5 count from (first_row names) t tt at i g.going h))

  pub row_loop_filled : count ≤ i → Filled 5 count (rows_from names count s from) t
  row_loop_filled h = going_filled (row_step names s) tt 5 count from (first_row names) t tt at i g.going h

  module _ (more : i < count) (r : Result (LineRead Row) Refusal) (q : r ≡ row_line s at) (line : ℕ) (f : line ≡ first_row names) (m : Result (LineRead Row) Refused) (n : m ≡ at_line (line + i) r) where
    -- a line that is wrong
    row_wrong : (x : Refused) → m ≡ Err x → (refusal : Refusal) × ((row_step names s tt at ≡ wrong_line refusal) × (x ≡ record { refusal = refusal; place = first_row names + i }))
    unfolding row_step row_at
    row_wrong x e = let w = at_line_err (line + i) r x (sym e ∙ n) in let z : row_line s at ≡ Err w.0 = sym q ∙ w.1.0 in let y : line + i ≡ first_row names + i = omega (arith, f) in (w.0, (rw z, w.1.1 ∙ ap (λ (p : ℕ). record { refusal = w.0; place = p }) y))

    pub row_loop_wrong : (x : Refused) → m ≡ Err x → Err x ≡ section_of (rows_from names count s from)
    row_loop_wrong x e = let w = row_wrong x e in rw (w.1.1, going_wrong (row_step names s) tt 5 count from (first_row names) t tt at i g.going more w.0 w.1.0)

    pub row_loop_wrong_filled : (x : Refused) → m ≡ Err x → Filled 5 count (rows_from names count s from) t
    row_loop_wrong_filled x e = let w = row_wrong x e in wrong_filled (row_step names s) tt 5 count from (first_row names) t tt at i g.going more w.0 t w.1.0

    module _ (l : LineRead Row) (e : m ≡ Ok l) where
      is_read : row_line s at ≡ Ok l
      is_read = sym q ∙ at_line_ok (line + i) r l (sym e ∙ n)

      pub row_loop_known : l.value.kind < 66
      row_loop_known = row_known s at l is_read

      module _ (entries : List Kind) (d : Kind) (k : entries ≡ map numbers kinds) (b : Bool) (p : b ≡ side_below (get_or entries l.value.kind d).sides names l.value.side) where
        side_told : b ≡ side_fits (entry l.value.kind).sides names l.value.side
        side_told = p ∙ entry_sides entries l.value.kind d k row_loop_known names l.value.side

        -- a side number that its kind does not have
        side_wrong : b ≡ false → row_step names s tt at ≡ wrong_line WrongSide
        unfolding row_step row_at
        side_wrong z = rw (is_read, ← side_told, z)

        pub row_loop_side : b ≡ false → refused_at WrongSide (line + i) ≡ section_of (rows_from names count s from)
        row_loop_side z = let y : line + i ≡ first_row names + i = omega (arith, f) in rw y (sym (ap section_of (going_wrong (row_step names s) tt 5 count from (first_row names) t tt at i g.going more WrongSide (side_wrong z))))

        pub row_loop_side_filled : b ≡ false → Filled 5 count (rows_from names count s from) t
        row_loop_side_filled z = wrong_filled (row_step names s) tt 5 count from (first_row names) t tt at i g.going more WrongSide t (side_wrong z)

        pub row_loop_next : b ≡ true → (u : List ℕ) → u ≡ put_whole t (5 * i) (row_numbers l.value) → RowLoop names s from count t₀ u l.next (i + 1)
        unfolding row_step row_at
        row_loop_next z u o =
            record {
              going = going_next (row_step names s) tt 5 count from (first_row names) t tt at i g.going more (row_numbers l.value) tt l.next (rw (is_read, ← side_told, z)) refl u o;
              kept = ap length o ∙ put_length t (5 * i) (row_numbers l.value) ∙ g.kept;
            }
