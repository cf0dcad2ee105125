-- The numbers of a text, set in a table one after another: what the loop knows at a place, and the step to the next part. That a text is
-- its first part and the parts after it is shown by induction over its bytes.
use Prim.Native.Nat.{ℕ, zero, suc, ◌+◌, ◌%◌, ◌≤◌, ◌<◌}
use mathlib.Core.Bool.{Bool, true, false, cond}
use mathlib.Core.Path.{◌≡◌, refl, sym, ap, ◌∙◌}
use mathlib.Core.List.{List, [], ◌∷◌}
use native.Mathlib.Nat.{add-zero}
use native.Mathlib.Numerals.{add-one}
use native.Mathlib.Omega.{arith}
use lib.Dec.{eqb}
use lib.ListN.{length, set, take, drop, length-set, length-drop}
use Rattle.case_text.specs.Texts.{first_place, saturating_decimal, longer, parts, set_numbers}

-- a text begins with the part before the first such byte
abbrev FirstPart : ℕ → List ℕ → Type 0
FirstPart byte text = parts byte text ≡ take (first_place byte text) text ∷ parts byte (drop (suc (first_place byte text)) text)

first_byte : (byte b : ℕ) (t : List ℕ) → longer b (parts byte t) ≡ (b ∷ take (first_place byte t) t) ∷ parts byte (drop (suc (first_place byte t)) t) → FirstPart byte (b ∷ t)
unfolding first_place parts
first_byte byte b t e = go (eqb b byte)
  where
    go : (is : Bool) → cond is ([] ∷ parts byte t) (longer b (parts byte t)) ≡ take (cond is zero (suc (first_place byte t))) (b ∷ t) ∷ parts byte (drop (suc (cond is zero (suc (first_place byte t)))) (b ∷ t))
    go true = refl
    go false = e

first_part : (byte b : ℕ) (t : List ℕ) → FirstPart byte (b ∷ t)
unfolding first_place parts longer
first_part byte b [] = first_byte byte b [] refl
first_part byte b (c ∷ u) = first_byte byte b (c ∷ u) (ap (longer b) (first_part byte c u))

length-zero : (l : List ℕ) → length l ≡ 0 → l ≡ []
length-zero [] e = refl
length-zero (b ∷ t) e = absurd (omega arith)

-- what the setting of a text's numbers knows where so much of the text is left, with i numbers set
pub record Filling (table₀ text table rest : List ℕ) (i : ℕ) : Type 0 where
  pub few : i + length rest ≤ length text
  pub size : length table ≡ length table₀
  pub count : length (parts 32 text) ≡ i + length (parts 32 rest)
  pub same : set_numbers table₀ 0 (parts 32 text) ≡ set_numbers table i (parts 32 rest)

pub fill_start : (table text : List ℕ) → Filling table text table text 0
fill_start table text = record { few = omega arith; size = refl; count = omega arith; same = refl }

module _ {table₀ text table rest : List ℕ} {i : ℕ} (w : Filling table₀ text table rest i) where
  pub count_end : length rest ≡ 0 → i ≡ length (parts 32 text)
  unfolding parts
  count_end z = let e = length-zero rest z in sym (w.count ∙ rw (e, add-zero))

  pub table_end : length rest ≡ 0 → table ≡ set_numbers table₀ 0 (parts 32 text)
  unfolding parts set_numbers
  table_end z = let e = length-zero rest z in sym (w.same ∙ rw e)

module _ (table₀ text table : List ℕ) (i : ℕ) where
  fill_on : (rest : List ℕ) → Filling table₀ text table rest i → (rest ≡ [] → ⊥) → (part : List ℕ) → part ≡ take (first_place 32 rest) rest → (after : List ℕ) → after ≡ drop (first_place 32 rest + 1) rest → (v : ℕ) → v ≡ saturating_decimal 0 part % 4294967296 → (into : List ℕ) → into ≡ set table i v → Filling table₀ text into after (i + 1)
  unfolding set_numbers
  fill_on [] w n part p after q v e into d = absurd (n refl)
  fill_on (b ∷ t) w n part p after q v e into d =
      let f : parts 32 (b ∷ t) ≡ part ∷ parts 32 after = first_part 32 b t ∙ rw (p, q, add-one) in
      record {
        few = omega (arith, w.few, ap length q, length-drop (first_place 32 (b ∷ t) + 1) (b ∷ t));
        size = ap length d ∙ simp length-set w.size;
        count = w.count ∙ rw f (omega arith);
        same = w.same ∙ rw (f, d, e);
      }

  pub fill_next : (rest : List ℕ) → Filling table₀ text table rest i → 0 < length rest → (part : List ℕ) → part ≡ take (first_place 32 rest) rest → (after : List ℕ) → after ≡ drop (first_place 32 rest + 1) rest → (v : ℕ) → v ≡ saturating_decimal 0 part % 4294967296 → (into : List ℕ) → into ≡ set table i v → Filling table₀ text into after (i + 1)
  fill_next rest w l = fill_on rest w (λ e. let z : length rest ≡ 0 = ap length e in omega arith)
