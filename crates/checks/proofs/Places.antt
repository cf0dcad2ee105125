-- Where a check refuses: at a row of the table, and with which numbers. Each test tells its own row, so the first refusal of rows tells one of them;
-- the rows left fall.
use Rattle.std.specs.Prelude.{Ok, Err}
use Prim.Native.Nat.{ℕ, zero, suc, ◌+◌, ◌≤◌, ◌<◌}
use mathlib.Core.Path.{◌≡◌, refl, sym, ap, subst, ◌∙◌}
use mathlib.Core.Bool.{Bool, true, false, cond, ◌&&◌}
use mathlib.Core.List.{List}
use native.Mathlib.Omega.{arith}
use lib.Dec.{leb}
use Rattle.table.specs.Rows.{kind_at, side_at, end_at}
use Rattle.kinds.specs.Kinds.{S, entry, is_kind, in_class, side_fits}
use Rattle.kinds.proofs.Below.{true_not_false}
use Rattle.refusals.specs.declared.Refusal.{Refusal}
use Rattle.refusals.specs.declared.Refused.{Refused}
use Rattle.refusals.specs.Refusals.{refusal_number}
use Rattle.refusals.specs.declared.Refusal.TheVariants.{WrongRecord, UnknownKind, WrongSide, WrongEnd, TooDeep, WrongChildren}
use Rattle.checks.specs.Checks.{Checked}
use Rattle.refusals.specs.Refusals.{refused_at}
use Rattle.checks.specs.Checks.{passed}
use Rattle.checks.specs.Checks.{holds, and_then, first_from, when_held, enclosing, end_fits, depth_at, fields_at, fields_of, ends_at, ends_of, children_fit, children_at, root_at, children_of, checked_rows}
use Rattle.checks.specs.Steps.{Held}
use Rattle.checks.proofs.Room.{held_facts_lem, holds_true, passed_held}

-- a refusal, if there is one, is at a row from low to below high, and its number is at most `most`
pub record Within (low high most : ℕ) (c : Checked) : Type 0 where
  pub row : (refusal : Refusal) (row : ℕ) → c ≡ refused_at refusal row → (low ≤ row) × (row < high)
  pub number : (refusal : Refusal) (row : ℕ) → c ≡ refused_at refusal row → refusal_number refusal ≤ most

passes : {low high most : ℕ} → Within low high most passed
passes = record {
  row = λ refusal row e. absurd (let z : ◌≡◌ {A = ℕ} 0 1 = cc in omega arith);
  number = λ refusal row e. absurd (let z : ◌≡◌ {A = ℕ} 0 1 = cc in omega arith);
}

refuses : {low high most : ℕ} (refusal : Refusal) (row : ℕ) → low ≤ row → row < high → refusal_number refusal ≤ most → Within low high most (refused_at refusal row)
refuses {most = most} refusal row a b c = record {
  row = λ f r e. let z : row ≡ r = ap (λ (x : Refused). x.place) (told f r e) in (omega arith, omega arith);
  number = λ f r e. let z : refusal ≡ f = ap (λ (x : Refused). x.refusal) (told f r e) in subst (λ (g : Refusal). refusal_number g ≤ most) z c;
}
  where
    told : (f : Refusal) (r : ℕ) → ◌≡◌ {A = Checked} (refused_at refusal row) (refused_at f r) → ◌≡◌ {A = Refused} (record { refusal = refusal; place = row }) (record { refusal = f; place = r })
    told f r e = cc

-- a range in a wider one
widen : {low high most : ℕ} {c : Checked} (l h : ℕ) → l ≤ low → high ≤ h → Within low high most c → Within l h most c
widen l h a b w = record { row = λ refusal row e. let p = w.row refusal row e in (omega (arith, p.0), omega (arith, p.1)); number = w.number }

-- one of two, by a test
choice : {low high most : ℕ} {x y : Checked} (b : Bool) → (b ≡ true → Within low high most x) → (b ≡ false → Within low high most y) → Within low high most (cond b x y)
choice true p q = p refl
choice false p q = q refl

-- two checks, the second asked where the first passed
pub both : {low high most : ℕ} {b : Checked} (a : Checked) → Within low high most a → (a ≡ passed → Within low high most b) → Within low high most (and_then a b)
both (Ok u) p q = q refl
both (Err e) p q = p

-- where each row's test refuses at that row only, the first refusal of n rows from row i on is at one of them
first_within : (most : ℕ) (test : ℕ → Checked) (n i : ℕ) → ((k : ℕ) → Within k (k + 1) most (test k)) → Within i (i + n) most (first_from test n i)
unfolding first_from
first_within most test zero i own = passes
first_within most test (suc n) i own =
    both (test i) (widen i (i + suc n) (omega arith) (omega arith) (own i))
    (λ p. widen i (i + suc n) (omega arith) (omega arith) (first_within most test n (i + 1) own))

-- 9 is the largest number of a table that holds its rows, and 22 that of any; its rows are below a number that is not 0
module _ (rows : List ℕ) (count high most : ℕ) (some : 1 ≤ high) (few : holds rows count ≡ true → count ≤ high) (nine : 9 ≤ most) (unheld : holds rows count ≡ false → 22 ≤ most) where
  refused_here : (i : ℕ) (refusal : Refusal) → refusal_number refusal ≤ 9 → Within i (i + 1) most (refused_at refusal i)
  refused_here i refusal h = refuses refusal i (omega arith) (omega arith) (omega arith)

  fields_own : (names i : ℕ) → Within i (i + 1) most (fields_at rows names i)
  unfolding fields_at
  fields_own names i =
      choice (is_kind (kind_at rows i))
      (λ t. choice (side_fits (entry (kind_at rows i)).sides names (side_at rows i)) (λ t. passes) (λ t. refused_here i WrongSide (omega arith)))
      (λ t. refused_here i UnknownKind (omega arith))

  ends_own : (i : ℕ) → Within i (i + 1) most (ends_at rows count i)
  unfolding ends_at
  ends_own i =
      choice (end_fits count i (end_at rows i) (enclosing rows i))
      (λ t. choice (leb (depth_at rows i) 100) (λ t. passes) (λ t. refused_here i TooDeep (omega arith)))
      (λ t. refused_here i WrongEnd (omega arith))

  children_own : (i : ℕ) → Within i (i + 1) most (children_at rows i)
  unfolding children_at
  children_own i = choice (is_kind (kind_at rows i) && children_fit rows i) (λ t. passes) (λ t. refused_here i WrongChildren (omega arith))

  root_within : Within 0 high most (root_at rows)
  unfolding root_at
  root_within = choice (in_class S (kind_at rows 0)) (λ t. passes) (λ t. refuses WrongChildren 0 (omega arith) (omega arith) nine)

  rows_within : (test : ℕ → Checked) → ((i : ℕ) → Within i (i + 1) most (test i)) → holds rows count ≡ true → Within 0 high most (first_from test count 0)
  rows_within test own t = widen 0 high (omega arith) (omega (arith, few t)) (first_within most test count 0 own)

  held_within : (test : ℕ → Checked) → ((i : ℕ) → Within i (i + 1) most (test i)) → Within 0 high most (when_held rows count (first_from test count 0))
  unfolding when_held
  held_within test own = choice (holds rows count) (rows_within test own) (λ t. refuses WrongRecord 0 (omega arith) (omega arith) (unheld t))

  fields_within : (names : ℕ) → Within 0 high most (fields_of rows count names)
  fields_within names = held_within (fields_at rows names) (fields_own names)

  children_within : Within 0 high most (children_of rows count)
  children_within =
      both (ends_of rows count) (held_within (ends_at rows count) ends_own)
      (λ p. both (root_at rows) root_within
      (λ q. rows_within (children_at rows) children_own (holds_true rows count (passed_held rows count _ p))))

  checked_within : (names : ℕ) → Within 0 high most (checked_rows rows count names)
  unfolding checked_rows
  checked_within names = both (fields_of rows count names) (fields_within names) (λ p. children_within)

-- a refusal is at one of at most 2,000 rows, and at row 0 where the table does not hold its rows
pub checked_row : (rows : List ℕ) (count names : ℕ) (r : Checked) (refusal : Refusal) (row : ℕ) → r ≡ checked_rows rows count names → r ≡ refused_at refusal row → row ≤ 2000
checked_row rows count names r refusal row q e =
    omega (arith, ((checked_within rows count 2000 22 (omega arith) (λ t. (held_facts_lem rows count t).few) (omega arith) (λ t. omega arith) names).row refusal row (sym q ∙ e)).1)

-- of a table that holds its rows, a refusal is 5 to 9, at one of its rows
module _ (rows : List ℕ) (count : ℕ) (h : Held rows count) where
  not_unheld : holds rows count ≡ false → 22 ≤ 9
  not_unheld t = true_not_false (sym (holds_true rows count h) ∙ t)

  pub children_place : Within 0 count 9 (children_of rows count)
  children_place = children_within rows count count 9 h.some (λ t. omega arith) (omega arith) not_unheld

  pub checked_place : (names : ℕ) → Within 0 count 9 (checked_rows rows count names)
  checked_place = checked_within rows count count 9 h.some (λ t. omega arith) (omega arith) not_unheld
