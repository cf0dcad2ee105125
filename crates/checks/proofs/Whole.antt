-- Where the loop ends, and row 0. Every row was seen and none is open: the fields and ends are right, so the ends nest, what is known of the children
-- holds, and the first row found is the first whose children do not fit.
use Prim.Native.Nat.{ℕ, ◌≤◌, ◌<◌}
use mathlib.Core.Path.{◌≡◌, refl, sym, ◌∙◌}
use mathlib.Core.Bool.{Bool, true, false, cond, not, ◌&&◌}
use mathlib.Core.List.{List, map}
use native.Mathlib.Omega.{arith}
use lib.ListN.{length, get_or}
use lib.Dec.{eqb, leb}
use borrow.Author.Tests.{lt-ltb, leb-true, leb-false, eq-eqb, ne_eqb, not-true, not-false}
use Rattle.table.specs.Rows.{kind_at, end_at}
use Rattle.kinds.specs.declared.Kind.{Kind}
use Rattle.kinds.specs.Kinds.{S, kinds, is_kind, in_class}
use Rattle.kinds.specs.Steps.{numbers}
use Rattle.refusals.specs.declared.Refusal.{Refusal}
use Rattle.refusals.specs.declared.Refusal.TheVariants.{WrongEnd, WrongChildren, WrongRecord}
use Rattle.checks.specs.Checks.{Checked}
use Rattle.refusals.specs.Refusals.{refused_at}
use Rattle.checks.specs.Checks.{passed}
use Rattle.checks.specs.Checks.{holds, and_then, first_from, when_held, fields_at, fields_of, ends_before, above, enclosing, end_fits, ends_at, ends_of, children_fit, children_at, root_at, checked_rows}
use Rattle.checks.specs.Steps.{Held, RowRead, RowTold, refused_of, root_found, alone_at, Started}
use Rattle.checks.proofs.Rows.{checking_stop, from_zero, checking_upto, both_pass, pass_all}
use Rattle.checks.proofs.Room.{held_facts_lem}
use Rattle.checks.proofs.FieldLaws.{read_row}
use Rattle.checks.proofs.Nest.{ends_passed, root_depth}
use Rattle.checks.proofs.Passed.{fields_at_lem}
use Rattle.checks.proofs.OneRow.{RefusedFor, Bounds, fields_all, ends_all, unknown_refused, row_wrong, row_right, refused_checked}
use Rattle.checks.proofs.Known.{Known, Seen, still, right, later}
use Rattle.checks.proofs.Walking.{Walking, walking_start, walking_end, row_held, row_falls, walking_unknown, walking_read, walking_wrong, walking_deep, walking_next}

module _ (rows : List ℕ) (count names : ℕ) (ends left own : List ℕ) (row depth first : ℕ) (w : Walking rows count names (root_found count (kind_at rows 0)) ends left own row depth first) (z : depth ≤ 0) where
  abbrev start : ℕ
  start = root_found count (kind_at rows 0)

  seen_all : row ≡ count
  seen_all = walking_end rows count names start ends left own row depth first w z

  both_right : (i : ℕ) → i < count → (fields_at rows names i ≡ passed) × (ends_at rows count i ≡ passed)
  unfolding alone_at
  both_right i h = both_pass (fields_at rows names i) (ends_at rows count i) (w.right i (omega (arith, seen_all)))

  fields_right : fields_of rows count names ≡ passed
  fields_right = fields_all rows count names w.held ∙ pass_all (fields_at rows names) count (λ i h. (both_right i h).0)

  ends_right : ends_of rows count ≡ passed
  ends_right = ends_all rows count names w.held ∙ pass_all (ends_at rows count) count (λ i h. (both_right i h).1)

  all_known : Known rows (root_found count (kind_at rows 0)) ends left own 0 row row first
  all_known = let e : depth ≡ 0 = omega arith in rw e at (w.known (ends_passed rows count passed (sym ends_right) refl).nested)

  child_told : (i : ℕ) → i < count → children_at rows i ≡ cond (children_fit rows i) passed (refused_at WrongChildren i)
  unfolding children_at is_kind
  child_told i h = rw (lt-ltb (kind_at rows i) 66 (fields_at_lem rows names i (both_right i h).0).0)

  right_before : (i : ℕ) → i < count → i < first → children_at rows i ≡ passed
  right_before i a b = child_told i a ∙ go (all_known.seen i (omega (arith, seen_all)))
    where
      go : Seen rows first own 0 i → cond (children_fit rows i) passed (refused_at WrongChildren i) ≡ passed
      go (still j l e) = absurd (omega arith)
      go (right e) = rw e
      go (later l) = absurd (omega arith)

  pub walking_found : first < count → refused_at WrongChildren first ≡ checked_rows rows count names
  unfolding root_at root_found checked_rows
  walking_found h = rw (fields_right, ends_right) (go (in_class S (kind_at rows 0)) refl)
    where
      go : (b : Bool) → in_class S (kind_at rows 0) ≡ b → refused_at WrongChildren first ≡ and_then (cond (in_class S (kind_at rows 0)) passed (refused_at WrongChildren 0)) (first_from (children_at rows) count 0)
      go true q =
          let a : start ≡ count = rw q in
          rw q
          (sym
          (from_zero (children_at rows) count
          ∙ checking_stop (checking_upto (children_at rows) count first (omega arith) (λ i l. right_before i (omega arith) l)) h WrongChildren first (child_told first h ∙ rw (all_known.refused (omega arith)))))
      go false q = let a : start ≡ 0 = rw q in let b : first ≡ 0 = omega (arith, all_known.low) in rw (q, b)

  pub walking_passed : count ≤ first → passed ≡ checked_rows rows count names
  unfolding root_at root_found checked_rows
  walking_passed h = rw (fields_right, ends_right) (go (in_class S (kind_at rows 0)) refl)
    where
      go : (b : Bool) → in_class S (kind_at rows 0) ≡ b → passed ≡ and_then (cond (in_class S (kind_at rows 0)) passed (refused_at WrongChildren 0)) (first_from (children_at rows) count 0)
      go true q = rw q (sym (pass_all (children_at rows) count (λ i l. right_before i l (omega arith))))
      go false q = let a : start ≡ 0 = rw q in absurd (omega (arith, all_known.low, w.held.some))

pub ruleset walking = (walking_start, row_held, row_falls, walking_unknown, walking_read, walking_wrong, walking_deep, walking_next, walking_found, walking_passed)

-- where the search starts
module _ (count kind : ℕ) (b : Bool) (q : b ≡ in_class S kind) where
  pub found_past : b ≡ true → count ≡ root_found count kind
  unfolding root_found
  found_past y = rw (← q, y)

  pub found_root : b ≡ false → 0 ≡ root_found count kind
  unfolding root_found
  found_root n = rw (← q, n)

pub ruleset finding = (found_past, found_root)

-- row 0 must end at the count
equal_both : (a b : ℕ) → eqb a b ≡ (leb b a && leb a b)
equal_both a b = go (leb b a) (leb a b) refl refl
  where
    go : (x y : Bool) → leb b a ≡ x → leb a b ≡ y → eqb a b ≡ (x && y)
    go true true p q = eq-eqb a b (omega (arith, leb-true b a p, leb-true a b q))
    go true false p q = ne_eqb a b (λ e. omega (arith, leb-false a b q))
    go false y p q = ne_eqb a b (λ e. omega (arith, leb-false b a p))

root_bounds : (rows : List ℕ) (count : ℕ) → Bounds rows count 0 count count 0
unfolding end_fits enclosing ends_before above
root_bounds rows count = record { fits = equal_both (end_at rows 0) count; deep = root_depth rows }

module _ (rows : List ℕ) (count names : ℕ) (b : Bool) (e : b ≡ holds rows count) where
  pub root_unheld : not b ≡ true → refused_at WrongRecord 0 ≡ checked_rows rows count names
  unfolding when_held checked_rows
  root_unheld n = rw (← e, not-true b n)

  module _ (n : not b ≡ false) where
    pub root_held : Held rows count
    root_held = held_facts_lem rows count (sym e ∙ not-false b n)

    pub root_room : 4 < length rows
    root_room = omega (arith, root_held.some, root_held.room)

    refused : (why : Refusal) (out : Checked) → RefusedFor rows count names 0 why → out ≡ refused_of rows count names 0 why → out ≡ checked_rows rows count names
    refused why out t o = refused_checked rows count names root_held 0 root_held.some (λ i l. absurd (omega arith)) why out t o

    module _ (k : ℕ) (i : k ≡ kind_at rows 0) where
      pub root_unknown : (out : Checked) → 66 ≤ k → out ≡ refused_of rows count names 0 WrongEnd → out ≡ checked_rows rows count names
      root_unknown out m o = refused WrongEnd out (unknown_refused rows count names 0 k i m) o

      pub root_read : (entries : List Kind) (d : Kind) → k < 66 → entries ≡ map numbers kinds → RowRead rows 0 (get_or entries k d)
      root_read entries d m t = read_row rows names 0 k i entries d root_room m t

    module _ (numbers : Kind) (r : Bool) (q : RowTold rows names 0 numbers count count r) where
      pub root_wrong : (out : Checked) → not r ≡ true → out ≡ refused_of rows count names 0 WrongEnd → out ≡ checked_rows rows count names
      root_wrong out z o = refused WrongEnd out (row_wrong rows count names 0 numbers count count 0 (root_bounds rows count) r q (not-true r z)) o

      pub root_started : (k start : ℕ) → k ≡ kind_at rows 0 → not r ≡ false → start ≡ root_found count k → Started rows count names numbers.children start
      root_started k start i z o = record {
        held = root_held;
        right = row_right rows count names 0 numbers count count 0 (root_bounds rows count) r q (not-false r z) (omega arith);
        children = q.read.children;
        begin = rw (← i) o;
      }

pub ruleset root = (root_unheld, root_held, root_room, root_unknown, root_read, root_wrong, root_started)
