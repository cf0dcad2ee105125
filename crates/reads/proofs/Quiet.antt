-- Rows that do nothing with the local by themselves: the pass goes on to the next row at once. That the first mention is the same from
-- the first other row on is shown by induction over how many rows are passed over.
use Prim.Native.Nat.{ℕ, zero, suc, ◌+◌, ◌-◌, ◌≤◌, ◌<◌}
use mathlib.Core.Path.{◌≡◌, refl, sym, ap, ◌∙◌}
use mathlib.Core.Bool.{Bool, true, false, not}
use mathlib.Core.List.{List}
use mathlib.Core.Logic.{◌⊎◌, inl, inr}
use native.Mathlib.Omega.{arith}
use lib.Dec.{ltb, eqb}
use borrow.Author.Rules.{rules}
use borrow.Author.Tests.{ltb-true, ltb-false, eqb-true, eqb-false, ne_eqb, not-true, not-false}
use Rattle.table.specs.Rows.{kind_at, side_at, end_at, tree, Nested}
use Rattle.table.proofs.Ranges.{later, ends_within, children}
use Rattle.table.proofs.Tree.{tree_none, tree_some}
use Rattle.kinds.specs.declared.ExprClass.{ExprClass}
use Rattle.kinds.specs.declared.ExprClass.TheVariants.{Ident, Call, Lident}
use Rattle.kinds.specs.Named.{expr_class}
use Rattle.kinds.proofs.Named.{ident_is, call_is, lident_is, unary_is, binary_is, ternary_is, paren_is, other_is}
use Rattle.reads.specs.declared.Role.TheVariants.{ByPath, ByContent}
use Rattle.reads.specs.declared.Iff.{Iff}
use Rattle.reads.specs.declared.Iff.TheVariants.{Skipped, Included}
use Rattle.reads.specs.PathRows.{is_named, begins}
use Rattle.reads.specs.Mentions.{role_of, mentions_by, has_iff, skips_iff, refers, mention_in}
use Rattle.reads.specs.Steps.{Quiet, AllQuiet, AfterQuiet}
use Rattle.reads.proofs.Scan.{mention_none, mention_row, nowhere_refers, next_nested}

-- a path that begins with the local has its first segment two rows after the row that has the path
segment_other : (x : ℕ) {rows : List ℕ} {from to : ℕ} → Nested rows from to → (b : Bool) → ltb from to ≡ b → (from < to → side_at rows from ≡ x → ⊥) → is_named x (tree rows from to) ≡ false
unfolding is_named
segment_other x {rows} {from} {to} g true q n = let h : from < to = ltb-true from to q in rw (tree_some g h) (ne_eqb (side_at rows from) x (n h))
segment_other x {rows} {from} {to} g false q n = rw (tree_none rows from to (ltb-false from to q))

path_other : (x : ℕ) {rows : List ℕ} {from to : ℕ} → Nested rows from to → (b : Bool) → ltb from to ≡ b → (from + 1 < to → side_at rows (from + 1) ≡ x → ⊥) → begins x (tree rows from to) ≡ false
unfolding begins
path_other x {rows} {from} {to} g true q n =
    let h : from < to = ltb-true from to q in
    rw (tree_some g h) (segment_other x (children g h) (ltb (from + 1) (end_at rows from)) refl (λ l. n (omega (arith, ends_within g h))))
path_other x {rows} {from} {to} g false q n = rw (tree_none rows from to (ltb-false from to q))

-- every kind but the four that a row refers by, and the one that has an iff
module _ (k : ℕ) (event : k ≡ 7 → ⊥) (ident : k ≡ 41 → ⊥) (call : k ≡ 54 → ⊥) (opaque : k ≡ 59 → ⊥) (lident : k ≡ 60 → ⊥) where
  content : role_of (expr_class k) ≡ ByContent
  content = go (eqb k 42) (eqb k 43) (eqb k 44) (eqb k 55) refl refl refl refl
    where
      go : (a b c d : Bool) → eqb k 42 ≡ a → eqb k 43 ≡ b → eqb k 44 ≡ c → eqb k 55 ≡ d → role_of (expr_class k) ≡ ByContent
      go true b c d p q r s = ap role_of (sym (unary_is k (eqb-true k 42 p)))
      go false true c d p q r s = ap role_of (sym (binary_is k (eqb-true k 43 q)))
      go false false true d p q r s = ap role_of (sym (ternary_is k (eqb-true k 44 r)))
      go false false false true p q r s = ap role_of (sym (paren_is k (eqb-true k 55 s)))
      go false false false false p q r s = ap role_of (sym (other_is k event ident (eqb-false k 42 p) (eqb-false k 43 q) (eqb-false k 44 r) call (eqb-false k 55 s) opaque lident))

-- is_quiet_call and is_quiet, by the kind that they found
module _ (x : ℕ) (rows : List ℕ) (i : ℕ) where
  by_content : role_of (expr_class (kind_at rows i)) ≡ ByContent → Quiet x rows i
  by_content e = record {
    unmentioning = ap (λ ρ. mentions_by ρ (begins x (tree rows (i + 1) (end_at rows i)))) e;
    eventless = ap has_iff e;
    unwriting = λ c s. let z : ◌≡◌ {A = ℕ} 0 1 = cc (ap role_of c) in absurd (omega arith);
  }

  module _ (k : ℕ) (e : k ≡ kind_at rows i) where
    pub quiet_before : k < 41 → not (eqb k 7) ≡ true → Quiet x rows i
    quiet_before h n =
        by_content (ap (λ j. role_of (expr_class j)) (sym e) ∙ content k (eqb-false k 7 (not-true (eqb k 7) n)) (λ q. omega arith) (λ q. omega arith) (λ q. omega arith) (λ q. omega arith))

    pub quiet_after : 41 ≤ k → ((k ≡ 41) ⊎ (k ≡ 60) → ⊥) → (k ≡ 54 → ⊥) → (k ≡ 59 → ⊥) → true ≡ true → Quiet x rows i
    quiet_after h path call opaque t = by_content (ap (λ j. role_of (expr_class j)) (sym e) ∙ content k (λ q. omega arith) (λ q. path (inl q)) call opaque (λ q. path (inr q)))

  module _ (from to : ℕ) (b : Bool) (g : Nested rows from to) (a : from ≤ i) (h : i < to) (segment : ℕ) (two : i + 2 ≡ segment) (n : b ≡ true → segment < to → side_at rows segment ≡ x → ⊥) where
    by_path : (c : ExprClass) → c ≡ expr_class (kind_at rows i) → role_of c ≡ ByPath → (c ≡ Call → side_at rows i ≡ 1 → ⊥) → b ≡ true → Quiet x rows i
    by_path c e role w t =
        let one : i + 1 + 1 ≡ segment = omega arith in
        let headless : begins x (tree rows (i + 1) (end_at rows i)) ≡ false = path_other x (children (later g i a (omega arith)) h) (ltb (i + 1) (end_at rows i)) refl (λ l. rw one (n t (omega (arith, ends_within (later g i a (omega arith)) h)))) in
        record {
          unmentioning = rw (← e, role, headless);
          eventless = rw (← e, role);
          unwriting = λ q. w (e ∙ q);
        }

    pub quiet_path : (k : ℕ) → k ≡ kind_at rows i → (k ≡ 41) ⊎ (k ≡ 60) → b ≡ true → Quiet x rows i
    quiet_path k e (inl v) = by_path Ident (rw (← e) (ident_is k v)) refl (λ c s. let z : ◌≡◌ {A = ℕ} 0 1 = cc in absurd (omega arith))
    quiet_path k e (inr v) = by_path Lident (rw (← e) (lident_is k v)) refl (λ c s. let z : ◌≡◌ {A = ℕ} 0 1 = cc in absurd (omega arith))

  pub quiet_call : (from to : ℕ) (b : Bool) → Nested rows from to → from ≤ i → i < to → (b ≡ true → i + 2 < to → side_at rows (i + 2) ≡ x → ⊥) → (s : ℕ) → kind_at rows i ≡ 54 → s ≡ side_at rows i → (s ≡ 1 → ⊥) → b ≡ true → Quiet x rows i
  quiet_call from to b g a h n s e v m = by_path from to b g a h (i + 2) refl n Call (call_is (kind_at rows i) e) refl (λ c w. m (v ∙ w))

pub ruleset quiet_answers = (quiet_before, quiet_after, quiet_path, quiet_call)

-- after_quiet: its loop
pub quiet_start : (x : ℕ) (rows : List ℕ) (i to : ℕ) → Nested rows i to → AfterQuiet x rows i to i
quiet_start x rows i to g = record { after = omega arith; within = g.ordered; nested = g; quiet = λ j p q. absurd (omega arith) }

pub quiet_next : (x : ℕ) (rows : List ℕ) (i to next : ℕ) (b : Bool)
    → AfterQuiet x rows i to next
    → next < to
    → (b ≡ true → Quiet x rows next)
    → not b ≡ false
    → AfterQuiet x rows i to (next + 1)
quiet_next x rows i to next b w h t n = record {
  after = omega (arith, w.after);
  within = omega arith;
  nested = next_nested w.nested h;
  quiet = λ j p q. go j p q (ltb j next) refl;
}
  where
    go : (j : ℕ) → i ≤ j → j < next + 1 → (l : Bool) → ltb j next ≡ l → Quiet x rows j
    go j p q true e = w.quiet j p (ltb-true j next e)
    go j p q false e = let v : j ≡ next = omega (arith, ltb-false j next e) in rw v (t (not-false b n))

pub ruleset quiet_loop = (rules, quiet_start, quiet_next)

-- the first mention is the same from the first row on that is not passed over
skips_none : (iff : Iff) (k : ExprClass) → has_iff (role_of k) ≡ false → skips_iff iff k ≡ false
skips_none Skipped k e = e
skips_none Included k e = refl

quiet_by : (n : ℕ) (iff : Iff) (x : ℕ) {rows : List ℕ} {i to : ℕ} (r : ℕ) → r - i ≤ n → Nested rows i to → i ≤ r → r ≤ to → AllQuiet x rows i r → mention_in iff x rows i to ≡ mention_in iff x rows r to
quiet_by zero iff x {rows} {i} {to} r b g a w q = let e : i ≡ r = omega arith in rw e
quiet_by (suc n) iff x {rows} {i} {to} r b g a w q = go (ltb i r) refl (λ h. quiet_by n iff x r (omega arith) (next_nested g (omega arith)) (omega arith) w (λ j p. q j (omega arith)))
  where
    go : (l : Bool) → ltb i r ≡ l → (i < r → mention_in iff x rows (i + 1) to ≡ mention_in iff x rows r to) → mention_in iff x rows i to ≡ mention_in iff x rows r to
    go true e ih =
        let h : i < r = ltb-true i r e in
        let here : Quiet x rows i = q i (omega arith) h in
        mention_row iff x g (omega arith) here.unmentioning (skips_none iff (expr_class (kind_at rows i)) here.eventless) ∙ ih h
    go false e ih = let v : i ≡ r = omega (arith, ltb-false i r e) in rw v

pub quiet_same : (iff : Iff) (x : ℕ) {rows : List ℕ} {i to r : ℕ} → Nested rows i to → AfterQuiet x rows i to r → mention_in iff x rows i to ≡ mention_in iff x rows r to
quiet_same iff x {i = i} {r = r} g w = quiet_by (r - i) iff x r (omega arith) g w.after w.within w.quiet

-- rows that are all quiet do not refer
pub quiet_clear : (iff : Iff) (x : ℕ) {rows : List ℕ} {from to : ℕ} → Nested rows from to → AllQuiet x rows from to → refers iff x (tree rows from to) ≡ false
quiet_clear iff x {rows} {from} {to} g q =
    nowhere_refers iff x rows from to (quiet_by (to - from) iff x to (omega arith) g g.ordered (omega arith) q ∙ mention_none iff x rows to to (omega arith))
