-- What the functions answer, from what stands in the code where they return; what a pass over all rows comes to is told by Gather. What
-- the yes of `stmt_cannot_escape` means, and the arms of the Rust, are cited. Nothing recurses here.
use Prim.Native.Nat.{ℕ, ◌-◌, ◌<◌}
use mathlib.Core.Path.{◌≡◌, refl, sym, ap, ◌∙◌}
use mathlib.Core.Bool.{Bool, true, false, ◌&&◌, ◌||◌, not}
use mathlib.Core.List.{List}
use native.Mathlib.Omega.{arith}
use lib.Dec.{eqb, leb}
use borrow.Author.Tests.{eqb-true}
use Rattle.table.specs.Rows.{kind_at, side_at, end_at, tree, Nested}
use Rattle.table.specs.Fold.{Alg, fold, nth}
use Rattle.table.proofs.Fold.{fold_none, fold_some, fold_step}
use Rattle.kinds.specs.Kinds.{kinds, S, entry, class_number, of_class, is_kind, in_class}
use Rattle.kinds.specs.Words.{same, place_from, kind_of}
use Rattle.kinds.specs.Named.{kind_number, numbered, stmt_class}
use Rattle.kinds.proofs.Below.{both_true}
use Rattle.checks.specs.Checks.{kind_alone}
use Rattle.loops.specs.Escape.{transfers, cannot_escape_at, cannot_escape, stmt_cannot_escape, EscapeTold}
use Rattle.loops.specs.Time.{waiting_words, is_one_of, lets_time_pass, advances_at, advances_time, stmt_advances_time, TimeTold}
use Rattle.loops.proofs.Gather.{Gather, by_and, by_or, flat_numbers}
use Rattle.std.specs.List.{range_with_len, list_all, list_any}
use Rattle.loops.proofs.Places.{class_of, Told, Rows, no_further_row, row}
use Rattle.loops.proofs.Staying.{never_jumps, stay_first}
use Rattle.loops.proofs.EscapeArms.{arms_escape}
use Rattle.loops.proofs.TimeArms.{fair, arms_time}

-- lets_time_pass, by the words' numbers
abbrev by_number : ℕ → ℕ → Bool
by_number k s = (eqb k 3 || (eqb k 4 || (eqb k 25 || (eqb k 26 || (eqb k 28 || (eqb k 30 || false)))))) || (eqb k 23 && leb 4 s)

pub time_numbers : (k s : ℕ) → lets_time_pass k s ≡ by_number k s
unfolding lets_time_pass is_one_of waiting_words numbered kind_number kind_of place_from kinds same
time_numbers k s = refl

-- the passes over the rows of a range
pub escape_all : {rows : List ℕ} {from to : ℕ} {r : Bool}
    → Nested rows from to
    → r ≡ list_all (λ i. not (transfers (stmt_class (kind_at rows i)))) (range_with_len from (to - from))
    → r ≡ cannot_escape (tree rows from to)
unfolding cannot_escape cannot_escape_at
escape_all {rows} {from} {to} g e = e ∙ flat_numbers by_and (λ k s cs. not (transfers (stmt_class k))) (list_all (λ i. not (transfers (stmt_class (kind_at rows i))))) refl (λ i is. refl) (to - from) refl g

pub time_any : {rows : List ℕ} {from to : ℕ} {r : Bool}
    → Nested rows from to
    → r ≡ list_any (λ i. lets_time_pass (kind_at rows i) (side_at rows i)) (range_with_len from (to - from))
    → r ≡ advances_time (tree rows from to)
unfolding advances_time advances_at
time_any {rows} {from} {to} g e = e ∙ flat_numbers by_or (λ k s cs. lets_time_pass k s) (list_any (λ i. lets_time_pass (kind_at rows i) (side_at rows i))) refl (λ i is. refl) (to - from) refl g

-- a row alone: the answers of the range are the row's
module _ {rows : List ℕ} {from to : ℕ} (g : Nested rows from to) (h : from < to) (e : to ≡ end_at rows from) where
  alone_is : (a : Gather) (alg : Alg Bool) → a.all (fold alg (tree rows from to)) ≡ nth a.unit 0 (fold alg (tree rows from to))
  alone_is a alg =
      let b = nth a.unit 0 (fold alg (tree rows from to)) in
      ap a.all (fold_step alg a.unit g h e)
      ∙ a.more b (fold alg (tree rows to to))
      ∙ rw (fold_none alg rows to to (omega arith), a.none) (a.right b)

first_same : {unit : Bool} {quiet fair : ℕ → Bool} {ks : List ℕ} {bs ds : List Bool}
    → Rows (Told unit quiet fair) ks bs ds
    → fair (class_of (nth 0 0 ks)) ≡ true
    → nth unit 0 bs ≡ nth unit 0 ds
first_same no_further_row e = refl
first_same (row w ws) e = w.same e

-- what the answers mean
pub escape_told : {rows : List ℕ} {from to : ℕ} {r : Bool}
    → Nested rows from to
    → r ≡ cannot_escape (tree rows from to)
    → EscapeTold rows from to r
unfolding cannot_escape stmt_cannot_escape
escape_told {rows} {from} {to} g q =
    record { stays = λ y sem x marks t o. never_jumps t o (stay_first sem x marks (tree rows from to) (sym q ∙ y)); arms = λ f h e. q ∙ alone_is g h e by_and cannot_escape_at ∙ ap (nth true 0) (arms_escape (tree rows from to) f) }

stmt_fair : (k : ℕ) → in_class S k ≡ true → fair (class_of k) ≡ true
unfolding in_class of_class class_number
stmt_fair k e = rw (eqb-true (class_of k) 9 (both_true (is_kind k) (of_class S (entry k)) e).1)

pub time_told : {rows : List ℕ} {from to : ℕ} {r : Bool}
    → Nested rows from to
    → r ≡ advances_time (tree rows from to)
    → TimeTold rows from to r
unfolding advances_time stmt_advances_time kind_alone
time_told {rows} {from} {to} g q = record {
  arms = λ f h e s.
      q
      ∙ alone_is g h e by_or advances_at
      ∙ first_same (arms_time (tree rows from to) f) (rw (fold_some kind_alone g h) (stmt_fair (kind_at rows from) s));
}
