-- A table that holds its rows, as a test and as facts.
use Prim.Native.Nat.{ℕ, ◌*◌, ◌≤◌, ◌<◌}
use mathlib.Core.Path.{◌≡◌, refl}
use mathlib.Core.Bool.{Bool, true, false, cond}
use mathlib.Core.List.{List}
use lib.ListN.{length}
use lib.Dec.{leb}
use borrow.Author.Tests.{leb-true, le-leb, lt-leb}
use Rattle.kinds.proofs.Below.{both_true}
use Rattle.checks.specs.Checks.{Checked}
use Rattle.refusals.specs.Refusals.{refused_at}
use Rattle.checks.specs.Checks.{passed}
use Rattle.refusals.specs.declared.Refusal.TheVariants.{WrongRecord}
use Rattle.checks.specs.Checks.{holds, when_held}
use Rattle.checks.specs.Steps.{Held}
use Rattle.checks.proofs.Rows.{never}

pub held_facts_lem : (rows : List ℕ) (count : ℕ) → holds rows count ≡ true → Held rows count
unfolding holds
held_facts_lem rows count e =
    let a = both_true (leb 1 count) _ e in
    let b = both_true (leb count 2000) _ a.1 in
    record { some = leb-true 1 count a.0; few = leb-true count 2000 b.0; room = leb-true (5 * count) (length rows) b.1 }

pub holds_true : (rows : List ℕ) (count : ℕ) → Held rows count → holds rows count ≡ true
unfolding holds
holds_true rows count h = rw (le-leb 1 count h.some, le-leb count 2000 h.few, le-leb (5 * count) (length rows) h.room)

module _ (rows : List ℕ) (count : ℕ) where
  pub holds_none : count < 1 → false ≡ holds rows count
  unfolding holds
  holds_none h = rw (lt-leb 1 count h)

  pub holds_many : 1 ≤ count → 2000 < count → false ≡ holds rows count
  unfolding holds
  holds_many l h = rw (le-leb 1 count l, lt-leb count 2000 h)

  pub holds_room : 1 ≤ count → count ≤ 2000 → leb (5 * count) (length rows) ≡ holds rows count
  unfolding holds
  holds_room l h = rw (le-leb 1 count l, le-leb count 2000 h)

pub ruleset answers = (holds_none, holds_many, holds_room)

-- a check that passed read a table that holds its rows, and found nothing
module _ (rows : List ℕ) (count : ℕ) (found : Checked) (e : when_held rows count found ≡ passed) where
  told : holds rows count ≡ true
  unfolding when_held
  told = go (holds rows count) e
    where
      go : (b : Bool) → cond b found (refused_at WrongRecord 0) ≡ passed → b ≡ true
      go true p = refl
      go false p = never p

  pub passed_held : Held rows count
  passed_held = held_facts_lem rows count told

  pub passed_found : found ≡ passed
  unfolding when_held
  passed_found = rw told at e
