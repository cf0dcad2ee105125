-- A row's fields, as the code meets them; and the loop of `refuse`: the first wrong field from the refused row on, else that row.
use Rattle.std.specs.Prelude.{Ok, Err}
use Prim.Native.Nat.{ℕ, ◌+◌, ◌*◌, ◌≤◌, ◌<◌}
use mathlib.Core.Path.{◌≡◌, sym, ◌∙◌}
use mathlib.Core.Bool.{Bool, true, false, cond, not}
use mathlib.Core.List.{List, map}
use lib.ListN.{length, get_or}
use borrow.Author.Tests.{lt-ltb, le-ltb, not-true, not-false}
use Rattle.table.specs.Rows.{kind_at, side_at}
use Rattle.kinds.specs.declared.Kind.{Kind}
use Rattle.kinds.specs.Kinds.{kinds, entry, is_kind, side_fits}
use Rattle.kinds.specs.Steps.{numbers, side_below}
use Rattle.kinds.proofs.Numbers.{entry_sides, entry_items}
use Rattle.refusals.specs.declared.Refusal.{Refusal}
use Rattle.refusals.specs.declared.Refused.{Refused}
use Rattle.refusals.specs.declared.Refusal.TheVariants.{UnknownKind, WrongSide}
use Rattle.refusals.specs.Refusals.{refused_at}
use Rattle.checks.specs.Checks.{Checked, passed, fields_at}
use Rattle.checks.specs.Steps.{RowRead, refused_of}
use Rattle.checks.proofs.Rows.{Checking, checking_start, checking_done, checking_stop, checking_next}

module _ (rows : List ℕ) (names i k : ℕ) (e : k ≡ kind_at rows i) where
  pub unknown_told : 66 ≤ k → fields_at rows names i ≡ refused_at UnknownKind i
  unfolding fields_at is_kind
  unknown_told u = rw (← e, le-ltb k 66 u)

  pub read_row : (entries : List Kind) (d : Kind) → 5 * i + 4 < length rows → k < 66 → entries ≡ map numbers kinds → RowRead rows i (get_or entries k d)
  read_row entries d r u t = record { room = r; known = rw (← e) u; sides = rw (← e) (entry_sides entries k d t u); children = rw (← e) (entry_items entries k d t u) }

pub side_told : (rows : List ℕ) (names i : ℕ) (n : Kind)
    → kind_at rows i < 66
    → side_below n.sides names (side_at rows i) ≡ side_fits (entry (kind_at rows i)).sides names (side_at rows i)
    → fields_at rows names i ≡ cond (side_below n.sides names (side_at rows i)) passed (refused_at WrongSide i)
unfolding fields_at is_kind
side_told rows names i n u t = rw (lt-ltb (kind_at rows i) 66 u, t)

-- what `check_fields` answers of row i
module _ (rows : List ℕ) (names i k : ℕ) (e : k ≡ kind_at rows i) where
  pub fields_unknown : 66 ≤ k → refused_at UnknownKind i ≡ fields_at rows names i
  fields_unknown u = sym (unknown_told rows names i k e u)

  module _ (entries : List Kind) (d : Kind) (side : ℕ) (r : Bool) (u : k < 66) (t : entries ≡ map numbers kinds) (s : side ≡ side_at rows i) (q : r ≡ side_below (get_or entries k d).sides names side) where
    told : fields_at rows names i ≡ cond r passed (refused_at WrongSide i)
    told = side_told rows names i (get_or entries k d) (rw (← e) u) (rw (← e) (entry_sides entries k d t u names (side_at rows i))) ∙ rw (← s, ← q)

    pub fields_side : not r ≡ true → refused_at WrongSide i ≡ fields_at rows names i
    fields_side n = sym (told ∙ rw (not-true r n))

    pub fields_right : not r ≡ false → passed ≡ fields_at rows names i
    fields_right n = sym (told ∙ rw (not-false r n))

pub ruleset fields_told = (fields_unknown, fields_side, fields_right)

-- the loop of `refuse` has come to row i
module _ (rows : List ℕ) (names count row i : ℕ) (w : Checking (fields_at rows names) count row i) where
  module _ (h : i < count) (c : Checked) (t : c ≡ fields_at rows names i) where
    pub refuse_found : (why : Refusal) (e : Refused) → c ≡ Err e → Err e ≡ refused_of rows count names row why
    unfolding refused_of
    refuse_found why e q = rw (checking_stop w h e.refusal e.place (sym t ∙ q))

    pub refuse_next : (u : Unit {0}) → c ≡ Ok u → Checking (fields_at rows names) count row (i + 1)
    refuse_next u q = checking_next w h (sym t ∙ q)

  pub refuse_end : count ≤ i → (why : Refusal) → refused_at why row ≡ refused_of rows count names row why
  unfolding refused_of
  refuse_end h why = rw (checking_done w h)

pub ruleset refusing = (checking_start, refuse_found, refuse_next, refuse_end)
