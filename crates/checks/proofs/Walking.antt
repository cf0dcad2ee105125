-- The loop over the rows after row 0. The rows before the one come to are right by themselves, and the ends kept are those of the rows that it stands
-- in; where the ends of the whole table nest, the children are known as Known says. The rows that are left fall.
use Prim.Native.Nat.{ℕ, suc, ◌+◌, ◌-◌, ◌*◌, ◌≤◌, ◌<◌}
use mathlib.Core.Path.{◌≡◌, refl, sym, ap, ◌∙◌}
use mathlib.Core.Bool.{Bool, true, false, not}
use mathlib.Core.List.{List, [], ◌∷◌, map}
use mathlib.Core.Logic.{⊎_elim}
use native.Mathlib.Omega.{arith}
use borrow.Author.Tests.{not-true, not-false}
use native.Mathlib.Nat.{eq-or-lt_of_le}
use native.Mathlib.Numerals.{add-one}
use lib.ListN.{length, get_or, set, length-set}
use Rattle.table.specs.Rows.{kind_at, end_at, Nested}
use Rattle.kinds.specs.declared.Kind.{Kind}
use Rattle.kinds.specs.Kinds.{kinds, entry}
use Rattle.kinds.specs.Steps.{numbers, items_number}
use Rattle.refusals.specs.declared.Refusal.{Refusal}
use Rattle.refusals.specs.declared.Refusal.TheVariants.{WrongEnd, TooDeep}
use Rattle.checks.specs.Checks.{Checked}
use Rattle.checks.specs.Checks.{passed}
use Rattle.checks.specs.declared.Progress.{Progress}
use Rattle.checks.specs.Checks.{fields_at, ends_before, above, enclosing, end_fits, depth_at, ends_at, checked_rows}
use Rattle.checks.specs.Steps.{Held, Settles, Takes, Closes, PlacesRow, opens, ends_here, Enters, RowRead, RowTold, refused_of, root_found, alone_at, Started, Rooms, RootPlaced}
use Rattle.checks.proofs.Rows.{both_pass}
use Rattle.checks.proofs.FieldLaws.{read_row}
use Rattle.checks.proofs.Enclosing.{Rises, end_least, end_after, enclosing_same, enclosing_more}
use Rattle.checks.proofs.Nest.{RightEnd, right_end, rises_at, root, within, LastAbove, last_above, none_above}
use Rattle.checks.proofs.Kept.{last_first, top, pushed, last_length, close_down, close_above}
use Rattle.checks.proofs.OneRow.{RefusedFor, Bounds, unknown_refused, row_wrong, row_deep, row_right, refused_checked}
use Rattle.checks.proofs.Known.{Opens, Known, close_known, take_known, open_known, leaf_known}

-- the rows before row n are right by themselves
abbrev pub RightBefore : List ℕ → ℕ → ℕ → ℕ → Type 0
RightBefore rows count names n = (i : ℕ) → i < n → alone_at rows count names i ≡ passed

right_ends : (rows : List ℕ) (count names i : ℕ) → alone_at rows count names i ≡ passed → RightEnd rows count i
unfolding alone_at
right_ends rows count names i p = right_end rows count i (both_pass (fields_at rows names i) (ends_at rows count i) p).1

-- the loop has come to a row
pub record Walking (rows : List ℕ) (count names start : ℕ) (ends left own : List ℕ) (row depth first : ℕ) : Type 0 where
  pub held : Held rows count
  pub rooms : Rooms ends left own
  pub begun : 1 ≤ row
  pub upto : row ≤ count
  pub shallow : depth ≤ 100
  pub right : RightBefore rows count names row
  pub kept : last_first ends depth ≡ enclosing rows row
  pub known : Nested rows 0 count → Known rows start ends left own depth row row first

-- a row that is right by itself, where the row that it stands in has taken it
record Taken (rows : List ℕ) (count names start : ℕ) (ends left own : List ℕ) (row depth end items first : ℕ) : Type 0 where
  held : Held rows count
  rooms : Rooms ends left own
  below : row < count
  shallow : depth < 100
  right : RightBefore rows count names (row + 1)
  kept : last_first ends depth ≡ enclosing rows row
  is : end ≡ end_at rows row
  children : items ≡ items_number (entry (kind_at rows row)).children
  known : Nested rows 0 count → Known rows start ends left own depth row (end_at rows row) first

-- it is placed, and the loop comes to the next row
module _ {rows : List ℕ} {count names start : ℕ} {ends left own : List ℕ} {row depth end items first : ℕ} (t : Taken rows count names start ends left own row depth end items first) where
  right_here : RightEnd rows count row
  right_here = right_ends rows count names row (t.right row (omega arith))

  rises_here : Rises (enclosing rows row)
  rises_here = rises_at rows count (row + 1) (omega (arith, t.below)) (λ i h. right_ends rows count names i (t.right i h)) row (omega arith)

  end_past : row < end
  end_past = omega (arith, t.is, end_after count row (end_at rows row) (enclosing rows row) t.below right_here.fits)

  placed_open : row + 1 < end → Walking rows count names start (set ends depth end) (set left depth items) (set own depth row) (row + 1) (depth + 1) first
  placed_open h = record {
    held = t.held;
    rooms = record { for_ends = length-set ends depth end ∙ t.rooms.for_ends; for_left = length-set left depth items ∙ t.rooms.for_left; for_own = length-set own depth row ∙ t.rooms.for_own };
    begun = omega arith;
    upto = omega (arith, t.below);
    shallow = omega (arith, t.shallow);
    right = t.right;
    kept = rw (pushed ends depth end (omega (arith, t.rooms.for_ends, t.shallow)), t.kept, t.is)
        (enclosing_more rows row (omega (arith, t.is)) (end_least count row (end_at rows row) (enclosing rows row) rises_here right_here.fits));
    known = λ g. open_known rows start ends left own depth row first items end (omega arith) (omega (arith, t.rooms.for_ends, t.shallow)) (omega (arith, t.rooms.for_left, t.shallow)) (omega (arith, t.rooms.for_own, t.shallow)) t.is t.children (t.known g);
  }

  placed_leaf : (found d f : ℕ) → end ≤ row + 1 → Settles items row first found → Closes ends left own (row + 1) depth found d f → Walking rows count names start ends left own (row + 1) d f
  placed_leaf found d f h s c = record {
    held = t.held;
    rooms = t.rooms;
    begun = omega arith;
    upto = omega (arith, t.below);
    shallow = omega (arith, close_down ends left own (row + 1) depth found d f c, t.shallow);
    right = t.right;
    kept = close_above ends left own (row + 1) depth found d f (rw t.kept rises_here) c ∙ rw t.kept (enclosing_same rows row (omega (arith, t.is)));
    known = λ g. close_known rows start ends left own (row + 1) (row + 1) depth found d f c (leaf_known rows start ends left own depth row first items end found end_past h t.is t.children s (t.known g));
  }

  placed : (ends' left' own' : List ℕ) (d f : ℕ) → PlacesRow ends left own depth row end items first ends' left' own' d f → Walking rows count names start ends' left' own' (row + 1) d f
  placed ends' left' own' d f (opens h a b c e g) = rw (a, b, c, e, g) (placed_open h)
  placed ends' left' own' d f (ends_here found h a b c s m) = rw (a, b, c) (placed_leaf found d f h s m)

-- row 0
module _ (rows : List ℕ) (count names items start : ℕ) (s : Started rows count names items start) where
  first_taken : (ends left own : List ℕ) → Rooms ends left own → Taken rows count names start ends left own 0 0 count items start
  unfolding last_first enclosing ends_before above Opens
  first_taken ends left own a = record {
    held = s.held;
    rooms = a;
    below = s.held.some;
    shallow = omega arith;
    right = λ i h. (let z : i ≡ 0 = omega arith in rw z s.right);
    kept = refl;
    is = sym (root rows count 1 s.held.some (λ i h. (let z : i ≡ 0 = omega arith in rw z (right_ends rows count names 0 s.right))) (omega arith));
    children = s.children;
    known = λ g. record { low = omega arith; refused = λ h. absurd (omega arith); opens = tt; seen = λ i h. absurd (omega arith) };
  }

pub walking_start : (rows : List ℕ) (count names depth first : ℕ) (ends left own : List ℕ) → RootPlaced rows count names depth first ends left own → Walking rows count names (root_found count (kind_at rows 0)) ends left own 1 depth first
walking_start rows count names depth first ends left own r =
    rw (← r.started.begin)
    (placed (first_taken rows count names r.items r.start r.started r.no_ends r.no_left r.no_own r.rooms) ends left own depth first r.placed)

-- a row that stands in an open row
module _ (rows : List ℕ) (count names start : ℕ) (ends left own : List ℕ) (row depth first : ℕ) (w : Walking rows count names start ends left own row depth first) where
  ends_right : (i : ℕ) → i < row → RightEnd rows count i
  ends_right i h = right_ends rows count names i (w.right i h)

  -- none is open at the end
  pub walking_end : depth ≤ 0 → row ≡ count
  unfolding enclosing last_first
  walking_end h =
      let z : depth ≡ 0 = omega arith in
      let none : above row (ends_before rows row) ≡ [] = rw z at (sym w.kept) in
      omega (arith, w.upto, w.begun, root rows count row w.upto ends_right w.begun, none_above rows row row none 0 w.begun)

  module _ (h : 0 < depth) where
    enclosed : enclosing rows row ≡ get_or ends (depth - 1) 0 ∷ last_first ends (depth - 1)
    enclosed = sym w.kept ∙ top ends depth h

    parent : LastAbove rows row row (get_or ends (depth - 1) 0)
    unfolding enclosing
    parent = last_above rows row row (get_or ends (depth - 1) 0) (last_first ends (depth - 1)) enclosed

    pub row_below : row < count
    row_below = omega (arith, parent.above, parent.ends, within rows count row w.upto ends_right parent.row parent.earlier)

    pub row_held : 5 * row + 4 < length rows
    row_held = omega (arith, row_below, w.held.room)

    pub row_falls : count - (row + 1) < count - row
    row_falls = omega (arith, row_below)

    bounds : Bounds rows count row (row + 1) (get_or ends (depth - 1) 0) depth
    unfolding end_fits depth_at
    bounds = record { fits = rw (enclosed, add-one); deep = rw (← w.kept, last_length) (omega arith) }

    -- it is refused by itself
    refused : (why : Refusal) (out : Checked) → RefusedFor rows count names row why → out ≡ refused_of rows count names row why → out ≡ checked_rows rows count names
    refused why out t o = refused_checked rows count names w.held row row_below w.right why out t o

    module _ (k : ℕ) (i : k ≡ kind_at rows row) where
      pub walking_unknown : (out : Checked) → 66 ≤ k → out ≡ refused_of rows count names row WrongEnd → out ≡ checked_rows rows count names
      walking_unknown out m o = refused WrongEnd out (unknown_refused rows count names row k i m) o

      pub walking_read : (entries : List Kind) (d : Kind) → k < 66 → entries ≡ map numbers kinds → RowRead rows row (get_or entries k d)
      walking_read entries d m t = read_row rows names row k i entries d row_held m t

    module _ (n : Kind) (b : Bool) (q : RowTold rows names row n (row + 1) (get_or ends (depth - 1) 0) b) where
      pub walking_wrong : (out : Checked) → not b ≡ true → out ≡ refused_of rows count names row WrongEnd → out ≡ checked_rows rows count names
      walking_wrong out z o = refused WrongEnd out (row_wrong rows count names row n (row + 1) (get_or ends (depth - 1) 0) depth bounds b q (not-true b z)) o

      module _ (y : not b ≡ false) where
        pub walking_deep : (out : Checked) → 100 ≤ depth → out ≡ refused_of rows count names row TooDeep → out ≡ checked_rows rows count names
        walking_deep out l o = refused TooDeep out (row_deep rows count names row n (row + 1) (get_or ends (depth - 1) 0) depth bounds b q (not-false b y) l) o

        -- or taken by the row that it stands in
        module _ (end : ℕ) (e : end ≡ end_at rows row) (l : depth < 100) (k : ℕ) (i : k ≡ kind_at rows row) (after : List ℕ) (f : ℕ) (x : Takes left own (depth - 1) k first after f) where
          taken : Taken rows count names start ends after own row depth end n.children f
          taken = record {
            held = w.held;
            rooms = record { for_ends = w.rooms.for_ends; for_left = ap length x.changed ∙ length-set left (depth - 1) x.items ∙ w.rooms.for_left; for_own = w.rooms.for_own };
            below = row_below;
            shallow = l;
            right = λ j p. ⊎_elim (λ (z : j ≡ row). rw z (row_right rows count names row n (row + 1) (get_or ends (depth - 1) 0) depth bounds b q (not-false b y) l)) (λ h. w.right j h) (eq-or-lt_of_le (before j p));
            kept = w.kept;
            is = e;
            children = q.read.children;
            known = λ g. (
                let z : suc (depth - 1) ≡ depth = omega arith in
                rw z at
                (take_known rows count start ends left own after (depth - 1) row first x.items f g row_below parent.above (omega (arith, w.rooms.for_left, w.shallow)) x.changed (rw i at x.took) (rw z (w.known g))));
          }
            where
              before : (j : ℕ) → j < row + 1 → j ≤ row
              before j p = omega arith

-- the row come to is entered
pub walking_next : (rows : List ℕ) (count names start : ℕ) (ends left own : List ℕ) (row : ℕ) (at : Progress) (k : ℕ) (n : Kind) (b : Bool) (end : ℕ) (ends' left' own' : List ℕ) (at' : Progress)
    → Enters ends left own at row k end n.children ends' left' own' at'
    → not b ≡ false
    → RowTold rows names row n (row + 1) (get_or ends (at.depth - 1) 0) b
    → end ≡ end_at rows row
    → k ≡ kind_at rows row
    → Walking rows count names start ends left own row at.depth at.first
    → Walking rows count names start ends' left' own' (row + 1) at'.depth at'.first
walking_next rows count names start ends left own row at k n b end ends' left' own' at' x y q e i w =
    placed (taken rows count names start ends left own row at.depth at.first w x.room.some n b q y end e x.room.shallow k i x.after x.first x.takes) ends' left' own' at'.depth at'.first x.places
