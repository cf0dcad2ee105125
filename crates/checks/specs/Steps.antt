-- What the functions of the check ask of each other and tell each other on the way. Nothing here is document 01's.
use Rattle.std.specs.Prelude.{ℕ, min, suc, ◌+◌, ◌-◌, ◌*◌, ◌≤◌, ◌<◌, ◌≡◌, Bool, true, false, cond, ◌&&◌, List, [], ◌∷◌, leb, length, get_or, set}
use Rattle.table.specs.Rows.{kind_at, side_at, end_at}
use Rattle.kinds.specs.declared.Kind.{Kind}
use Rattle.kinds.specs.Kinds.{S, entry, in_class, side_fits}
use Rattle.kinds.specs.Steps.{items_number, side_below}
use Rattle.kinds.proofs.Steps.{Left}
use Rattle.refusals.specs.declared.Refusal.{Refusal}
use Rattle.checks.specs.Checks.{Checked}
use Rattle.refusals.specs.Refusals.{refused_at}
use Rattle.checks.specs.Checks.{passed}
use Rattle.checks.specs.declared.Progress.{Progress}
use Rattle.checks.specs.Checks.{and_then, first_from, fields_at, ends_at}

-- a table that holds its rows: the premise under which it is read
pub record Held (rows : List ℕ) (count : ℕ) : Type 0 where
  pub some : 1 ≤ count
  pub few : count ≤ 2000
  pub room : 5 * count ≤ length rows

-- no child is left for these items of row `own`: none is missing, or the row is noted
pub data Settles (left own first r : ℕ) : Type 0 where
  whole : r ≡ first → ((b : Bool) → Left left [] b → true ≡ b) → Settles left own first r
  missing : r ≡ min own first → ((b : Bool) → Left left [] b → false ≡ b) → Settles left own first r

-- a child of this kind is next for these items of row `own`: it is taken, and others are left; or the row is noted
pub data Took (left kind own first after r : ℕ) : Type 0 where
  taken : r ≡ first → ((ks : List ℕ) (b : Bool) → Left left (kind ∷ ks) b → Left after ks b) → Took left kind own first after r
  unfit : r ≡ min own first → ((ks : List ℕ) (b : Bool) → Left left (kind ∷ ks) b → false ≡ b) → Took left kind own first after r

-- the open row at i takes it, and only its items change
pub record Takes (before own : List ℕ) (i kind first : ℕ) (after : List ℕ) (r : ℕ) : Type 0 where
  pub items : ℕ
  pub changed : after ≡ set before i items
  pub took : Took (get_or before i 0) kind (get_or own i 0) first items r

-- the innermost open rows are closed, one by one, up to the first that ends after row `row`; left are so many and this first row found
pub data Closes (ends left own : List ℕ) (row : ℕ) : ℕ → ℕ → ℕ → ℕ → Type 0 where
  stays : {depth first : ℕ} → (0 < depth → row < get_or ends (depth - 1) 0) → Closes ends left own row depth first depth first
  closes : {depth first found d f : ℕ}
      → get_or ends depth 0 ≤ row
      → Settles (get_or left depth 0) (get_or own depth 0) first found
      → Closes ends left own row depth found d f
      → Closes ends left own row (suc depth) first d f

-- a row is opened, or it holds no rows and those that end with it are closed
pub data PlacesRow (ends left own : List ℕ) (depth row end items first : ℕ) (ends' left' own' : List ℕ) (d f : ℕ) : Type 0 where
  opens : row + 1 < end
      → ends' ≡ set ends depth end
      → left' ≡ set left depth items
      → own' ≡ set own depth row
      → d ≡ depth + 1
      → f ≡ first
      → PlacesRow ends left own depth row end items first ends' left' own' d f
  ends_here : (found : ℕ)
      → end ≤ row + 1
      → ends' ≡ ends
      → left' ≡ left
      → own' ≡ own
      → Settles items row first found
      → Closes ends left own (row + 1) depth found d f
      → PlacesRow ends left own depth row end items first ends' left' own' d f

-- there is an open row, and room for one more
pub record CanEnter (depth row : ℕ) : Type 0 where
  pub some : 0 < depth
  pub shallow : depth < 100
  pub few : row ≤ 2000

-- the innermost open row takes a row, which is then placed
pub record Enters (ends left own : List ℕ) (at : Progress) (row kind end items : ℕ) (ends' left' own' : List ℕ) (r : Progress) : Type 0 where
  pub room : CanEnter at.depth row
  pub after : List ℕ
  pub first : ℕ
  pub takes : Takes left own (at.depth - 1) kind at.first after first
  pub places : PlacesRow ends after own at.depth row end items first ends' left' own' r.depth r.first

-- a row of the table is of a kind, and the code's numbers for the kind are these
pub record RowRead (rows : List ℕ) (row : ℕ) (numbers : Kind) : Type 0 where
  pub room : 5 * row + 4 < length rows
  pub known : kind_at rows row < 66
  pub sides : (names side : ℕ) → side_below numbers.sides names side ≡ side_fits (entry (kind_at rows row)).sides names side
  pub children : numbers.children ≡ items_number (entry (kind_at rows row)).children

-- what `end_right` answers of a row whose end may be from `least` to `most`
unfoldable pub end_right : List ℕ → ℕ → Kind → ℕ → ℕ → ℕ → Bool
end_right rows names numbers row least most = (leb least (end_at rows row) && leb (end_at rows row) most) && side_below numbers.sides names (side_at rows row)

-- what it tells: of which row, and the answer
pub record RowTold (rows : List ℕ) (names row : ℕ) (numbers : Kind) (least most : ℕ) (r : Bool) : Type 0 where
  pub read : RowRead rows row numbers
  pub answer : r ≡ end_right rows names numbers row least most

-- what `refuse` tells of a row that is wrong by itself: the first wrong field from it on, and where there is none the row's end or depth
unfoldable pub refused_of : List ℕ → ℕ → ℕ → ℕ → Refusal → Checked
refused_of rows count names row end_or_depth = and_then (first_from (fields_at rows names) (count - row) row) (refused_at end_or_depth row)

-- the first row found before any is looked at: none, which is the count, or row 0 if its kind is no statement's
unfoldable pub root_found : ℕ → ℕ → ℕ
root_found count kind = cond (in_class S kind) count 0

-- a row by itself: its fields, then its end and depth
unfoldable pub alone_at : List ℕ → ℕ → ℕ → ℕ → Checked
alone_at rows count names i = and_then (fields_at rows names i) (ends_at rows count i)

-- row 0 is right by itself; these are its kind's items, and this is the first row found so far
pub record Started (rows : List ℕ) (count names items start : ℕ) : Type 0 where
  pub held : Held rows count
  pub right : alone_at rows count names 0 ≡ passed
  pub children : items ≡ items_number (entry (kind_at rows 0)).children
  pub begin : start ≡ root_found count (kind_at rows 0)

-- the arrays have room for 100 rows
pub record Rooms (ends left own : List ℕ) : Type 0 where
  pub for_ends : length ends ≡ 100
  pub for_left : length left ≡ 100
  pub for_own : length own ≡ 100

-- row 0 is placed where no row was open
pub record RootPlaced (rows : List ℕ) (count names depth first : ℕ) (ends left own : List ℕ) : Type 0 where
  pub items : ℕ
  pub start : ℕ
  pub started : Started rows count names items start
  pub no_ends : List ℕ
  pub no_left : List ℕ
  pub no_own : List ℕ
  pub rooms : Rooms no_ends no_left no_own
  pub placed : PlacesRow no_ends no_left no_own 0 0 count items start ends left own depth first
