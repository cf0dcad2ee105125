-- The premises of demand 3, as a test of each row that gives the first row at which one fails, and in the demand's words. Definitions
-- only. Nothing here is written from the Rust.
use Rattle.std.specs.Prelude.{◌≡◌, ◌⊎◌, List, [], ◌∷◌, ◌++◌, map, Bool, true, false, cond, ◌&&◌, ◌||◌, not, ℕ, suc, eqb}
use Prim.Native.String.{String}
use Rattle.table.specs.Rows.{Forest, nil, node, rest}
use Rattle.table.specs.Fold.{Alg, fold, nth}
use Rattle.kinds.specs.Named.{numbered}
use Rattle.reads.specs.declared.Iff.TheVariants.{Included}
use Rattle.reads.specs.PathRows.{is_local, is_loop_jump}
use Rattle.reads.specs.Mentions.{refers}
use Rattle.reads.specs.Iffs.{every}

-- what a child's place means for a disable below it
pub data Place : Type 0 where
  loop_body init_or_step elsewhere : Place

-- "for S E S S (init, cond, step, body); while E S; repeat E S; forever S"
unfoldable pub child_place : ℕ → ℕ → Place
child_place k i =
    cond (eqb k (numbered "for")) (cond (eqb i 3) loop_body (cond (eqb i 0 || eqb i 2) init_or_step elsewhere))
    (cond (eqb k (numbered "while") || eqb k (numbered "repeat")) (cond (eqb i 1) loop_body elsewhere)
    (cond (eqb k (numbered "forever")) (cond (eqb i 0) loop_body elsewhere)
    elsewhere))

-- a row, with the places that it stands under, the nearest first
pub record PlacedRow : Type 0 where
  pub kind : ℕ
  pub side : ℕ
  pub children : Forest
  pub above : List Place

-- the rows below a row of kind k from its child number i on, in row order
unfoldable pub placed_below : ℕ → ℕ → List Place → List (List Place → List PlacedRow) → List PlacedRow
placed_below k i above [] = []
placed_below k i above (m ∷ ms) = m (child_place k i ∷ above) ++ placed_below k (suc i) above ms

-- a row and the rows below it, by the places that it stands under
unfoldable pub placed_at : Alg (List Place → List PlacedRow)
placed_at k s lo hi cs ms above = record { kind = k; side = s; children = cs; above = above } ∷ placed_below k 0 above ms

-- rows that stand under nothing, and the rows below them
unfoldable pub placed_together : List (List Place → List PlacedRow) → List PlacedRow
placed_together [] = []
placed_together (m ∷ ms) = m [] ++ placed_together ms

-- all rows of a tree, in row order
unfoldable pub placed_rows : Forest → List PlacedRow
placed_rows f = placed_together (fold placed_at f)

-- "in loop bodies"
abbrev pub in_loop_body : List Place → Bool
in_loop_body [] = false
in_loop_body (loop_body ∷ above) = true
in_loop_body (init_or_step ∷ above) = in_loop_body above
in_loop_body (elsewhere ∷ above) = in_loop_body above

-- "under an init or step, at any depth"
abbrev pub in_init_or_step : List Place → Bool
in_init_or_step [] = false
in_init_or_step (loop_body ∷ above) = in_init_or_step above
in_init_or_step (init_or_step ∷ above) = true
in_init_or_step (elsewhere ∷ above) = in_init_or_step above

-- "to refer is to be or hold": whether a row refers
unfoldable pub refers_at : ℕ → Alg Bool
refers_at x k s lo hi cs bs = refers Included x (node k s lo hi cs nil)

-- whether each of these siblings does
abbrev pub refers_each : ℕ → Forest → List Bool
refers_each x = fold (refers_at x)

-- "The plain local is an lident whose path is one segment, the local": whether a row is
unfoldable pub plain_at : ℕ → Alg Bool
plain_at x k s lo hi cs bs = eqb k (numbered "lident") && is_local x cs

-- whether each of these siblings is
abbrev pub plain_each : ℕ → Forest → List Bool
plain_each x = fold (plain_at x)

-- "nonblocking timing ... never refer to it" ("timing delay and intra"), "a nonblocking target is the plain local or doesn't refer
-- to it"; of the children "delay? intra? L E"
abbrev pub nonblocking_holds : List Bool → List Bool → Bool
nonblocking_holds refer plain = not (nth false 0 refer) && (not (nth false 1 refer) && (nth false 2 plain || not (nth false 2 refer)))

-- the same of a row of any kind
unfoldable pub nonblocking_here : ℕ → ℕ → Forest → Bool
nonblocking_here x k cs = cond (eqb k (numbered "nonblocking")) (nonblocking_holds (refers_each x cs) (plain_each x cs)) true

-- and the rows below it
unfoldable pub nonblocking_quiet_at : ℕ → Alg Bool
nonblocking_quiet_at x k s lo hi cs bs = nonblocking_here x k cs && every bs

-- the premises of demand 3 on nonblocking rows, of all rows of these siblings
unfoldable pub nonblocking_quiet : ℕ → Forest → Bool
nonblocking_quiet x f = every (fold (nonblocking_quiet_at x) f)

-- the test of one row, by the word of its kind; "an inner declaration is a decl"
unfoldable pub row_holds : ℕ → (ℕ → Bool) → PlacedRow → Bool
row_holds x marks r =
    cond (eqb r.kind (numbered "disable")) (is_loop_jump marks r.children && (in_loop_body r.above && not (in_init_or_step r.above)))
    (cond (eqb r.kind (numbered "decl")) (not (eqb r.side x))
    (cond (eqb r.kind (numbered "nonblocking")) (nonblocking_holds (refers_each x r.children) (plain_each x r.children))
    (cond (eqb r.kind (numbered "event")) (not (refers Included x (rest r.children)))
    true)))

-- where a premise fails first
pub data FirstFailing : Type 0 where
  nowhere : FirstFailing
  at_row : ℕ → FirstFailing

-- the first row that does not hold, where the list's first row has number n
unfoldable pub first_false : ℕ → List Bool → FirstFailing
first_false n [] = nowhere
first_false n (b ∷ bs) = cond b (first_false (suc n) bs) (at_row n)

-- the premises of demand 3 of all rows of a tree: "the first such disable, decl, nonblocking or event row" (document 02, Paper 6)
unfoldable pub first_failing : ℕ → (ℕ → Bool) → Forest → FirstFailing
first_failing x marks f = first_false 0 (map (row_holds x marks) (placed_rows f))

-- what stands past the last row
abbrev pub no_row : PlacedRow
no_row = record { kind = numbered "none"; side = 0; children = nil; above = [] }

-- row number n
abbrev pub nth_row : Forest → ℕ → PlacedRow
nth_row f n = nth no_row n (placed_rows f)

-- the row is of the kind with this word
abbrev pub IsA : String → PlacedRow → Type 0
IsA word r = r.kind ≡ numbered word

-- The premises at one row, in the words of demand 3. What is left out where one fails: a disable that is no loop jump leaves a
-- block, which a path does not; a jump in an init or step, or outside any loop, has no loop of its own to leave; an inner
-- declaration hides the local, and its reads and writes are none of the local's; a nonblocking's timing is evaluated when the
-- assignment is scheduled, its target written later, which a path in row order does not show; iff is never looked at by the walk.
pub record RowPremises (x : ℕ) (marks : ℕ → Bool) (r : PlacedRow) : Type 0 where
  -- "its disables are only loop jumps"
  pub loop_jumps : IsA "disable" r → is_loop_jump marks r.children ≡ true
  -- "in loop bodies"
  pub in_bodies : IsA "disable" r → in_loop_body r.above ≡ true
  -- "not in an init or step"
  pub no_init_or_step : IsA "disable" r → in_init_or_step r.above ≡ false
  -- "no inner declaration names the local"
  pub declarations : IsA "decl" r → r.side ≡ x → ⊥
  -- "nonblocking timing ... never refer to it"
  pub delays : IsA "nonblocking" r → nth false 0 (refers_each x r.children) ≡ false
  pub intras : IsA "nonblocking" r → nth false 1 (refers_each x r.children) ≡ false
  -- "a nonblocking target is the plain local or doesn't refer to it"
  pub targets : IsA "nonblocking" r → (nth false 2 (plain_each x r.children) ≡ true) ⊎ (nth false 2 (refers_each x r.children) ≡ false)
  -- "and iff never refer to it"
  pub iffs : IsA "event" r → refers Included x (rest r.children) ≡ false

-- at every row
pub record Premises (x : ℕ) (marks : ℕ → Bool) (f : Forest) : Type 0 where
  pub row : (n : ℕ) → RowPremises x marks (nth_row f n)
