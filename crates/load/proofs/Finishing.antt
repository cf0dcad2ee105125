-- What follows good lines, and a refused load: room, zeros in the tails, the check. The fields pass by what is told of the lines, so that of the check
-- only ends, depth and children can refuse.
use Prim.Native.Nat.{ℕ, ◌-◌, ◌*◌, ◌≤◌}
use mathlib.Core.Path.{◌≡◌, refl, sym, ap, ◌∙◌}
use mathlib.Core.List.{List, ◌++◌, append-nil}
use native.Mathlib.Omega.{arith}
use lib.ListN.{length, take, replicate, length-append, length-replicate}
use native.Mathlib.Nat.{le_refl}
use lib.Seq.{length-take-le, take_at, drop-length}
use borrow.Rule.Slice.PartMut.{put_mid, mid_of, Post-is, mid_len}
use lib.Dec.{leb}
use mathlib.Core.Bool.{true, false, and-eq-true_iff}
use borrow.Author.Tests.{le-leb, leb-true}
use Rattle.checks.specs.Checks.{Checked, passed, fields_of, children_of, checked_rows}
use Rattle.checks.proofs.Places.{checked_row}
use Rattle.checks.proofs.Passed.{fields_passed, checked_is}
use Rattle.sheet_record.specs.declared.Record.{Record}
use Rattle.refusals.specs.declared.Refusal.TheVariants.{NoRoom}
use Rattle.std.specs.Prelude.{Ok, Err}
use Rattle.refusals.specs.declared.Refused.{Refused}
use Rattle.refusals.specs.Refusals.{refused_at}
use Rattle.sheet.specs.Load.{Loaded, line_of, Loading, refuse, table_of, has_room, checked_answer, with_tables, finish_of}
use Rattle.sheet.specs.Steps.{Room, FieldsRead, GoodFilled, finish_fronts}

-- an answer that is refused is not a record
pub never : {A : Type 0} {x : Refused} {r : Record} → Err x ≡ Ok r → A
never e = absurd (let z : ◌≡◌ {A = ℕ} 0 1 = cc in omega arith)

-- the answer stays as it is, whatever the tables are
pub answered : (row_room name_room : ℕ) (a : Loaded) (rows names : List ℕ) → (with_tables row_room name_room a rows names).answer ≡ a
unfolding refuse
answered row_room name_room (Ok r) rows names = refl
answered row_room name_room (Err x) rows names = refl

-- a part filled with zeros, when it is back in its table
pub tail_cleared : (a : ℕ) (t ys : List ℕ) → a ≤ length t → ys ≡ replicate (length (mid_of a (length t - a) t)) 0 → put_mid a (length t - a) t ys ≡ take a t ++ replicate (length t - a) 0
tail_cleared a t ys h e = rw (e, Post-is a (length t) t h, drop-length, append-nil, mid_len a (length t) t (le_refl (length t)))

-- a table whose tail was cleared after its front
tail_table : (t : List ℕ) (k : ℕ) → k ≤ length t → take k t ++ replicate (length t - k) 0 ≡ table_of (length t) (take k t)
unfolding table_of
tail_table t k h = rw (length-take-le k t h)

module _ (r : Record) (rows names : List ℕ) where
  -- 21
  pub no_room : has_room (length rows) (length names) r ≡ false → refused_at NoRoom 0 ≡ (finish_fronts r rows names).answer
  unfolding finish_fronts finish_of refuse
  no_room h = rw h

  pub has_room_lem : r.rows ≤ 2000 → r.names ≤ 500 → has_room (length rows) (length names) r ≡ true → Room r rows names
  unfolding has_room
  has_room_lem a b h =
      let t = (and-eq-true_iff (leb (5 * r.rows) (length rows)) (leb (3 * r.names) (length names))).0 h in
      record { few_rows = a; few_names = b; for_rows = leb-true (5 * r.rows) (length rows) t.0; for_names = leb-true (3 * r.names) (length names) t.1 }

  -- the tables with their tails cleared, and the checks
  module _ (w : Room r rows names) (new_rows : List ℕ) (p : new_rows ≡ take (5 * r.rows) rows ++ replicate (length rows - 5 * r.rows) 0) (new_names : List ℕ) (q : new_names ≡ take (3 * r.names) names ++ replicate (length names - 3 * r.names) 0) (a : Loaded) (s : a ≡ checked_answer r new_rows) where
    row_table : new_rows ≡ table_of (length rows) (take (5 * r.rows) rows)
    row_table = p ∙ tail_table rows (5 * r.rows) w.for_rows

    name_table : new_names ≡ table_of (length names) (take (3 * r.names) names)
    name_table = q ∙ tail_table names (3 * r.names) w.for_names

    whole : finish_fronts r rows names ≡ with_tables (length rows) (length names) a new_rows new_names
    unfolding finish_fronts finish_of has_room
    whole = rw (le-leb (5 * r.rows) (length rows) w.for_rows, le-leb (3 * r.names) (length names) w.for_names, ← row_table, ← name_table, ← s)

    pub cleared_answer : a ≡ (finish_fronts r rows names).answer
    cleared_answer = sym (ap (λ (x : Loading). x.answer) whole ∙ answered (length rows) (length names) a new_rows new_names)

    pub cleared_tables : GoodFilled a (finish_fronts r rows names) new_rows new_names
    cleared_tables = record { row_table = λ x e. sym (ap (λ (z : Loading). z.rows) (good x e)); name_table = λ x e. sym (ap (λ (z : Loading). z.names) (good x e)) }
      where
        good : (x : Record) → a ≡ Ok x → finish_fronts r rows names ≡ record { answer = Ok x; rows = new_rows; names = new_names }
        good x e = whole ∙ ap (λ (z : Loaded). with_tables (length rows) (length names) z new_rows new_names) e

-- the check, whose fields pass
module _ (r : Record) (rows : List ℕ) (f : fields_of rows r.rows r.names ≡ passed) (c : Checked) (s : c ≡ checked_rows rows r.rows r.names) where
  is_children : c ≡ children_of rows r.rows
  is_children = s ∙ checked_is rows r.rows r.names (fields_passed rows r.rows r.names _ refl f)

  pub check_passed : c ≡ passed → Ok r ≡ checked_answer r rows
  unfolding checked_answer
  check_passed e = rw (← is_children, e)

  pub check_row : (x : Refused) → c ≡ Err x → x.place ≤ 2000
  check_row x e = checked_row rows r.rows r.names c x.refusal x.place s e

  pub check_refused : (x : Refused) → c ≡ Err x → (line : ℕ) → line ≡ line_of r x.place → refused_at x.refusal line ≡ checked_answer r rows
  unfolding checked_answer
  check_refused x e line l = rw (← is_children, e, l)

-- a table with its tail cleared has the rows that were read in front
pub fields_cleared : (r : Record) (rows names : List ℕ) → Room r rows names → FieldsRead r rows → (new_rows : List ℕ) → new_rows ≡ take (5 * r.rows) rows ++ replicate (length rows - 5 * r.rows) 0 → fields_of new_rows r.rows r.names ≡ passed
fields_cleared r rows names w f new_rows p =
    let a : length (take (5 * r.rows) rows) ≡ 5 * r.rows = length-take-le (5 * r.rows) rows w.for_rows in
    let b : length new_rows ≡ length rows = ap length p ∙ length-append (take (5 * r.rows) rows) (replicate (length rows - 5 * r.rows) 0) ∙ omega (arith, a, length-replicate {A = ℕ} (length rows - 5 * r.rows) 0, w.for_rows) in
    f.pass w.for_rows new_rows (omega (arith, b, w.for_rows)) (ap (take (5 * r.rows)) p ∙ take_at (take (5 * r.rows) rows) (replicate (length rows - 5 * r.rows) 0) (5 * r.rows) a)
