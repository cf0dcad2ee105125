-- Parts of statements: what the functions answer, from what stands in the code where they return, and that the walk tells its parts apart
-- in the same way, class by class. Nothing recurses.
use mathlib.Core.Path.{◌≡◌, refl, sym, ap, ◌∙◌}
use mathlib.Core.Bool.{Bool, true, false, and-true, and-false}
use mathlib.Core.List.{List}
use Prim.Native.Nat.{ℕ, ◌+◌, ◌≤◌}
use lib.Dec.{eqb, ltb}
use borrow.Author.Tests.{ltb-true, ltb-false, lt-ltb, le-ltb}
use Rattle.table.specs.declared.Siblings.{Siblings}
use Rattle.table.specs.declared.Node.{Node}
use Rattle.table.specs.Rows.{kind_at, end_at, tree, Nested}
use Rattle.table.specs.Siblings.{forest, First, Children, Rest, Head}
use Rattle.table.specs.Fold.{nth, tail}
use Rattle.table.proofs.Fold.{fold_none, fold_some}
use Rattle.table.proofs.Parts.{fold_rest_part}
use Rattle.kinds.specs.declared.StmtClass.{StmtClass}
use Rattle.kinds.specs.declared.StmtClass.TheVariants as K
use Rattle.kinds.specs.Named.{stmt_class}
use Rattle.expr_effect.specs.Law.{ExprFacts, facts_at}
use Rattle.loops.specs.Escape.{cannot_escapes, cannot_escape}
use Rattle.loops.proofs.Alone.{escape_alone}
use Rattle.da.specs.declared.DaOut.{DaOut}
use Rattle.da.specs.declared.DaOut.TheVariants.{Falls}
use Rattle.std.specs.Prelude.{Ok}
use Rattle.da.specs.Outcome.{DaResult, State}
use Rattle.da.specs.Walk.{DaCtx, Walk, StmtRow, no_walk, unless_one_read, falls_written, walk_of, walk_at, walks}
use Rattle.da_rows.specs.declared.Part.{Part}
use Rattle.da_rows.specs.declared.Part.TheVariants.{Absent}
use Rattle.da_rows.specs.Steps.{facts_in, facts_of, part_of_class, part_of_row, part_in, part_of, is_default_part, is_absent_part, labels_of, labels_in, body_assigns}

-- unless_arm_read
pub arm_labels : (x : ℕ) (row : Node) (below labels : Siblings) (a : State) (r : DaResult)
    → Children row below
    → Rest below labels
    → r ≡ unless_one_read (facts_of x labels) a (Ok (Falls a))
    → r ≡ unless_one_read (tail (facts_in x row.table.now (row.at + 1) row.end)) a (Ok (Falls a))
arm_labels x row below labels a r b t v =
    v ∙ ap (λ es. unless_one_read es a (Ok (Falls a))) (fold_rest_part (facts_at x) t ∙ rw (b.same, b.starts, b.ends))

-- unless_label_read, is_absent
module _ (rows : Siblings) where
  pub part_first : (row : Node) (p : Part) → First rows row → p ≡ part_of_row row.table.now row.at → part_of rows ≡ p
  part_first row p f e = sym (e ∙ rw (f.same, f.starts, lt-ltb rows.from rows.to f.some))

  pub part_none : rows.to ≤ rows.from → part_of rows ≡ Absent
  part_none h = rw (le-ltb rows.from rows.to h)

-- loop_body_assigns, where the body does not fall written, or where it does and the side number is not 1
module _ (s side : ℕ) (body : Siblings) (out : DaOut) (b w : Bool) (e : b ≡ falls_written out) where
  pub body_unwritten : b ≡ false → w ≡ false → w ≡ body_assigns side (forest body) out
  body_unwritten h y = y ∙ rw (← e, h)

  module _ (h : b ≡ true) (p : s ≡ side) (q : w ≡ eqb s 1) where
    pub body_told : w ≡ false → w ≡ body_assigns side (forest body) out
    body_told y = y ∙ rw (← e, h, ← p, sym q ∙ y) (sym (and-false (nth true 0 (cannot_escapes (forest body)))))

-- and where the body falls written and the side number is 1
pub body_stays : (side : ℕ) (body head : Siblings) (out : DaOut) (b r : Bool)
    → b ≡ falls_written out
    → (b ≡ true) × (side ≡ 1)
    → Head body head
    → r ≡ cannot_escape (forest head)
    → r ≡ body_assigns side (forest body) out
body_stays side body head out b r e h t v =
    let k : cannot_escape (forest head) ≡ nth true 0 (cannot_escapes (forest body)) = rw (t.same, t.starts) (escape_alone body.nested t.ends) in
    v ∙ k ∙ rw (← e, h.0, h.1) (sym (and-true (nth true 0 (cannot_escapes (forest body)))))

pub ruleset body_answers = (body_unwritten, body_told, body_stays)

-- What the walk knows of the first of the rows from `from` up to `to`

-- what a walk tells of a row's part
record Told (part : Part) (labels : List ExprFacts) (w : Walk) : Type 0 where
  absent : w.is_absent ≡ is_absent_part part
  default : w.is_default ≡ is_default_part part
  labelled : w.labels ≡ labels_of part labels

told : {part : Part} {labels : List ExprFacts} {w : Walk} → w.is_absent ≡ is_absent_part part → w.is_default ≡ is_default_part part → w.labels ≡ labels_of part labels → Told part labels w
told a d l = record { absent = a; default = d; labelled = l }

part_told : (ctx : DaCtx) (class : StmtClass) (r : StmtRow) (es : List ExprFacts) (held : List (List ExprFacts)) (ws : List Walk) → Told (part_of_class class) es (walk_of ctx class r es held ws)
part_told ctx K.Absent r es held ws = told refl refl refl
part_told ctx K.Match r es held ws = told refl refl refl
part_told ctx K.Default r es held ws = told refl refl refl
part_told ctx K.Decl r es held ws = told refl refl refl
part_told ctx K.Blocking r es held ws = told refl refl refl
part_told ctx K.Nonblocking r es held ws = told refl refl refl
part_told ctx K.If r es held ws = told refl refl refl
part_told ctx K.Return r es held ws = told refl refl refl
part_told ctx K.Case r es held ws = told refl refl refl
part_told ctx K.For r es held ws = told refl refl refl
part_told ctx K.While r es held ws = told refl refl refl
part_told ctx K.Repeat r es held ws = told refl refl refl
part_told ctx K.Forever r es held ws = told refl refl refl
part_told ctx K.Block r es held ws = told refl refl refl
part_told ctx K.Fork r es held ws = told refl refl refl
part_told ctx K.Systask r es held ws = told refl refl refl
part_told ctx K.Task r es held ws = told refl refl refl
part_told ctx K.Delayctrl r es held ws = told refl refl refl
part_told ctx K.Eventctrl r es held ws = told refl refl refl
part_told ctx K.Wait r es held ws = told refl refl refl
part_told ctx K.Disable r es held ws = told refl refl refl
part_told ctx K.Null r es held ws = told refl refl refl
part_told ctx K.Unmodelled r es held ws = told refl refl refl
part_told ctx K.NoStmt r es held ws = told refl refl refl

first_told : (ctx : DaCtx) {rows : List ℕ} {from to : ℕ} → Nested rows from to → Told (part_in rows from to) (facts_in ctx.local rows (from + 1) (end_at rows from)) (nth no_walk 0 (walks ctx (tree rows from to)))
unfolding walk_at
first_told ctx {rows} {from} {to} g = go (ltb from to) refl
  where
    go : (b : Bool) → ltb from to ≡ b → Told (part_in rows from to) (facts_in ctx.local rows (from + 1) (end_at rows from)) (nth no_walk 0 (walks ctx (tree rows from to)))
    go true q = rw (q, fold_some (walk_at ctx) g (ltb-true from to q)) (part_told ctx (stmt_class (kind_at rows from)) _ _ _ _)
    go false q = rw (q, fold_none (walk_at ctx) rows from to (ltb-false from to q)) (told refl refl refl)

module _ (ctx : DaCtx) {rows : List ℕ} {from to : ℕ} (g : Nested rows from to) where
  pub first_absent : (nth no_walk 0 (walks ctx (tree rows from to))).is_absent ≡ is_absent_part (part_in rows from to)
  first_absent = (first_told ctx g).absent

  pub first_default : (nth no_walk 0 (walks ctx (tree rows from to))).is_default ≡ is_default_part (part_in rows from to)
  first_default = (first_told ctx g).default

  pub first_labels : (nth no_walk 0 (walks ctx (tree rows from to))).labels ≡ labels_in ctx.local rows from to
  first_labels = (first_told ctx g).labelled
