-- Whether control can leave a statement other than at its end: da/loops.rs, `stmt_cannot_escape`. Definitions only.
use Rattle.std.specs.Prelude.{Bool, true, false, ◌&&◌, not, List, ℕ, ◌<◌, ◌≡◌}
use Rattle.table.specs.Rows.{end_at, Forest, tree}
use Rattle.table.specs.Fold.{Alg, fold, nth, tail}
use Rattle.kinds.specs.declared.StmtClass.{StmtClass}
use Rattle.kinds.specs.declared.StmtClass.TheVariants.{Absent, Match, Default, Decl, Blocking, Nonblocking, If, Return, Case, For, While, Repeat}
use Rattle.kinds.specs.declared.StmtClass.TheVariants.{Forever, Block, Fork, Systask, Task, Delayctrl, Eventctrl, Wait, Disable, Null, Unmodelled, NoStmt}
use Rattle.kinds.specs.Named.{stmt_class}
use Rattle.reads.specs.Iffs.{every}
use Rattle.paths.specs.Commands.{PathEvent, Ending, NoJump, Runs}
use Rattle.paths.specs.Semantics.{Semantics}
use Rattle.stmt_paths.specs.Execution.{executed}
use Rattle.loops.specs.Fitting.{fitting}

-- "Disable { .. } | Return { .. } => false": a statement of this class itself transfers control
abbrev pub transfers : StmtClass → Bool
transfers Disable = true
transfers Return = true
transfers Absent = false
transfers Match = false
transfers Default = false
transfers Decl = false
transfers Blocking = false
transfers Nonblocking = false
transfers If = false
transfers Case = false
transfers For = false
transfers While = false
transfers Repeat = false
transfers Forever = false
transfers Block = false
transfers Fork = false
transfers Systask = false
transfers Task = false
transfers Delayctrl = false
transfers Eventctrl = false
transfers Wait = false
transfers Null = false
transfers Unmodelled = false
transfers NoStmt = false

-- no row of a tree transfers control: this row does not, and none below it does
unfoldable pub cannot_escape_at : Alg Bool
cannot_escape_at k s lo hi cs bs = not (transfers (stmt_class k)) && every bs

-- the same of each of these siblings
abbrev pub cannot_escapes : Forest → List Bool
cannot_escapes = fold cannot_escape_at

-- and of all of them
unfoldable pub cannot_escape : Forest → Bool
cannot_escape f = every (cannot_escapes f)

-- The arms of `stmt_cannot_escape`, from what it answers of the children; an absent child is true, as `opt` is of none.
abbrev pub escape_arm : StmtClass → List Bool → Bool
-- "Disable { .. } | Return { .. } => false"
escape_arm Disable bs = false
escape_arm Return bs = false
-- "Block { stmts, .. } | Fork { stmts, .. } => stmts.iter().all(sub)"
escape_arm Block bs = every bs
escape_arm Fork bs = every bs
-- "If { then_s, else_s, .. } => sub(then_s) && opt(else_s)"
escape_arm If bs = nth true 1 bs && nth true 2 bs
-- "Case { items, .. } => items.iter().all(|it| match it { .. })"; the selector is the first child
escape_arm Case bs = every (tail bs)
-- "ast::CaseItem::Match { body, .. } | ast::CaseItem::Default { body, .. } => sub(body)"
escape_arm Match bs = nth true 0 bs
escape_arm Default bs = nth true 0 bs
-- "For { init, step, body, .. } => sub(init) && sub(step) && sub(body)"
escape_arm For bs = nth true 0 bs && (nth true 2 bs && nth true 3 bs)
-- "While { body, .. } | Repeat { body, .. } | Forever { body, .. } => sub(body)"
escape_arm While bs = nth true 1 bs
escape_arm Repeat bs = nth true 1 bs
escape_arm Forever bs = nth true 0 bs
-- "Wait { body, .. } | DelayCtrl { body, .. } | EventCtrl { body, .. } => opt(body)"
escape_arm Wait bs = nth true 1 bs
escape_arm Delayctrl bs = nth true 1 bs
escape_arm Eventctrl bs = nth true 1 bs
-- "DeferredAssert { then_s, else_s, .. } => sub(then_s) && sub(else_s)", "ConcurrentAssert { pass, fail, .. } => opt(pass) &&
-- opt(fail)"; no other unmodelled form holds a statement
escape_arm Unmodelled bs = every bs
-- "No nested statement and no transfer of control"
escape_arm Blocking bs = true
escape_arm Nonblocking bs = true
escape_arm Systask bs = true
escape_arm Task bs = true
escape_arm Null bs = true
-- `opt` of none; a block's declarations, which the Rust passes over; the recursion does not come to `NoStmt`
escape_arm Absent bs = true
escape_arm Decl bs = true
escape_arm NoStmt bs = true

-- what `stmt_cannot_escape` answers of a row
unfoldable pub stmt_cannot_escape_at : Alg Bool
stmt_cannot_escape_at k s lo hi cs bs = escape_arm (stmt_class k) bs

-- and of the first of these siblings
unfoldable pub stmt_cannot_escape : Forest → Bool
stmt_cannot_escape f = nth true 0 (fold stmt_cannot_escape_at f)

-- what `stmt_cannot_escape` tells
pub record EscapeTold (rows : List ℕ) (from to : ℕ) (r : Bool) : Type 0 where
  -- where it says yes, no run of the first row jumps
  pub stays : r ≡ true
      → (sem : Semantics) (x : ℕ) (marks : ℕ → Bool) (t : List PathEvent) (o : Ending)
      → Runs (executed sem x marks (tree rows from to)) t o
      → NoJump o
  -- of a row alone, with children that fit at every row, the answer is that of the Rust's arms
  pub arms : fitting (tree rows from to) ≡ true → from < to → to ≡ end_at rows from → r ≡ stmt_cannot_escape (tree rows from to)
