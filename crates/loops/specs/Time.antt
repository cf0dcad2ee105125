-- Whether a statement lets simulation time advance: da/mod.rs, `stmt_advances_time`. Definitions only.
use Rattle.std.specs.Prelude.{Bool, true, false, ◌&&◌, ◌||◌, not, List, [], ◌∷◌, ◌≡◌, ℕ, ◌<◌, eqb, leb}
use Prim.Native.String.{String}
use Rattle.table.specs.Rows.{kind_at, end_at, Forest, tree}
use Rattle.table.specs.Fold.{Alg, fold, nth, tail}
use Rattle.kinds.specs.Kinds.{S, in_class}
use Rattle.kinds.specs.declared.StmtClass.{StmtClass}
use Rattle.kinds.specs.declared.StmtClass.TheVariants.{Absent, Match, Default, Decl, Blocking, Nonblocking, If, Return, Case, For, While, Repeat}
use Rattle.kinds.specs.declared.StmtClass.TheVariants.{Forever, Block, Fork, Systask, Task, Delayctrl, Eventctrl, Wait, Disable, Null, Unmodelled, NoStmt}
use Rattle.kinds.specs.Named.{numbered, stmt_class}
use Rattle.reads.specs.Mentions.{some}
use Rattle.loops.specs.Fitting.{fitting}

-- "DelayCtrl { .. } | EventCtrl { .. } | Wait { .. } | WaitFork { .. } => true", and "delay.is_some() || event.is_some()"
unfoldable pub waiting_words : List String
waiting_words = "delay" ∷ "intra" ∷ "delayctrl" ∷ "eventctrl" ∷ "wait" ∷ "waitfork" ∷ []

-- a kind is one of those words'
unfoldable pub is_one_of : List String → ℕ → Bool
is_one_of [] k = false
is_one_of (w ∷ ws) k = eqb k (numbered w) || is_one_of ws k

-- a row itself lets time pass, by its kind and side: one of those words, or a task that suspends, "a task's is effect plus 4
-- if it suspends"
unfoldable pub lets_time_pass : ℕ → ℕ → Bool
lets_time_pass k s = is_one_of waiting_words k || (eqb k (numbered "task") && leb 4 s)

-- a row of a tree lets time pass: this one, or one below it
unfoldable pub advances_at : Alg Bool
advances_at k s lo hi cs bs = lets_time_pass k s || some bs

-- the same of each of these siblings
abbrev pub advances : Forest → List Bool
advances = fold advances_at

-- and of any of them
unfoldable pub advances_time : Forest → Bool
advances_time f = some (advances f)

-- "delay.is_some()", "event.is_some()": a child is there where its kind is not `none`
unfoldable pub is_there_at : Alg Bool
is_there_at k s lo hi cs bs = not (eqb k (numbered "none"))

-- The arms of `stmt_advances_time`, from the row's kind and side, whether each child is there, and what it answers of the
-- children; an absent child is false, as `opt` is of none.
abbrev pub time_arm : StmtClass → ℕ → ℕ → List Bool → List Bool → Bool
-- "DelayCtrl { .. } | EventCtrl { .. } | Wait { .. } | WaitFork { .. } => true"
time_arm Delayctrl k s there bs = true
time_arm Eventctrl k s there bs = true
time_arm Wait k s there bs = true
-- "Blocking { delay, event, .. } | NonBlocking { delay, event, .. } => { delay.is_some() || event.is_some() }"
time_arm Blocking k s there bs = nth false 0 there || nth false 1 there
time_arm Nonblocking k s there bs = nth false 0 there || nth false 1 there
-- "UserTaskCall { name, .. } => call_suspends(name)"
time_arm Task k s there bs = leb 4 s
-- "Block { stmts, .. } | Fork { stmts, .. } => stmts.iter().any(sub)"
time_arm Block k s there bs = some bs
time_arm Fork k s there bs = some bs
-- "If { then_s, else_s, .. } => sub(then_s) || opt(else_s)"
time_arm If k s there bs = nth false 1 bs || nth false 2 bs
-- "Case { items, .. } => items.iter().any(|it| match it { .. })"; the selector is the first child
time_arm Case k s there bs = some (tail bs)
-- "ast::CaseItem::Match { body, .. } | ast::CaseItem::Default { body, .. } => sub(body)"
time_arm Match k s there bs = nth false 0 bs
time_arm Default k s there bs = nth false 0 bs
-- "For { init, step, body, .. } => sub(init) || sub(step) || sub(body)"
time_arm For k s there bs = nth false 0 bs || (nth false 2 bs || nth false 3 bs)
-- "While { body, .. } | Repeat { body, .. } | Forever { body, .. } => sub(body)"
time_arm While k s there bs = nth false 1 bs
time_arm Repeat k s there bs = nth false 1 bs
time_arm Forever k s there bs = nth false 0 bs
-- "WaitFork { .. } => true", "DeferredAssert { then_s, else_s, .. } => sub(then_s) || sub(else_s)", "ConcurrentAssert { pass,
-- fail, .. } => opt(pass) || opt(fail)"; no other unmodelled form holds a statement
time_arm Unmodelled k s there bs = eqb k (numbered "waitfork") || some bs
-- "_ => false"
time_arm Return k s there bs = false
time_arm Disable k s there bs = false
time_arm Systask k s there bs = false
time_arm Null k s there bs = false
-- `opt` of none; a block's declarations, which the Rust passes over; the recursion does not come to `NoStmt`
time_arm Absent k s there bs = false
time_arm Decl k s there bs = false
time_arm NoStmt k s there bs = false

-- what `stmt_advances_time` answers of a row
unfoldable pub stmt_advances_at : Alg Bool
stmt_advances_at k s lo hi cs bs = time_arm (stmt_class k) k s (fold is_there_at cs) bs

-- and of the first of these siblings
unfoldable pub stmt_advances_time : Forest → Bool
stmt_advances_time f = nth false 0 (fold stmt_advances_at f)

-- what `stmt_advances_time` tells of a statement alone, with children that fit at every row: the answer is that of the Rust's
-- arms
pub record TimeTold (rows : List ℕ) (from to : ℕ) (r : Bool) : Type 0 where
  pub arms : fitting (tree rows from to) ≡ true
      → from < to
      → to ≡ end_at rows from
      → in_class S (kind_at rows from) ≡ true
      → r ≡ stmt_advances_time (tree rows from to)
