-- "once `name` is DEFINITELY ASSIGNED on this path, no later statement can make the flatten diverge": from written, with sole 1, the walk
-- gives up nowhere, and falls written or jumps. By induction over the tree, a class at a time.
use mathlib.Core.Bool.{Bool, true, false, cond, ◌&&◌, not}
use mathlib.Core.List.{List, [], ◌∷◌}
use Prim.Native.Nat.{ℕ}
use Rattle.table.specs.Rows.{Forest, nil, node}
use Rattle.table.specs.Fold.{fold, nth}
use Rattle.kinds.specs.declared.StmtClass.{StmtClass}
use Rattle.kinds.specs.declared.StmtClass.TheVariants.{Absent, Match, Default, Decl, Blocking, Nonblocking, If, Return, Case, For, While, Repeat, Forever, Block, Fork, Systask, Task, Delayctrl, Eventctrl, Wait, Disable, Null, Unmodelled, NoStmt}
use Rattle.kinds.specs.Named.{stmt_class, task_effect, has_default}
use Rattle.expr_effect.specs.Law.{ExprFacts, no_facts}
use Rattle.da.specs.declared.DaOut.{DaOut}
use Rattle.da.specs.declared.DaOut.TheVariants.{Falls, Jumps}
use Rattle.std.specs.Prelude.{Ok}
use Rattle.da.specs.declared.CallEffect.{CallEffect}
use Rattle.da.specs.declared.CallEffect.TheVariants.{Inert, Writes, Reads, Unknown}
use Rattle.da.specs.Outcome.{DaResult, is_written, written, merge, ◌▷◌, Accepted}
use Rattle.da.proofs.Walks.{All, none, and, at_place, after_first}
use Rattle.da.specs.Walk.{DaCtx, da_ctx, Walk, StmtRow, no_walk, unless_one_read, if_else, block, arms, case_of, rounds, call_effect, task, walk_of, walk_at, walks, da_stmt}

-- the two answers
pub data Kept : DaResult → Type 0 where
  falls : Kept (Ok (Falls written))
  jumps : Kept (Ok Jumps)

-- a row that is walked to one of them from written
pub record KeepsWritten (w : Walk) : Type 0 where
  pub kept : Kept (w.walk written)

-- The parts of a rule

-- whichever way a test goes
kept_cond : (b : Bool) {r s : DaResult} → Kept r → Kept s → Kept (cond b r s)
kept_cond true h k = h
kept_cond false h k = k

-- the Rust's `?`, after each of the two
kept_then : {r : DaResult} (next : DaOut → DaResult) → Kept r → Kept (next (Falls written)) → Kept (next Jumps) → Kept (r ▷ next)
kept_then next falls f j = f
kept_then next jumps f j = j

-- a read of what is written is no give-up
kept_reads : (es : List ExprFacts) {r : DaResult} → Kept r → Kept (unless_one_read es written r)
kept_reads [] h = h
kept_reads (e ∷ es) h = kept_reads es h

-- no statement
still : KeepsWritten no_walk
still = record { kept = falls }

-- The rules that walk children

-- the statements after one that falls are walked from written too
kept_block : {ws : List Walk} → All KeepsWritten ws → Kept (block ws written)
kept_block none = falls
kept_block (and k ks) = kept_then _ k.kept (kept_block ks) jumps

-- an arm that falls is written; one that jumps drops out
kept_merge : {a b : DaOut} → Kept (Ok a) → Kept (Ok b) → Kept (Ok (merge a b))
kept_merge falls falls = falls
kept_merge falls jumps = falls
kept_merge jumps k = k

kept_arms : {ws : List Walk} {all : DaOut} → Kept (Ok all) → All KeepsWritten ws → Kept (arms ws written all)
kept_arms h none = h
kept_arms h (and {w} k ks) = kept_reads w.labels (kept_then _ k.kept (kept_arms (kept_merge h falls) ks) (kept_arms (kept_merge h jumps) ks))

-- with a default or without
kept_case : (e : ExprFacts) {ws : List Walk} → All KeepsWritten ws → Kept (case_of e ws written)
kept_case e {ws} ks =
    let b = has_default (λ w. w.is_default) ws && not (is_written written) in
    kept_then _ (kept_arms jumps ks) (kept_cond b falls falls) (kept_cond b jumps falls)

-- whatever the else is, it is walked from written
kept_if : (c : ExprFacts) {t e : Walk} → KeepsWritten t → KeepsWritten e → Kept (if_else c t e written)
kept_if c {t} {e} h k =
    let f = kept_cond e.is_absent falls k.kept in
    kept_then _ h.kept (kept_then _ f falls falls) (kept_then _ f falls jumps)

-- a loop falls, and what was written before it stays so
kept_rounds : (r : StmtRow) (cannot_escape : Bool) {body step : Walk}
    → KeepsWritten body
    → KeepsWritten step
    → Kept (rounds r cannot_escape body step written written)
kept_rounds r cannot_escape h k = let f = kept_then _ k.kept falls falls in kept_then _ h.kept f f

-- "CallEffect::Reads | CallEffect::Unknown if assigned"
kept_task : (effect : CallEffect) (lo hi : ℕ) → Kept (task effect lo hi written)
kept_task Inert lo hi = falls
kept_task Writes lo hi = falls
kept_task Reads lo hi = falls
kept_task Unknown lo hi = falls

-- "A statement with no reference to `name` at all": the state passes through
passes : (r : StmtRow) {next : DaResult} → Kept next → Kept (cond r.no_ref (Ok (Falls written)) next)
passes r = kept_cond r.no_ref falls

module _ (x : ℕ) (marks : ℕ → Bool) where
  -- the only writer of the net
  abbrev alone : DaCtx
  alone = da_ctx x marks true

  -- a row whose children keep it; "_ if assigned => Ok(DaOut::Falls(true))" for every form that is not modelled
  keeps_row : (class : StmtClass) (r : StmtRow) (es : List ExprFacts) (held : List (List ExprFacts)) {ws : List Walk}
      → All KeepsWritten ws
      → Kept ((walk_of alone class r es held ws).walk written)
  keeps_row Match r es held ks = (at_place still 0 ks).kept
  keeps_row Default r es held ks = (at_place still 0 ks).kept
  keeps_row Decl r es held ks = falls
  keeps_row Disable r es held ks = kept_cond r.is_jump jumps falls
  keeps_row Blocking r es held ks = passes r (kept_reads (nth [] 0 held) (kept_cond (nth no_facts 2 es).plain falls falls))
  keeps_row Nonblocking r es held ks = passes r falls
  keeps_row If r es held ks = passes r (kept_if (nth no_facts 0 es) (at_place still 1 ks) (at_place still 2 ks))
  keeps_row Block r es held ks = passes r (kept_block ks)
  keeps_row Fork r es held ks = passes r falls
  keeps_row Case r es held ks = passes r (kept_case (nth no_facts 0 es) (after_first ks))
  keeps_row For r es held ks =
      let f = kept_rounds r (nth true 3 r.cannot_escape) (at_place still 3 ks) (at_place still 2 ks) in
      passes r (kept_then _ (at_place still 0 ks).kept f f)
  keeps_row While r es held ks = passes r (kept_rounds r (nth true 1 r.cannot_escape) (at_place still 1 ks) still)
  keeps_row Repeat r es held ks = passes r (kept_rounds r (nth true 1 r.cannot_escape) (at_place still 1 ks) still)
  keeps_row Forever r es held ks = passes r (kept_rounds r (nth true 0 r.cannot_escape) (at_place still 0 ks) still)
  keeps_row Return r es held ks = passes r jumps
  keeps_row Task r es held ks = passes r (kept_task (call_effect (task_effect r.side)) r.lo r.hi)
  keeps_row Delayctrl r es held ks = passes r (kept_reads (nth [] 0 held) (at_place still 1 ks).kept)
  keeps_row Eventctrl r es held ks = passes r (at_place still 1 ks).kept
  keeps_row Wait r es held ks = passes r (at_place still 1 ks).kept
  keeps_row Systask r es held ks = passes r falls
  keeps_row Null r es held ks = passes r falls
  keeps_row Unmodelled r es held ks = passes r falls
  keeps_row Absent r es held ks = falls
  keeps_row NoStmt r es held ks = falls

  -- all rows
  pub all_keep : (f : Forest) → All KeepsWritten (walks alone f)
  unfolding fold walk_at
  all_keep nil = none
  all_keep (node k s lo hi cs others) = and (record { kept = keeps_row (stmt_class k) _ _ _ (all_keep cs) }) (all_keep others)

  -- "There is no operation that un-assigns it"
  pub stays_written_lem : (f : Forest) → Kept (da_stmt alone f written)
  stays_written_lem f = (at_place still 0 (all_keep f)).kept

  -- "Accepted means falls or jumps"
  pub accepted_from_written : (f : Forest) → Accepted (da_stmt alone f written)
  accepted_from_written f = kept_accepted (stays_written_lem f)
    where
      kept_accepted : {r : DaResult} → Kept r → Accepted r
      kept_accepted falls = tt
      kept_accepted jumps = tt
