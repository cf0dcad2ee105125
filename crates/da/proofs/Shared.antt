-- A shared net only adds give-ups: what is accepted with sole 0 has the same answer with sole 1. Reason 1 is the only one that asks for
-- `sole`. By induction over the tree: a row whose children agree agrees.
use mathlib.Core.Path.{◌≡◌, refl}
use mathlib.Core.Bool.{Bool, true, false, cond, ◌&&◌, not}
use mathlib.Core.List.{List, [], ◌∷◌}
use Prim.Native.Nat.{ℕ}
use native.Mathlib.Omega.{arith}
use Rattle.table.specs.Rows.{Forest}
use Rattle.table.specs.Fold.{nth, Pairwise, no_pair, pair}
use Rattle.table.proofs.Fold.{fold_related, related_at, related_tail}
use Rattle.kinds.specs.declared.StmtClass.{StmtClass}
use Rattle.kinds.specs.declared.StmtClass.TheVariants.{Absent, Match, Default, Decl, Blocking, Nonblocking, If, Return, Case, For, While, Repeat, Forever, Block, Fork, Systask, Task, Delayctrl, Eventctrl, Wait, Disable, Null, Unmodelled, NoStmt}
use Rattle.kinds.specs.Named.{stmt_class, has_default}
use Rattle.expr_effect.specs.Law.{ExprFacts, no_facts}
use Rattle.da.specs.declared.DaOut.{DaOut}
use Rattle.da.specs.declared.DaOut.TheVariants.{Falls, Jumps}
use Rattle.da.specs.declared.DaGiveUp.{DaGiveUp}
use Rattle.std.specs.Prelude.{Ok, Err}
use Rattle.da.specs.Outcome.{DaResult, State, is_written, gains, state, merge, ◌▷◌, go_on}
use Rattle.da.specs.Walk.{DaCtx, da_ctx, Walk, StmtRow, expr_reads, expr_out_writes, unless_read, unless_one_read, evaluated, gains_when, stmt, no_walk, else_from, if_else, block, arms, case_of, rounds, while_true, referring, walk_of, walk_at, walks, da_stmt}

-- the first gives up, or both answer the same
pub data AnswersAgree : DaResult → DaResult → Type 0 where
  gives_up : {stop : DaGiveUp} {s : DaResult} → AnswersAgree (Err stop) s
  same : {r : DaResult} → AnswersAgree r r

-- from every state; an arm has the same labels
pub record WalksAgree (w v : Walk) : Type 0 where
  pub from : (a : State) → AnswersAgree (w.walk a) (v.walk a)
  pub labels : v.labels ≡ w.labels
  pub default : v.is_default ≡ w.is_default
  pub absent : v.is_absent ≡ w.is_absent

-- siblings, place by place
abbrev AllAgree : List Walk → List Walk → Type 0
AllAgree = Pairwise WalksAgree

-- The parts of a rule

-- a test that both ask
agree_cond : (b : Bool) {r s t u : DaResult} → AnswersAgree r s → AnswersAgree t u → AnswersAgree (cond b r t) (cond b s u)
agree_cond true h k = h
agree_cond false h k = k

-- a test that the first alone asks, and that gives up
asked : (b : Bool) (stop : DaGiveUp) {r s : DaResult} → AnswersAgree r s → AnswersAgree (cond b (Err stop) r) s
asked true stop h = gives_up
asked false stop h = h

-- the Rust's `?`
then_same : (r : DaResult) {f g : DaOut → DaResult} → ((out : DaOut) → AnswersAgree (f out) (g out)) → AnswersAgree (r ▷ f) (r ▷ g)
then_same (Ok out) h = h out
then_same (Err stop) h = same

then : {r s : DaResult} {f g : DaOut → DaResult} → AnswersAgree r s → ((out : DaOut) → AnswersAgree (f out) (g out)) → AnswersAgree (r ▷ f) (s ▷ g)
then gives_up h = gives_up
then (same {r}) h = then_same r h

-- what is asked of expressions does not ask for `sole`
agree_read : (e : ExprFacts) (a : State) {r s : DaResult} → AnswersAgree r s → AnswersAgree (unless_read e a r) (unless_read e a s)
agree_read e a = agree_cond (not (is_written a) && expr_reads e) same

agree_reads : (es : List ExprFacts) (a : State) {r s : DaResult} → AnswersAgree r s → AnswersAgree (unless_one_read es a r) (unless_one_read es a s)
agree_reads [] a h = h
agree_reads (e ∷ es) a h = agree_read e a (agree_reads es a h)

agree_evaluated : (e : ExprFacts) {f g : State → DaResult} → ((a : State) → AnswersAgree (f a) (g a)) → (a : State) → AnswersAgree (evaluated e a f) (evaluated e a g)
agree_evaluated e h a = agree_read e (gains (expr_out_writes e) a) (h (gains (expr_out_writes e) a))

-- the statements after one of a block
agree_on : {f g : State → DaResult} → ((a : State) → AnswersAgree (f a) (g a)) → (out : DaOut) → AnswersAgree (go_on f out) (go_on g out)
agree_on h (Falls a) = h a
agree_on h Jumps = same

-- a row that is no arm
agree_stmt : {f g : State → DaResult} → ((a : State) → AnswersAgree (f a) (g a)) → WalksAgree (stmt f) (stmt g)
agree_stmt h = record { from = h; labels = refl; default = refl; absent = refl }

-- no statement
still : WalksAgree no_walk no_walk
still = record { from = λ a. same; labels = refl; default = refl; absent = refl }

at_place : (n : ℕ) {ws vs : List Walk} → AllAgree ws vs → WalksAgree (nth no_walk n ws) (nth no_walk n vs)
at_place n = related_at no_walk no_walk n still

-- The rules that walk children

-- an else is absent in both, or in neither
agree_else : {e e' : Walk} → WalksAgree e e' → (after in_else : State) → AnswersAgree (else_from e after in_else) (else_from e' after in_else)
agree_else {e} h after in_else = rw h.absent (agree_cond e.is_absent same (h.from in_else))

agree_if : (c : ExprFacts) {t t' e e' : Walk} → WalksAgree t t' → WalksAgree e e' → (a : State) → AnswersAgree (if_else c t e a) (if_else c t' e' a)
agree_if c h k =
    agree_evaluated c λ after.
    then (h.from (gains_when c true after)) λ a_then.
    then (agree_else k after (gains_when c false after)) λ a_else.
    same {r = Ok (merge a_then a_else)}

agree_block : {ws vs : List Walk} → AllAgree ws vs → (a : State) → AnswersAgree (block ws a) (block vs a)
agree_block no_pair a = same
agree_block (pair h hs) a = then (h.from a) (agree_on (agree_block hs))

-- an arm's labels are asked before it is walked
agree_arms : {ws vs : List Walk} → AllAgree ws vs → (after : State) (all : DaOut) → AnswersAgree (arms ws after all) (arms vs after all)
agree_arms no_pair after all = same
agree_arms (pair {x = w} h hs) after all = rw h.labels (agree_reads w.labels after (then (h.from after) λ arm. agree_arms hs after (merge all arm)))

-- after the arms: a default stands in both, or in neither
same_default : {ws vs : List Walk} → AllAgree ws vs → has_default (λ w. w.is_default) vs ≡ has_default (λ w. w.is_default) ws
same_default no_pair = refl
same_default (pair h hs) = rw (h.default, same_default hs)

agree_join : {ws vs : List Walk}
    → AllAgree ws vs
    → (after : State) (all : DaOut)
    → AnswersAgree (cond (has_default (λ w. w.is_default) ws && not (is_written after)) (Ok all) (Ok (Falls after))) (cond (has_default (λ w. w.is_default) vs && not (is_written after)) (Ok all) (Ok (Falls after)))
agree_join ps after all = rw (same_default ps) same

agree_case : (c : ExprFacts) {ws vs : List Walk} → AllAgree ws vs → (a : State) → AnswersAgree (case_of c ws a) (case_of c vs a)
agree_case c ps = agree_evaluated c λ after. then (agree_arms ps after Jumps) (agree_join ps after)

-- a body and a step, and before them a condition
agree_rounds : (r : StmtRow) (cannot_escape : Bool) {body body' step step' : Walk}
    → WalksAgree body body'
    → WalksAgree step step'
    → (after in_body : State)
    → AnswersAgree (rounds r cannot_escape body step after in_body) (rounds r cannot_escape body' step' after in_body)
agree_rounds r cannot_escape h k after in_body = then (h.from in_body) λ body_out. then (k.from in_body) λ step_out. same

agree_while : (r : StmtRow) (cannot_escape : Bool) (c : ExprFacts) {body body' step step' : Walk}
    → WalksAgree body body'
    → WalksAgree step step'
    → (a : State)
    → AnswersAgree (while_true r cannot_escape c body step a) (while_true r cannot_escape c body' step' a)
agree_while r cannot_escape c h k = agree_evaluated c λ after. agree_rounds r cannot_escape h k after (gains_when c true after)

module _ (x : ℕ) (marks : ℕ → Bool) where
  -- one of several writers of the net, and the only one
  abbrev shared : DaCtx
  shared = da_ctx x marks false

  abbrev alone : DaCtx
  alone = da_ctx x marks true

  -- the time test is asked of a shared net alone
  agree_referring : (r : StmtRow) {f g : State → DaResult} → ((a : State) → AnswersAgree (f a) (g a)) → WalksAgree (referring shared r f) (referring alone r g)
  agree_referring r h = agree_stmt λ a. asked r.advances _ (agree_cond r.no_ref same (h a))

  -- a row whose children agree; "if !ctx.sole" of a nonblocking assignment is the other test that a shared net alone fails
  agree_row : (class : StmtClass) (r : StmtRow) (es : List ExprFacts) (held : List (List ExprFacts)) {ws vs : List Walk}
      → AllAgree ws vs
      → WalksAgree (walk_of shared class r es held ws) (walk_of alone class r es held vs)
  agree_row Match r es held ps = record { from = (at_place 0 ps).from; labels = refl; default = refl; absent = refl }
  agree_row Default r es held ps = record { from = (at_place 0 ps).from; labels = refl; default = refl; absent = refl }
  agree_row Decl r es held ps = agree_stmt λ a. same
  agree_row Disable r es held ps = agree_stmt λ a. asked r.advances _ same
  agree_row Blocking r es held ps = agree_referring r λ a. same
  agree_row Nonblocking r es held ps = agree_referring r λ a. gives_up
  agree_row If r es held ps = agree_referring r (agree_if (nth no_facts 0 es) (at_place 1 ps) (at_place 2 ps))
  agree_row Block r es held ps = agree_referring r (agree_block ps)
  agree_row Fork r es held ps = agree_referring r λ a. same
  agree_row Case r es held ps = agree_referring r (agree_case (nth no_facts 0 es) (related_tail ps))
  agree_row For r es held ps =
      agree_referring r λ a.
      then ((at_place 0 ps).from a) λ out.
      agree_while r (nth true 3 r.cannot_escape) (nth no_facts 1 es) (at_place 3 ps) (at_place 2 ps) (state out)
  agree_row While r es held ps = agree_referring r (agree_while r (nth true 1 r.cannot_escape) (nth no_facts 0 es) (at_place 1 ps) still)
  agree_row Repeat r es held ps =
      agree_referring r (agree_evaluated (nth no_facts 0 es) λ after. agree_rounds r (nth true 1 r.cannot_escape) (at_place 1 ps) still after after)
  agree_row Forever r es held ps = agree_referring r λ a. agree_rounds r (nth true 0 r.cannot_escape) (at_place 0 ps) still a a
  agree_row Return r es held ps = agree_referring r λ a. same
  agree_row Task r es held ps = agree_referring r λ a. same
  agree_row Delayctrl r es held ps = agree_referring r λ a. agree_reads (nth [] 0 held) a ((at_place 1 ps).from a)
  agree_row Eventctrl r es held ps = agree_referring r λ a. agree_cond (not (is_written a) && (nth no_facts 0 es).refers) same ((at_place 1 ps).from a)
  agree_row Wait r es held ps = agree_referring r λ a. agree_read (nth no_facts 0 es) a ((at_place 1 ps).from a)
  agree_row Systask r es held ps = agree_referring r λ a. same
  agree_row Null r es held ps = agree_referring r λ a. same
  agree_row Unmodelled r es held ps = agree_referring r λ a. same
  agree_row Absent r es held ps = still
  agree_row NoStmt r es held ps = still

  -- all rows
  pub all_agree : (f : Forest) → AllAgree (walks shared f) (walks alone f)
  unfolding walk_at
  all_agree = fold_related (walk_at shared) (walk_at alone) λ k s lo hi cs ps. agree_row (stmt_class k) _ _ _ ps

  -- an accepted sheet with sole 0 has the same answer with sole 1
  pub accepted_alone : (f : Forest) (a : State) (out : DaOut) → da_stmt shared f a ≡ Ok out → da_stmt alone f a ≡ Ok out
  accepted_alone f a out = accepted ((at_place 0 (all_agree f)).from a)
    where
      accepted : {r s : DaResult} → AnswersAgree r s → r ≡ Ok out → s ≡ Ok out
      accepted gives_up h = let z : ◌≡◌ {A = ℕ} 0 1 = cc in absurd (omega arith)
      accepted same h = h
