-- The time test asked once. da_stmt asks at every statement whether time can advance in it; where it can in a statement it can in every
-- statement around it, so asking at the outermost alone gives the same answer. By induction over the tree below it.
use mathlib.Core.Path.{◌≡◌, refl, ap, ◌∙◌}
use mathlib.Core.Bool.{Bool, true, false, cond, ◌&&◌, not, and-false}
use mathlib.Core.List.{List}
use Prim.Native.Nat.{ℕ, ◌<◌}
use borrow.Author.Tests.{ltb-true}
use Rattle.table.specs.Rows.{Forest, nil, node}
use Rattle.table.specs.Fold.{fold}
use Rattle.kinds.specs.Kinds.{S, class_number, kinds, entry, of_class, is_kind, in_class}
use Rattle.kinds.specs.Words.{same, place_from, kind_of}
use Rattle.kinds.specs.declared.StmtClass.{StmtClass}
use Rattle.kinds.specs.declared.StmtClass.TheVariants.{Absent, Match, Default, Decl, Blocking, Nonblocking, If, Return, Case, For, While, Repeat, Forever, Block, Fork, Systask, Task, Delayctrl, Eventctrl, Wait, Disable, Null, Unmodelled, NoStmt}
use Rattle.kinds.specs.Named.{kind_number, numbered, stmt_words, stmt_class_in, stmt_class}
use Rattle.kinds.proofs.Below.{neither, both_true, every_below, below}
use Rattle.reads.specs.Mentions.{some}
use Rattle.expr_effect.specs.Law.{ExprFacts}
use Rattle.loops.proofs.Trees.{still_below}
use Rattle.loops.specs.Time.{advances_at, advances, advances_time}
use Rattle.da.specs.declared.Reason.TheVariants.{SharedNet}
use Rattle.da.specs.Outcome.{DaResult, State, give_up}
use Rattle.da.specs.Walk.{DaCtx, da_ctx, Walk, StmtRow, stmt, walk_of, walk_at, walks, da_stmt}

-- the classes of statements; the others are "no statements, and are not tested"
abbrev pub is_tested : StmtClass → Bool
is_tested Blocking = true
is_tested Nonblocking = true
is_tested If = true
is_tested Return = true
is_tested Case = true
is_tested For = true
is_tested While = true
is_tested Repeat = true
is_tested Forever = true
is_tested Block = true
is_tested Fork = true
is_tested Systask = true
is_tested Task = true
is_tested Delayctrl = true
is_tested Eventctrl = true
is_tested Wait = true
is_tested Disable = true
is_tested Null = true
is_tested Unmodelled = true
is_tested Absent = false
is_tested Match = false
is_tested Default = false
is_tested Decl = false
is_tested NoStmt = false

-- a kind that document 01 lists under S is of such a class, by a test of the whole table
abbrev listed : ℕ → Bool
listed k = cond (in_class S k) (is_tested (stmt_class k)) true

all_listed : every_below listed 66 ≡ true
unfolding every_below in_class is_kind of_class entry class_number stmt_class stmt_class_in stmt_words numbered kind_number kind_of place_from kinds same
all_listed = refl

known : (k : ℕ) → in_class S k ≡ true → k < 66
unfolding in_class is_kind
known k h = ltb-true k 66 (both_true (is_kind k) (of_class S (entry k)) h).0

pub statement_tested : (k : ℕ) → in_class S k ≡ true → is_tested (stmt_class k) ≡ true
statement_tested k h = rw h at (below listed 66 all_listed k (known k h))

-- where time cannot advance in a row, it cannot in the rows below it; where it cannot in any of these siblings, it cannot in the
-- first, nor in the others
below_still : (k s lo hi : ℕ) (cs : Forest) → advances_at k s lo hi cs (advances cs) ≡ false → advances_time cs ≡ false
unfolding fold
below_still k s lo hi cs h = still_below k s lo hi cs nil h

siblings_still : (k s lo hi : ℕ) (cs others : Forest)
    → advances_time (node k s lo hi cs others) ≡ false
    → (advances_at k s lo hi cs (advances cs) ≡ false) × (advances_time others ≡ false)
unfolding fold advances_time some
siblings_still k s lo hi cs others h = neither (advances_at k s lo hi cs (advances cs)) (some (advances others)) h

-- the test of a walk is a choice between two walks
tested : (b : Bool) (stop : DaResult) (arm : State → DaResult) → stmt (λ a. cond b stop (arm a)) ≡ cond b (stmt λ a. stop) (stmt arm)
tested true stop arm = refl
tested false stop arm = refl

module _ (x : ℕ) (marks : ℕ → Bool) (sole : Bool) where
  -- a context that asks, and the same that does not
  abbrev pub asking : DaCtx
  asking = record { local = x; marks = marks; sole = sole; timed = true }

  abbrev pub not_asking : DaCtx
  not_asking = record { local = x; marks = marks; sole = sole; timed = false }

  -- "if !ctx.sole && stmt_advances_time(st, ..)" is the first thing that is asked of a statement
  asked_first : (class : StmtClass) (r : StmtRow) (es : List ExprFacts) (held : List (List ExprFacts)) (ws : List Walk)
      → walk_of asking class r es held ws
      ≡ cond (is_tested class && r.advances) (stmt λ a. give_up SharedNet r.lo r.hi) (walk_of not_asking class r es held ws)
  asked_first Blocking r es held ws = tested r.advances _ _
  asked_first Nonblocking r es held ws = tested r.advances _ _
  asked_first If r es held ws = tested r.advances _ _
  asked_first Return r es held ws = tested r.advances _ _
  asked_first Case r es held ws = tested r.advances _ _
  asked_first For r es held ws = tested r.advances _ _
  asked_first While r es held ws = tested r.advances _ _
  asked_first Repeat r es held ws = tested r.advances _ _
  asked_first Forever r es held ws = tested r.advances _ _
  asked_first Block r es held ws = tested r.advances _ _
  asked_first Fork r es held ws = tested r.advances _ _
  asked_first Systask r es held ws = tested r.advances _ _
  asked_first Task r es held ws = tested r.advances _ _
  asked_first Delayctrl r es held ws = tested r.advances _ _
  asked_first Eventctrl r es held ws = tested r.advances _ _
  asked_first Wait r es held ws = tested r.advances _ _
  asked_first Disable r es held ws = tested r.advances _ _
  asked_first Null r es held ws = tested r.advances _ _
  asked_first Unmodelled r es held ws = tested r.advances _ _
  asked_first Absent r es held ws = refl
  asked_first Match r es held ws = refl
  asked_first Default r es held ws = refl
  asked_first Decl r es held ws = refl
  asked_first NoStmt r es held ws = refl

  -- where time cannot advance, asking changes nothing
  pub still_unasked : (f : Forest) → advances_time f ≡ false → walks asking f ≡ walks not_asking f
  unfolding fold walk_at
  still_unasked nil h = refl
  still_unasked (node k s lo hi cs others) h =
      let still = siblings_still k s lo hi cs others h in
      let below = still_unasked cs (below_still k s lo hi cs still.0) in
      rw (below, still_unasked others still.1, asked_first, still.0, and-false (is_tested (stmt_class k)))

  -- a statement whose children are walked alike, where time cannot advance in it
  row_once : (class : StmtClass) (r : StmtRow) (es : List ExprFacts) (held : List (List ExprFacts)) (ws vs : List Walk) (a : State)
      → is_tested class ≡ true
      → (r.advances ≡ false → ws ≡ vs)
      → (walk_of asking class r es held ws).walk a ≡ cond r.advances (give_up SharedNet r.lo r.hi) ((walk_of not_asking class r es held vs).walk a)
  row_once class r es held ws vs a h children = ap (λ w. w.walk a) (rw h at (asked_first class r es held ws)) ∙ go r.advances refl
    where
      go : (b : Bool)
          → r.advances ≡ b
          → (cond r.advances (stmt λ a. give_up SharedNet r.lo r.hi) (walk_of not_asking class r es held ws)).walk a
          ≡ cond r.advances (give_up SharedNet r.lo r.hi) ((walk_of not_asking class r es held vs).walk a)
      go true q = rw q
      go false q = rw (q, children q)

  -- asking at every statement gives what asking at this one gives
  pub time_once : (k s lo hi : ℕ) (cs others : Forest) (a : State)
      → in_class S k ≡ true
      → da_stmt asking (node k s lo hi cs others) a
      ≡ cond (advances_at k s lo hi cs (advances cs)) (give_up SharedNet lo hi) (da_stmt not_asking (node k s lo hi cs others) a)
  unfolding fold walk_at
  time_once k s lo hi cs others a h =
      row_once (stmt_class k) _ _ _ _ _ a (statement_tested k h) λ still. still_unasked cs (below_still k s lo hi cs still)

-- the same of the Rust's context
pub asked_once : (x : ℕ) (marks : ℕ → Bool) (sole : Bool) (k s lo hi : ℕ) (cs others : Forest) (a : State)
    → in_class S k ≡ true
    → da_stmt (da_ctx x marks sole) (node k s lo hi cs others) a
    ≡ cond (not sole && advances_at k s lo hi cs (advances cs)) (give_up SharedNet lo hi) (da_stmt (not_asking x marks sole) (node k s lo hi cs others) a)
asked_once x marks true k s lo hi cs others a h = refl
asked_once x marks false k s lo hi cs others a h = time_once x marks false k s lo hi cs others a h
