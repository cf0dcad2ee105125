-- What the code answers on its way through the arms of da_stmt that walk statements. The rules are those of da's Walk; here they are
-- taken from rows of a table. Definitions only.
use Rattle.std.specs.Prelude.{◌≡◌, Bool, true, false, ◌||◌, List, ℕ, ◌+◌, Ok}
use Rattle.table.specs.Rows.{end_at, Forest, tree}
use Rattle.table.specs.Fold.{nth, tail}
use Rattle.kinds.specs.declared.StmtClass.{StmtClass}
use Rattle.kinds.specs.Named.{has_default}
use Rattle.expr_effect.specs.Law.{ExprFacts, no_facts, expr_facts}
use Rattle.loops.specs.Escape.{cannot_escapes}
use Rattle.loops.specs.Time.{advances_time}
use Rattle.da.specs.declared.DaOut.{DaOut}
use Rattle.da.specs.declared.DaOut.TheVariants.{Falls, Jumps}
use Rattle.da.specs.Outcome.{DaResult, State, merge, ◌▷◌}
use Rattle.da.specs.Walk.{DaCtx, Walk, no_walk, unless_one_read, else_from, if_else, block, arms, case_of, rounds, while_true, for_from, repeated, walks, da_stmt}
use Rattle.da_rows.specs.declared.Context.{Context}
use Rattle.da_rows.specs.declared.States.{States}
use Rattle.da_rows.specs.Steps.{untimed, stmt_at, facts_in, fact_in, case_out}
use Rattle.da_leaf.specs.declared.Construct.{Construct}
use Rattle.da_leaf.specs.declared.Construct.TheVariants.{StaysWritten, Leaf, Controlled, Arm, Block, If, Case, For, While, Repeat, Forever}
use Rattle.da_leaf.specs.Steps.{construct_of, LeafRow, leaf_at, referring_at}

-- the walk of the first of these siblings
abbrev pub walk_in : DaCtx → Forest → Walk
walk_in ctx f = nth no_walk 0 (walks ctx f)

-- the facts of the first of these, as an expression
abbrev pub fact_first : ℕ → Forest → ExprFacts
fact_first x f = nth no_facts 0 (expr_facts x f)

-- S::Block, whose children these are
abbrev pub block_in : DaCtx → Forest → State → DaResult
block_in ctx f a = block (walks ctx f) a

-- S::If
abbrev pub if_in : DaCtx → Forest → State → DaResult
if_in ctx f a = if_else (fact_first ctx.local f) (nth no_walk 1 (walks ctx f)) (nth no_walk 2 (walks ctx f)) a

-- S::If after its condition
abbrev pub branches : Walk → Walk → States → DaResult
branches t e s =
    t.walk s.when_true ▷ λ a_then.
    else_from e s.after s.when_false ▷ λ a_else.
    Ok (merge a_then a_else)

-- the same of these, then and else
abbrev pub branches_in : DaCtx → Forest → States → DaResult
branches_in ctx f s = branches (walk_in ctx f) (nth no_walk 1 (walks ctx f)) s

-- its else
abbrev pub else_in : DaCtx → Forest → State → State → DaResult
else_in ctx f after in_else = else_from (walk_in ctx f) after in_else

-- S::Case
abbrev pub case_in : DaCtx → Forest → State → DaResult
case_in ctx f a = case_of (fact_first ctx.local f) (tail (walks ctx f)) a

-- S::Case after its scrutinee, some arms having come to `all`, whether one was a default or not
abbrev pub arms_from : DaOut → Bool → List Walk → State → DaResult
arms_from all had_default ws after = arms ws after all ▷ λ out. Ok (case_out (had_default || has_default (λ w. w.is_default) ws) after out)

-- the same of these, all arms of the case
abbrev pub arms_in : DaCtx → Forest → State → DaResult
arms_in ctx f after = arms_from Jumps false (walks ctx f) after

-- one of its arms
abbrev pub arm_in : DaCtx → Forest → State → DaResult
arm_in ctx f after = unless_one_read (walk_in ctx f).labels after ((walk_in ctx f).walk after)

-- what `passes_over` tells: da_stmt of the first of these falls with the state that it is entered with, in every context
pub record PassedOver (f : Forest) (a : State) (r : Bool) : Type 0 where
  pub falls : r ≡ true → (ctx : Context) → Ok (Falls a) ≡ da_stmt (untimed ctx) f a

-- row i is a timing control
pub record ControlRow (rows : List ℕ) (class : StmtClass) (i end : ℕ) : Type 0 where
  pub leaf : LeafRow rows class i end
  pub controlled : construct_of class ≡ Controlled

-- S::DelayCtrl, S::EventCtrl, S::Wait in row i, which ends at `end`, and which stmt_no_ref never lets through: what is asked first, then
-- the body
abbrev pub controlled_at : DaCtx → List ℕ → StmtClass → ℕ → ℕ → State → DaResult
controlled_at ctx rows class i end a = referring_at ctx rows class i end a ▷ λ out. (nth no_walk 1 (walks ctx (tree rows (i + 1) end))).walk a

-- the rounds of a loop without a step, from the state after its condition and the one where a round starts
abbrev pub rounds_at : DaCtx → List ℕ → (row end : ℕ) → Forest → State → State → DaResult
rounds_at ctx rows row end body after in_body = rounds (stmt_at ctx rows row end) (nth true 0 (cannot_escapes body)) (walk_in ctx body) no_walk after in_body

-- S::For in row i, which ends at `end`
abbrev pub for_at : DaCtx → List ℕ → ℕ → ℕ → State → DaResult
for_at ctx rows i end a =
    for_from (stmt_at ctx rows i end) (nth true 3 (cannot_escapes (tree rows (i + 1) end))) (walk_in ctx (tree rows (i + 1) end))
    (nth no_facts 1 (facts_in ctx.local rows (i + 1) end)) (nth no_walk 2 (walks ctx (tree rows (i + 1) end)))
    (nth no_walk 3 (walks ctx (tree rows (i + 1) end))) a

-- S::While, which has no step
abbrev pub while_at : DaCtx → List ℕ → ℕ → ℕ → State → DaResult
while_at ctx rows i end a =
    while_true (stmt_at ctx rows i end) (nth true 1 (cannot_escapes (tree rows (i + 1) end))) (fact_in ctx.local rows (i + 1) end)
    (nth no_walk 1 (walks ctx (tree rows (i + 1) end))) no_walk a

-- S::Repeat
abbrev pub repeat_at : DaCtx → List ℕ → ℕ → ℕ → State → DaResult
repeat_at ctx rows i end a =
    repeated (stmt_at ctx rows i end) (nth true 1 (cannot_escapes (tree rows (i + 1) end))) (fact_in ctx.local rows (i + 1) end)
    (nth no_walk 1 (walks ctx (tree rows (i + 1) end))) a

-- S::Forever, which has no condition
abbrev pub forever_at : DaCtx → List ℕ → ℕ → ℕ → State → DaResult
forever_at ctx rows i end a = rounds (stmt_at ctx rows i end) (nth true 0 (cannot_escapes (tree rows (i + 1) end))) (walk_in ctx (tree rows (i + 1) end)) no_walk a a

-- da_stmt of row i, by how its class goes on
abbrev pub construct_at : DaCtx → List ℕ → StmtClass → ℕ → ℕ → State → Construct → DaResult
construct_at ctx rows class i end a StaysWritten = Ok (Falls a)
construct_at ctx rows class i end a Leaf = leaf_at ctx rows class i end a
construct_at ctx rows class i end a Controlled = controlled_at ctx rows class i end a
construct_at ctx rows class i end a Arm = da_stmt ctx (tree rows (i + 1) end) a
construct_at ctx rows class i end a Block = block_in ctx (tree rows (i + 1) end) a
construct_at ctx rows class i end a If = if_in ctx (tree rows (i + 1) end) a
construct_at ctx rows class i end a Case = case_in ctx (tree rows (i + 1) end) a
construct_at ctx rows class i end a For = for_at ctx rows i end a
construct_at ctx rows class i end a While = while_at ctx rows i end a
construct_at ctx rows class i end a Repeat = repeat_at ctx rows i end a
construct_at ctx rows class i end a Forever = forever_at ctx rows i end a

-- stmt_advances_time of row i
abbrev pub advances_alone : List ℕ → ℕ → Bool
advances_alone rows i = advances_time (tree rows i (end_at rows i))
