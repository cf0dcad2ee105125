-- How da_inner goes on at a row, by the class of its statement: class by class, what da_stmt comes to is what the row's construct comes
-- to.
use mathlib.Core.Path.{◌≡◌, refl, sym, ap, ◌∙◌}
use mathlib.Core.Bool.{Bool, true, false, cond, not, ◌&&◌}
use mathlib.Core.List.{List}
use Prim.Native.Nat.{ℕ, ◌+◌, ◌≤◌, ◌<◌}
use Rattle.table.specs.declared.Siblings.{Siblings}
use Rattle.table.specs.declared.Node.{Node}
use Rattle.table.specs.Rows.{kind_at, end_at, Forest, tree, Nested}
use Rattle.table.specs.Siblings.{forest, First, Children}
use Rattle.table.specs.Fold.{nth}
use Rattle.table.proofs.Fold.{fold_none, fold_some}
use Rattle.table.proofs.Parts.{children_forest}
use Rattle.kinds.specs.declared.StmtClass.{StmtClass}
use Rattle.kinds.specs.declared.StmtClass.TheVariants as K
use Rattle.kinds.specs.Named.{stmt_class}
use Rattle.kinds.proofs.Below.{both_true}
use Rattle.reads.specs.NoRef.{vetting, vetted, stmt_no_ref}
use Rattle.da.specs.declared.DaOut.TheVariants.{Falls}
use Rattle.std.specs.Prelude.{Ok}
use Rattle.da.specs.declared.Reason.{Reason}
use Rattle.da.specs.declared.Reason.TheVariants.{ControlReads}
use Rattle.da.specs.Outcome.{DaResult, State, is_written, give_up, ◌▷◌}
use Rattle.da.specs.Walk.{DaCtx, Walk, no_walk, held_facts, walk_of, walk_at, walks, da_stmt}
use Rattle.da_rows.specs.declared.Context.{Context}
use Rattle.da_rows.specs.Steps.{untimed, stmt_at, facts_in, fact_in, held_in}
use Rattle.da_rows.proofs.Asking.{unless_then, unless_one_then}
use Rattle.da_leaf.specs.declared.Construct.{Construct}
use Rattle.da_leaf.specs.declared.Construct.TheVariants.{StaysWritten, Arm, Block, If, Case}
use Rattle.da_leaf.specs.Steps.{construct_of, stays_written, construct_from}
use Rattle.da_leaf.proofs.Written.{stays_falls}
use Rattle.da_walk.specs.Steps.{block_in, if_in, case_in, construct_at}

-- no row
pub inner_none : (ctx : DaCtx) (rows : Siblings) (a : State) → rows.to ≤ rows.from → Ok (Falls a) ≡ da_stmt ctx (forest rows) a
inner_none ctx rows a h = sym (ap (λ (ws : List Walk). (nth no_walk 0 ws).walk a) (fold_none (walk_at ctx) rows.table.now rows.from rows.to h))

-- a test that gives up, before the body
stop_then : (b : Bool) (reason : Reason) (lo hi : ℕ) (a : State) (body : DaResult) → cond b (give_up reason lo hi) body ≡ cond b (give_up reason lo hi) (Ok (Falls a)) ▷ λ out. body
stop_then true reason lo hi a body = refl
stop_then false reason lo hi a body = refl

module _ (c : Context) (rows : List ℕ) (i end : ℕ) (a : State) where
  -- the row is walked as its class goes on, where stmt_no_ref is that of the class: no class that walks statements is vetted
  walked_by : (class : StmtClass)
      → (stmt_at (untimed c) rows i end).no_ref ≡ vetted (vetting class) c.local (tree rows (i + 1) end)
      → (walk_of (untimed c) class (stmt_at (untimed c) rows i end) (facts_in c.local rows (i + 1) end) (held_facts c.local (tree rows (i + 1) end)) (walks (untimed c) (tree rows (i + 1) end))).walk a
      ≡ construct_at (untimed c) rows class i end a (construct_of class)
  walked_by K.Decl h = refl
  walked_by K.Blocking h = refl
  walked_by K.Nonblocking h = refl
  walked_by K.Return h = refl
  walked_by K.Fork h = refl
  walked_by K.Systask h = refl
  walked_by K.Task h = refl
  walked_by K.Disable h = refl
  walked_by K.Null h = refl
  walked_by K.Unmodelled h = refl
  walked_by K.Absent h = refl
  walked_by K.NoStmt h = refl
  walked_by K.Match h = refl
  walked_by K.Default h = refl
  walked_by K.Block h = rw h
  walked_by K.If h = rw h
  walked_by K.Case h = rw h
  walked_by K.For h = rw h
  walked_by K.While h = rw h
  walked_by K.Repeat h = rw h
  walked_by K.Forever h = rw h
  walked_by K.Delayctrl h = rw h (unless_one_then (held_in c.local rows (i + 1) end) a _)
  walked_by K.Eventctrl h = rw h (stop_then (not (is_written a) && (fact_in c.local rows (i + 1) end).refers) ControlReads _ _ a _)
  walked_by K.Wait h = rw h (unless_then (fact_in c.local rows (i + 1) end) a _)

-- da_stmt of a row is what its construct comes to
module _ (c : Context) (rows : List ℕ) (from to end : ℕ) (a : State) (class : StmtClass) (g : Nested rows from to) (h : from < to) (e : end ≡ end_at rows from) (q : class ≡ stmt_class (kind_at rows from)) where
  vetted_as : (stmt_at (untimed c) rows from end).no_ref ≡ vetted (vetting class) c.local (tree rows (from + 1) end)
  unfolding stmt_no_ref
  vetted_as = rw q

  pub row_walk : da_stmt (untimed c) (tree rows from to) a ≡ construct_at (untimed c) rows class from end a (construct_of class)
  unfolding walk_at
  row_walk = ap (λ (ws : List Walk). (nth no_walk 0 ws).walk a) (fold_some (walk_at (untimed c)) g h) ∙ rw (← e, ← q) (walked_by c rows from end a class vetted_as)

  -- where a written local stays written, it falls
  row_stays : (a && stays_written class ≡ true) → Ok (Falls a) ≡ da_stmt (untimed c) (tree rows from to) a
  row_stays s =
      let both = both_true a (stays_written class) s in
      let falls = stays_falls c rows from end class both.1 in
      sym (row_walk ∙ rw (falls.0, both.0) falls.1)

  row_from : da_stmt (untimed c) (tree rows from to) a ≡ construct_at (untimed c) rows class from end a (construct_from class a)
  row_from = go (a && stays_written class) refl
    where
      go : (b : Bool) → a && stays_written class ≡ b → da_stmt (untimed c) (tree rows from to) a ≡ construct_at (untimed c) rows class from end a (cond b StaysWritten (construct_of class))
      go true s = sym (row_stays s)
      go false s = row_walk

module _ (c : Context) (rows : Siblings) (row : Node) (f : First rows row) (a : State) where
  -- the first row's statement, as its class goes on
  pub first_walk : (class : StmtClass) → class ≡ stmt_class (kind_at row.table.now row.at) → da_stmt (untimed c) (forest rows) a ≡ construct_at (untimed c) row.table.now class row.at row.end a (construct_of class)
  first_walk class q = row_walk c rows.table.now rows.from rows.to (end_at rows.table.now rows.from) a class rows.nested f.some refl (q ∙ rw (f.same, f.starts)) ∙ rw (f.same, f.starts, f.ends)

  -- a statement that a written local stays written in
  pub inner_stays : (b : State) → b ≡ a && stays_written (stmt_class (kind_at row.table.now row.at)) → b ≡ true → Ok (Falls a) ≡ da_stmt (untimed c) (forest rows) a
  inner_stays b e t =
      row_stays c rows.table.now rows.from rows.to (end_at rows.table.now rows.from) a (stmt_class (kind_at rows.table.now rows.from)) rows.nested f.some refl refl (rw (← f.same, ← f.starts) (sym e ∙ t))

  -- by what stands in the code where it returns
  pub inner_by : (n : ℕ) (class : StmtClass) (construct named : Construct) (r : DaResult)
      → n ≡ kind_at row.table.now row.at
      → class ≡ stmt_class n
      → construct ≡ construct_from class a
      → construct ≡ named
      → r ≡ construct_at (untimed c) row.table.now class row.at row.end a named
      → r ≡ da_stmt (untimed c) (forest rows) a
  inner_by n class construct named r p q e s v =
      v ∙ rw (f.same, f.starts, f.ends) (sym (row_from c rows.table.now rows.from rows.to (end_at rows.table.now rows.from) a class rows.nested f.some refl (q ∙ rw (p, f.same, f.starts)) ∙ rw (← e, s)))

  -- where the construct is told of what the row holds
  module _ (below : Siblings) (n : ℕ) (class : StmtClass) (construct : Construct) (r : DaResult) (h : Children row below) (p : n ≡ kind_at row.table.now row.at) (q : class ≡ stmt_class n) (e : construct ≡ construct_from class a) where
    pub inner_arm : construct ≡ Arm → r ≡ da_stmt (untimed c) (forest below) a → r ≡ da_stmt (untimed c) (forest rows) a
    inner_arm s v = inner_by n class construct Arm r p q e s (v ∙ rw (children_forest h))

    pub inner_block : construct ≡ Block → r ≡ block_in (untimed c) (forest below) a → r ≡ da_stmt (untimed c) (forest rows) a
    inner_block s v = inner_by n class construct Block r p q e s (v ∙ rw (children_forest h))

    pub inner_if : construct ≡ If → r ≡ if_in (untimed c) (forest below) a → r ≡ da_stmt (untimed c) (forest rows) a
    inner_if s v = inner_by n class construct If r p q e s (v ∙ rw (children_forest h))

    pub inner_case : construct ≡ Case → r ≡ case_in (untimed c) (forest below) a → r ≡ da_stmt (untimed c) (forest rows) a
    inner_case s v = inner_by n class construct Case r p q e s (v ∙ rw (children_forest h))

pub ruleset dispatch = (inner_none, inner_by, inner_arm, inner_block, inner_if, inner_case)
