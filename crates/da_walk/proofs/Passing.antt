-- Statements that need not be walked where the local is written: what `passes_over` answers, and what its callers have of it. A timing
-- control asks nothing of a written local, so that its body decides; deeper it does not look.
use mathlib.Core.Path.{◌≡◌, refl, sym, ap, ◌∙◌}
use mathlib.Core.Bool.{Bool, true, false, not, ◌&&◌}
use mathlib.Core.List.{List}
use Prim.Native.Nat.{ℕ, ◌+◌, ◌≤◌, ◌<◌}
use borrow.Author.Tests.{not-false}
use Rattle.table.specs.declared.Siblings.{Siblings}
use Rattle.table.specs.declared.Node.{Node}
use Rattle.table.specs.Rows.{kind_at}
use Rattle.table.specs.Siblings.{forest, First, Children, Alone, Rest}
use Rattle.table.proofs.Parts.{children_forest, fold_next_part}
use Rattle.kinds.specs.declared.StmtClass.{StmtClass}
use Rattle.kinds.specs.Named.{stmt_class}
use Rattle.da.specs.declared.DaOut.TheVariants.{Falls}
use Rattle.std.specs.Prelude.{Ok}
use Rattle.da.specs.Outcome.{State, written}
use Rattle.da.specs.Walk.{Walk, no_walk, walk_at, da_stmt}
use Rattle.da_rows.specs.declared.Context.{Context}
use Rattle.da_rows.specs.Steps.{untimed}
use Rattle.da_leaf.specs.declared.Construct.{Construct}
use Rattle.da_leaf.specs.declared.Construct.TheVariants.{Controlled}
use Rattle.da_leaf.specs.Steps.{construct_of, stays_written}
use Rattle.da_leaf.proofs.Written.{control_falls}
use Rattle.da_walk.specs.Steps.{block_in, PassedOver, ControlRow, controlled_at, construct_at}
use Rattle.da_walk.proofs.Dispatch.{inner_none, row_walk, first_walk, inner_stays}
use Rattle.da_walk.proofs.Branching.{block_on}

pub passed_leaf : (rows : Siblings) (row : Node) (a b : State) → First rows row → b ≡ a && stays_written (stmt_class (kind_at row.table.now row.at)) → b ≡ true → PassedOver (forest rows) a true
passed_leaf rows row a b f e t = record { falls = λ x c. inner_stays c rows row f a b e t }

-- a timing control asks nothing of a written local, and its body decides
module _ (rows : Siblings) (row : Node) (below body : Siblings) (n : ℕ) (a : State) (class : StmtClass) (construct : Construct) (f : First rows row) (w : not a ≡ false)
    (p : n ≡ kind_at row.table.now row.at) (q : class ≡ stmt_class n) (e : construct ≡ construct_of class) (s : construct ≡ Controlled) (h : Children row below) (u : Rest below body) where
  control_walk : (c : Context) → da_stmt (untimed c) (forest rows) a ≡ da_stmt (untimed c) (forest body) a
  control_walk c =
      first_walk c rows row f a class (q ∙ rw p)
      ∙ rw (sym e ∙ s, not-false a w, control_falls c row.table.now row.at row.end class (sym e ∙ s), children_forest h)
      (sym (ap (λ (x : Walk). x.walk written) (fold_next_part (walk_at (untimed c)) no_walk 0 u)))

  pub passed_bare : body.to ≤ body.from → PassedOver (forest rows) a true
  passed_bare l = record { falls = λ x c. inner_none (untimed c) body a l ∙ sym (control_walk c) }

  pub passed_body : (b : State) (first : Node) → First body first → b ≡ a && stays_written (stmt_class (kind_at first.table.now first.at)) → PassedOver (forest rows) a b
  passed_body b first g t = record { falls = λ x c. inner_stays c body first g a b t x ∙ sym (control_walk c) }

pub ruleset passing = (passed_leaf, passed_bare, passed_body)

-- da_block goes on with the row after it
pub block_stays : (c : Context) (rows left : Siblings) (a₀ a b : State) (next : Siblings)
    → block_in (untimed c) (forest rows) a₀ ≡ block_in (untimed c) (forest left) a
    → left.from < left.to
    → PassedOver (forest left) a b
    → b ≡ true
    → Rest left next
    → block_in (untimed c) (forest rows) a₀ ≡ block_in (untimed c) (forest next) a
block_stays c rows left a₀ a b next w h o t r = block_on (untimed c) rows left a₀ a w (Ok (Falls a)) h (o.falls t c) (Falls a) a next refl refl r

-- da_controlled is done
pub control_stays : (c : Context) (row : Node) (alone : Siblings) (class : StmtClass) (a b : State)
    → ControlRow row.table.now class row.at row.end
    → Alone row alone
    → PassedOver (forest alone) a b
    → b ≡ true
    → Ok (Falls a) ≡ controlled_at (untimed c) row.table.now class row.at row.end a
control_stays c row alone class a b l m o t =
    let walk : da_stmt (untimed c) (forest alone) a ≡ construct_at (untimed c) row.table.now class row.at row.end a (construct_of class) =
    rw (m.same, m.starts, m.ends) (row_walk c row.table.now row.at row.end row.end a class row.alone.alone row.alone.after row.alone.is l.leaf.is) in
    o.falls t c ∙ walk ∙ rw l.controlled

pub ruleset passing_over = (block_stays, control_stays)
