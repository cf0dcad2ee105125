-- The premise of demand 3 on iff: no event's iff refers to the local, where "to refer is to be or hold". Definitions only.
use Rattle.std.specs.Prelude.{ℕ, Bool, true, ◌&&◌, not, List, [], ◌∷◌}
use Rattle.table.specs.Rows.{Forest, rest}
use Rattle.table.specs.Fold.{Alg, fold}
use Rattle.kinds.specs.declared.ExprClass.{ExprClass}
use Rattle.kinds.specs.Named.{expr_class}
use Rattle.reads.specs.declared.Iff.TheVariants.{Included}
use Rattle.reads.specs.Mentions.{role_of, has_iff, refers}

-- the rows after an event's expression, which are its iff, hold no mention
unfoldable pub iff_here : ℕ → ExprClass → Forest → Bool
iff_here x k cs = not (has_iff (role_of k) && refers Included x (rest cs))

-- all of them are true
unfoldable pub every : List Bool → Bool
every [] = true
every (b ∷ bs) = b && every bs

-- a row, and the rows below it
unfoldable pub iff_at : ℕ → Alg Bool
iff_at x k s lo hi cs bs = iff_here x (expr_class k) cs && every bs

-- the premise of demand 3 on iff, of all rows of these siblings
unfoldable pub iff_quiet : ℕ → Forest → Bool
iff_quiet x f = every (fold (iff_at x) f)
