-- The reference test: document 01, "How a path runs", "to refer is to be or hold an ident, call or lident whose path begins
-- with the local, or an opaque row", and da/reads.rs, which never looks at an event's iff. Definitions only.
use Rattle.std.specs.Prelude.{ℕ, ◌+◌, ◌-◌, ◌≤◌, ◌<◌, ◌≡◌, Bool, true, false, cond, ◌||◌, List, [], ◌∷◌, ◌++◌, Option, None, Some}
use Rattle.table.specs.Rows.{kind_at, end_at, Forest, tree}
use Rattle.table.specs.Fold.{Alg, fold, nth, tail}
use Rattle.kinds.specs.declared.ExprClass.{ExprClass}
use Rattle.kinds.specs.declared.ExprClass.TheVariants.{Ident, Call, Lident, Opaque, Event, Unary, Binary, Ternary, Paren, Other}
use Rattle.kinds.specs.Named.{expr_class}
use Rattle.reads.specs.PathRows.{begins}
use Rattle.reads.specs.declared.Role.{Role}
use Rattle.reads.specs.declared.Role.TheVariants.{ByPath, Always, HasIff, ByContent}
use Rattle.reads.specs.declared.Iff.{Iff}
use Rattle.reads.specs.declared.Iff.TheVariants.{Skipped, Included}

-- "an ident, call or lident whose path begins with the local, or an opaque row", by the class of a row; an event has an iff;
-- every other row refers by what it holds alone
abbrev pub role_of : ExprClass → Role
role_of Ident = ByPath
role_of Call = ByPath
role_of Lident = ByPath
role_of Opaque = Always
role_of Event = HasIff
role_of Unary = ByContent
role_of Binary = ByContent
role_of Ternary = ByContent
role_of Paren = ByContent
role_of Other = ByContent

-- whether a row of this role is itself a mention, by whether its path begins with the local
abbrev pub mentions_by : Role → Bool → Bool
mentions_by ByPath headed = headed
mentions_by Always headed = true
mentions_by HasIff headed = false
mentions_by ByContent headed = false

-- "event E E?(iff)"
abbrev pub has_iff : Role → Bool
has_iff ByPath = false
has_iff Always = false
has_iff HasIff = true
has_iff ByContent = false

-- the row itself, by its class and children
abbrev pub mentions : ℕ → ExprClass → Forest → Bool
mentions x k cs = mentions_by (role_of k) (begins x cs)

-- the same, of row r
abbrev pub mentions_at : ℕ → List ℕ → ℕ → Bool
mentions_at x rows r = mentions x (expr_class (kind_at rows r)) (tree rows (r + 1) (end_at rows r))

-- the rows of these siblings, in row order
unfoldable pub in_row_order : List (List Bool) → List Bool
in_row_order [] = []
in_row_order (m ∷ ms) = m ++ in_row_order ms

-- rows that are not looked at
unfoldable pub passed_over : List Bool → List Bool
passed_over [] = []
passed_over (m ∷ ms) = false ∷ passed_over ms

-- "iff ignored" (the walk), or included ("to refer is to be or hold"): whether the iff of a row of this class is left out
abbrev pub skips_iff : Iff → ExprClass → Bool
skips_iff Included k = false
skips_iff Skipped k = has_iff (role_of k)

-- what is seen of the rows below an event whose iff is left out; its first child is its expression
abbrev pub without_iff : List (List Bool) → List Bool
without_iff ms = nth [] 0 ms ++ passed_over (in_row_order (tail ms))

-- what is seen of the rows below a row
unfoldable pub seen_below : Iff → ExprClass → List (List Bool) → List Bool
seen_below iff k ms = cond (skips_iff iff k) (without_iff ms) (in_row_order ms)

-- a row and the rows below it, in row order: whether each is a mention that is looked at
unfoldable pub seen_at : Iff → ℕ → Alg (List Bool)
seen_at iff x k s lo hi cs ms = mentions x (expr_class k) cs ∷ seen_below iff (expr_class k) ms

-- the same of all rows of these siblings
unfoldable pub seen : Iff → ℕ → Forest → List Bool
seen iff x f = in_row_order (fold (seen_at iff x) f)

-- one of them is true
unfoldable pub some : List Bool → Bool
some [] = false
some (b ∷ bs) = b || some bs

-- the reference test, over any list of siblings: one of their rows refers to the local x
unfoldable pub refers : Iff → ℕ → Forest → Bool
refers iff x f = some (seen iff x f)

-- the first row of which the list says true, where the list's first row has number i
unfoldable pub first_true : ℕ → List Bool → Option ℕ
first_true i [] = None
first_true i (b ∷ bs) = cond b (Some i) (first_true (i + 1) bs)

-- the first row, in row order, that is a mention and is looked at, of the rows from `from` up to `to` (document 02, Paper 4)
unfoldable pub mention_in : Iff → ℕ → List ℕ → ℕ → ℕ → Option ℕ
mention_in iff x rows from to = first_true from (seen iff x (tree rows from to))

-- row r, of the rows from `from` up to `to`, is itself a mention
pub record MentionAt (x : ℕ) (rows : List ℕ) (from to r : ℕ) : Type 0 where
  pub after : from ≤ r
  pub within : r < to
  pub is : mentions_at x rows r ≡ true

-- what an answer of `first_mention` means: a row that is a mention and is looked at, none of the rows before it being so, and
-- one of the siblings refers; or none does
pub record MentionTold (iff : Iff) (x : ℕ) (rows : List ℕ) (from to : ℕ) (m : Option ℕ) : Type 0 where
  pub place : (r : ℕ) → m ≡ Some r → MentionAt x rows from to r
  pub looked_at : (r : ℕ) → m ≡ Some r → nth false (r - from) (seen iff x (tree rows from to)) ≡ true
  pub first : (r i : ℕ) → m ≡ Some r → from ≤ i → i < r → nth false (i - from) (seen iff x (tree rows from to)) ≡ false
  pub found : (r : ℕ) → m ≡ Some r → refers iff x (tree rows from to) ≡ true
  pub nowhere : m ≡ None → refers iff x (tree rows from to) ≡ false
