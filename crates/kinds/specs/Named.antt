-- The kinds that the rules of references, evaluation, effects and statements speak of by name.
use Rattle.std.specs.Prelude.{ℕ, ◌-◌, Bool, false, cond, ◌||◌, Option, Some, None, List, [], ◌∷◌, eqb, leb}
use Prim.Native.String.{String}
use Rattle.kinds.specs.declared.ExprClass.{ExprClass}
use Rattle.kinds.specs.declared.ExprClass.TheVariants.{Ident, Call, Lident, Opaque, Event, Unary, Binary, Ternary, Paren, Other}
use Rattle.kinds.specs.declared.StmtClass.{StmtClass}
use Rattle.kinds.specs.declared.StmtClass.TheVariants.{Absent, NoStmt, Match, Default, Decl, Blocking, Nonblocking, If, Return, Case, For, While, Repeat}
use Rattle.kinds.specs.declared.StmtClass.TheVariants.{Forever, Block, Fork, Systask, Task, Delayctrl, Eventctrl, Wait, Disable, Null, Unmodelled}
use Rattle.kinds.specs.Kinds.{bytes}
use Rattle.kinds.specs.Words.{kind_of}

-- a kind's number; 66, the first that is no kind's, where there is none
unfoldable pub kind_number : Option ℕ → ℕ
kind_number (Some k) = k
kind_number None = 66

-- "Kind numbers count from 0 in this order": the number of the kind with this word
unfoldable pub numbered : String → ℕ
numbered word = kind_number (kind_of (bytes word))

-- a kind number by the word of its kind; `Other` is every kind that no rule of an expression or a target names
unfoldable pub expr_class : ℕ → ExprClass
expr_class k =
    cond (eqb k (numbered "ident")) Ident
    (cond (eqb k (numbered "call")) Call
    (cond (eqb k (numbered "lident")) Lident
    (cond (eqb k (numbered "opaque")) Opaque
    (cond (eqb k (numbered "event")) Event
    (cond (eqb k (numbered "unary")) Unary
    (cond (eqb k (numbered "binary")) Binary
    (cond (eqb k (numbered "ternary")) Ternary
    (cond (eqb k (numbered "paren")) Paren
    Other))))))))

-- the kinds that rules of statements name. "the unmodelled forms: randstmt, trigger, waitfork, concurrent through cover, and the
-- statement error"
unfoldable pub stmt_words : List (String × StmtClass)
stmt_words =
    ("none", Absent) ∷
    ("match", Match) ∷
    ("default", Default) ∷
    ("decl", Decl) ∷
    ("blocking", Blocking) ∷
    ("nonblocking", Nonblocking) ∷
    ("if", If) ∷
    ("return", Return) ∷
    ("case", Case) ∷
    ("for", For) ∷
    ("while", While) ∷
    ("repeat", Repeat) ∷
    ("forever", Forever) ∷
    ("block", Block) ∷
    ("fork", Fork) ∷
    ("systask", Systask) ∷
    ("task", Task) ∷
    ("randstmt", Unmodelled) ∷
    ("delayctrl", Delayctrl) ∷
    ("eventctrl", Eventctrl) ∷
    ("trigger", Unmodelled) ∷
    ("wait", Wait) ∷
    ("disable", Disable) ∷
    ("waitfork", Unmodelled) ∷
    ("concurrent", Unmodelled) ∷
    ("passign", Unmodelled) ∷
    ("deassign", Unmodelled) ∷
    ("force", Unmodelled) ∷
    ("release", Unmodelled) ∷
    ("deferred", Unmodelled) ∷
    ("cover", Unmodelled) ∷
    ("null", Null) ∷
    ("error", Unmodelled) ∷
    []

-- the class of the first word whose kind has this number
unfoldable pub stmt_class_in : List (String × StmtClass) → ℕ → StmtClass
stmt_class_in [] k = NoStmt
stmt_class_in (e ∷ more) k = cond (eqb k (numbered e.0)) e.1 (stmt_class_in more k)

-- a kind number by the word of its kind; `NoStmt` is every kind that no rule of a statement names
unfoldable pub stmt_class : ℕ → StmtClass
stmt_class k = stmt_class_in stmt_words k

-- "A call's side is its effect: 0 inert, 1 writes, 2 reads, 3 unknown. A task's is effect plus 4 if it suspends": the effect alone
unfoldable pub task_effect : ℕ → ℕ
task_effect s = cond (leb 4 s) (s - 4) s

-- one of the arms of a case is a default, by a test of arms: "no arm only where no default stands" (document 01, "How a path runs");
-- has_default of da/mod.rs
abbrev pub has_default : {A : Type 0} → (A → Bool) → List A → Bool
has_default is_default [] = false
has_default is_default (arm ∷ arms) = is_default arm || has_default is_default arms
