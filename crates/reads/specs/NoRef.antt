-- The uses of the reference test, by their names in da/reads.rs. Definitions only.
use Rattle.std.specs.Prelude.{ℕ, Bool, true, false, ◌&&◌, not, eqb}
use Rattle.table.specs.Rows.{Forest, nil, node}
use Rattle.kinds.specs.declared.StmtClass.{StmtClass}
use Rattle.kinds.specs.declared.StmtClass.TheVariants.{Absent, Match, Default, Decl, Blocking, Nonblocking, If, Return, Case, For, While, Repeat}
use Rattle.kinds.specs.declared.StmtClass.TheVariants.{Forever, Block, Fork, Systask, Task, Delayctrl, Eventctrl, Wait, Disable, Null, Unmodelled, NoStmt}
use Rattle.kinds.specs.Named.{stmt_class}
use Rattle.reads.specs.declared.Iff.TheVariants.{Skipped}
use Rattle.reads.specs.PathRows.{begins, segments}
use Rattle.reads.specs.Mentions.{refers}

-- expr_no_ref of an expression or of each of a list of them: "certainly does NOT reference `name`"
abbrev pub expr_no_ref : ℕ → Forest → Bool
expr_no_ref x f = not (refers Skipped x f)

-- lvalue_no_ref: "write target and any select index"
abbrev pub lvalue_no_ref : ℕ → Forest → Bool
lvalue_no_ref = expr_no_ref

-- sensitivity_no_ref: a star names nothing, a list is its events' expressions, without their iff
abbrev pub sensitivity_no_ref : ℕ → Forest → Bool
sensitivity_no_ref = expr_no_ref

-- intra_event_no_ref: "Both the repeat count and the event expressions"
abbrev pub intra_event_no_ref : ℕ → Forest → Bool
intra_event_no_ref = expr_no_ref

-- how stmt_no_ref treats a statement
pub data Vetting : Type 0 where
  nothing children two_segments not_vetted : Vetting

-- stmt_no_ref's arms: a null statement; assignments and system tasks by all that they hold; a task; "any statement form not
-- fully vetted"
abbrev pub vetting : StmtClass → Vetting
vetting Null = nothing
vetting Blocking = children
vetting Nonblocking = children
vetting Systask = children
vetting Task = two_segments
vetting Absent = not_vetted
vetting Match = not_vetted
vetting Default = not_vetted
vetting Decl = not_vetted
vetting If = not_vetted
vetting Return = not_vetted
vetting Case = not_vetted
vetting For = not_vetted
vetting While = not_vetted
vetting Repeat = not_vetted
vetting Forever = not_vetted
vetting Block = not_vetted
vetting Fork = not_vetted
vetting Delayctrl = not_vetted
vetting Eventctrl = not_vetted
vetting Wait = not_vetted
vetting Disable = not_vetted
vetting Unmodelled = not_vetted
vetting NoStmt = not_vetted

-- the answer of each arm; a task is vetted "if cn.segments.len() == 2", by its first segment and its arguments
abbrev pub vetted : Vetting → ℕ → Forest → Bool
vetted nothing x cs = true
vetted children x cs = expr_no_ref x cs
vetted two_segments x cs = eqb (segments cs) 2 && (not (begins x cs) && expr_no_ref x cs)
vetted not_vetted x cs = false

-- stmt_no_ref of the first of these siblings; where there is none, nothing is vetted
unfoldable pub stmt_no_ref : ℕ → Forest → Bool
stmt_no_ref x nil = false
stmt_no_ref x (node k s lo hi cs others) = vetted (vetting (stmt_class k)) x cs
