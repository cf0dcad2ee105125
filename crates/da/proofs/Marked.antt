-- Document 01, "Worked statements", and beside them its traps and the arms of da_stmt that surprise: "The marked statements are
-- evaluated by the definitions as rows of a single joint fact".
use mathlib.Core.Path.{◌≡◌, refl}
use mathlib.Core.Bool.{Bool, true, false}
use mathlib.Core.List.{List, [], ◌∷◌, ◌++◌, map}
use Prim.Native.Nat.{ℕ, zero, suc, ◌+◌}
use Rattle.table.specs.Rows.{Forest, nil, node}
use Rattle.table.specs.Fold.{fold}
use Rattle.kinds.specs.Kinds.{kinds, entry, class_number, of_class, is_kind, in_class, takes, once, many, fits}
use Rattle.kinds.specs.Words.{same, place_from, kind_of}
use Rattle.kinds.specs.Named.{kind_number, numbered, expr_class, stmt_words, stmt_class_in, stmt_class, task_effect}
use Rattle.checks.specs.Checks.{kind_alone}
use Rattle.reads.specs.PathRows.{is_named, begins, count, segments, is_local, is_marked, is_loop_jump}
use Rattle.reads.specs.Mentions.{in_row_order, passed_over, seen_below, seen_at, seen, some, refers}
use Rattle.reads.specs.NoRef.{stmt_no_ref}
use Rattle.reads.specs.Iffs.{every}
use Rattle.paths.proofs.Strength.{Row, row, x, y, w, ident, lident, call_row, X, W, lit, absent, and!, or!, plus, paren, event}
use Rattle.stmt_paths.proofs.Strength.{b, j, marks, timed, assign, assign_later, delay, on, intra, to_x, to_y, writes, reads, block, decl, if_else, returns, case_of, arm, default, for, while, repeat, forever, disable, task, delayed, awaits, wait, null}
use Rattle.effect_rules.specs.Rules.{unary_form, binary_form, call_form}
use Rattle.expr_effect.specs.Effect.{expr_effect_at}
use Rattle.expr_effect.specs.Law.{facts_at}
use Rattle.loops.specs.Fitting.{fit_here, fit_at, fitting}
use Rattle.loops.specs.Escape.{cannot_escape_at}
use Rattle.loops.specs.Time.{waiting_words, is_one_of, lets_time_pass, advances_at}
use Rattle.da.specs.declared.DaOut.TheVariants.{Falls, Jumps}
use Rattle.std.specs.Prelude.{Ok, Err}
use Rattle.da.specs.Outcome.{DaResult, State, unwritten, written}
use Rattle.da.specs.Walk.{da_ctx, held_facts_at, walk_at, da_stmt}

-- Rows that the facts about paths have no name for: `c`, `y=1;`, an if without else, and others

abbrev C : Row
C = ident (b ∷ [])

abbrev set_y : Row
set_y = assign to_y lit

abbrev if : Row → Row → Row
if e t = if_else e t absent

abbrev match : Row → List Row → Row
match body labels = arm labels body

abbrev fork : List Row → Row
fork = row "fork" 0

abbrev systask : List Row → Row
systask = row "systask" 0

-- @(e iff g), as the event of an assignment and as an event control
abbrev at : Row → Row → Row
at e iff = on (event e iff ∷ [])

abbrev upon : Row → Row → Row
upon e iff = intra absent (at e iff)

abbrev break : Row
break = disable (j ∷ [])

abbrev return : Row
return = returns absent

-- how many rows these siblings are
unfoldable pub size : Forest → ℕ
size nil = zero
size (node k s lo hi cs others) = suc (size cs) + size others

-- the row number n, counted in row order as in a sheet, has the span n to n + 100, so that no two rows have one span
unfoldable pub spread : ℕ → Forest → Forest
spread n nil = nil
spread n (node k s lo hi cs others) = node k s n (n + 100) (spread (suc n) cs) (spread (suc (size cs) + n) others)

-- Cases

pub record Case : Type 0 where
  pub start : State
  pub sole : Bool
  pub what : Row
  pub expected : DaResult

abbrev pub answer : Case → DaResult
answer t = da_stmt (da_ctx x marks t.sole) (spread 0 (t.what nil)) t.start

-- "start 0, sole 1 unless said"
abbrev from : State → Bool → Row → DaResult → Case
from start sole what expected = record { start = start; sole = sole; what = what; expected = expected }

abbrev plainly : Row → DaResult → Case
plainly = from unwritten true

abbrev start1 : Row → DaResult → Case
start1 = from written true

abbrev sole0 : Row → DaResult → Case
sole0 = from unwritten false

abbrev each : List Row → DaResult → (Row → DaResult → Case) → List Case
each [] expected form = []
each (r ∷ rs) expected form = form r expected ∷ each rs expected form

-- "falls with written 0 or 1; jumps; give-up with reason, lo, hi": the span of a give-up is that of the row with this number
abbrev falls1 : DaResult
falls1 = Ok (Falls written)

abbrev falls0 : DaResult
falls0 = Ok (Falls unwritten)

abbrev jumps : DaResult
jumps = Ok Jumps

abbrev gives : ℕ → ℕ → DaResult
gives reason n = Err (record { reason = reason; lo = n; hi = n + 100 })

-- the worked statements, by their numbers
abbrev worked : List Case
worked =
    -- 1 `x=1;` falls 1
    plainly writes falls1 ∷
    -- 2 `y = x;` reason 2
    plainly reads (gives 2 6) ∷
    -- 3 `x[0]=1;` 4
    plainly (assign (row "lbit" 0 (to_x ∷ lit ∷ [])) lit) (gives 4 0) ∷
    -- 4 `if(c) x=1;` falls 0
    plainly (if C writes) falls0 ∷
    -- 5 `if(c) x=1; else return;` falls 1
    plainly (if_else C writes return) falls1 ∷
    -- 6 both arms return: jumps
    plainly (if_else C return return) jumps ∷
    -- 7 `case(c) 1:x=1; endcase` falls 0
    plainly (case_of C (match writes (lit ∷ []) ∷ [])) falls0 ∷
    -- 8 with `default:x=2;` falls 1
    plainly (case_of C (match writes (lit ∷ []) ∷ default writes ∷ [])) falls1 ∷
    -- 9 `if(c && w(x)) y=x;` falls 0
    plainly (if (and! C W) reads) falls0 ∷
    -- 10 the same with ||: 2
    plainly (if (or! C W) reads) (gives 2 17) ∷
    -- 11 `fork y=1; join` 5
    plainly (fork (set_y ∷ [])) (gives 5 0) ∷
    -- 12 start 1: falls 1
    start1 (fork (set_y ∷ [])) falls1 ∷
    -- 13 `while(c) x=1;` side 1: falls 1, side 0: falls 0
    plainly (while 1 C writes) falls1 ∷
    plainly (while 0 C writes) falls0 ∷
    -- 14 sole 0, `#1 x=1;` 1
    sole0 (timed (delay (lit ∷ [])) absent to_x lit) (gives 1 0) ∷
    sole0 (delayed (delay (lit ∷ [])) writes) (gives 1 0) ∷
    []

-- the traps
abbrev traps : List Case
traps =
    -- "Jumps merged with falls 0 taken as jumps"
    plainly (if_else C return set_y) falls0 ∷
    plainly (if_else C null return) falls0 ∷
    plainly (case_of C (match return (lit ∷ []) ∷ default set_y ∷ [])) falls0 ∷
    plainly (case_of C (match return (lit ∷ []) ∷ default writes ∷ [])) falls1 ∷
    plainly (case_of C (match return (lit ∷ []) ∷ default return ∷ [])) jumps ∷
    -- an arm that falls unwritten counts wherever it stands, and so does a default
    plainly (case_of C (match set_y (lit ∷ []) ∷ default writes ∷ [])) falls0 ∷
    plainly (case_of C (default writes ∷ match set_y (lit ∷ []) ∷ [])) falls0 ∷
    plainly (case_of C (default writes ∷ match writes (lit ∷ []) ∷ [])) falls1 ∷
    -- "A case with no default taken as written"
    plainly (case_of C (match writes (lit ∷ []) ∷ match writes (lit ∷ []) ∷ [])) falls0 ∷
    plainly (case_of C (match return (lit ∷ []) ∷ [])) falls0 ∷
    plainly (case_of C []) falls0 ∷
    -- "The else arm of a missing else given the false-side write: it gets the state after the condition"
    plainly (if (or! C W) writes) falls0 ∷
    plainly (if_else (or! C W) writes null) falls1 ∷
    plainly (if_else (or! C W) writes reads) falls1 ∷
    -- "Step walked from the body's result: it starts where the body starts"
    plainly (for 1 null C reads writes) (gives 2 11) ∷
    plainly (for 1 null (and! C W) reads reads) falls1 ∷
    plainly (for 1 null C writes set_y) falls0 ∷
    -- "A fork that names nothing let through unwritten"
    plainly (fork []) (gives 5 0) ∷
    plainly (block (fork [] ∷ writes ∷ [])) (gives 5 1) ∷
    []

-- S::Blocking
abbrev assignments : List Case
assignments =
    plainly (assign to_x W) falls1 ∷
    plainly (assign to_y W) falls1 ∷
    plainly (assign to_x X) (gives 2 6) ∷
    plainly (assign to_x (plus C X)) (gives 2 6) ∷
    plainly (assign to_y (paren X)) (gives 2 6) ∷
    -- "this assignment writes only PART of it": `x.y=1;`, `y[x]=w(x);`, `y = c && w(x);`, `y = #(w(x)) 1;`
    plainly (assign (lident (x ∷ y ∷ [])) lit) (gives 4 0) ∷
    plainly (assign (row "lbit" 0 (to_y ∷ X ∷ [])) W) (gives 4 0) ∷
    plainly (assign to_y (and! C W)) (gives 4 0) ∷
    plainly (timed (delay (W ∷ [])) absent to_y lit) (gives 4 0) ∷
    start1 (assign (lident (x ∷ y ∷ [])) X) falls1 ∷
    -- a statement "with no reference": `y = w();`, though the call writes; a condition counts it
    plainly (assign to_y (call_row 1 (w ∷ []) [])) falls0 ∷
    plainly (if (call_row 1 (w ∷ []) []) reads) falls1 ∷
    -- a delay, then an event, "evaluated before the write"; an iff is not looked at
    plainly (timed (delay (lit ∷ X ∷ [])) (upon X absent) to_x X) (gives 2 3) ∷
    plainly (timed absent (upon X absent) to_x X) (gives 3 0) ∷
    plainly (timed absent (upon C X) to_x lit) falls1 ∷
    plainly (timed absent (upon C X) to_y lit) falls0 ∷
    start1 (timed (delay (X ∷ [])) (upon X absent) to_x X) falls1 ∷
    -- "which can only add a give-up, as in `y = #(x) w();`"; of several values that read, the first
    plainly (timed (delay (X ∷ [])) absent to_y (call_row 1 (w ∷ []) [])) (gives 2 2) ∷
    plainly (timed (delay (X ∷ X ∷ [])) absent to_x lit) (gives 2 2) ∷
    []

-- S::NonBlocking
abbrev nonblockings : List Case
nonblockings =
    plainly (assign_later to_x lit) falls0 ∷
    plainly (assign_later to_y X) (gives 2 6) ∷
    plainly (assign_later to_y W) falls1 ∷
    -- `x <= 1; y = x;`
    plainly (block (assign_later to_x lit ∷ reads ∷ [])) (gives 2 14) ∷
    -- "on a SHARED net another block scheduled in between sees it", once written too; unless it refers to nothing
    sole0 (assign_later to_x lit) (gives 1 0) ∷
    from written false (assign_later to_x lit) (gives 1 0) ∷
    sole0 (assign_later to_y lit) falls0 ∷
    -- before its right side is looked at
    sole0 (assign_later to_y X) (gives 1 0) ∷
    []

-- conditions, and what is known in the arms
abbrev conditions : List Case
conditions =
    plainly (if X writes) (gives 2 1) ∷
    plainly (if (plus C X) writes) (gives 2 1) ∷
    plainly (if W reads) falls1 ∷
    plainly (if_else (or! C W) null reads) falls0 ∷
    plainly (if_else C writes reads) (gives 2 17) ∷
    plainly (if_else C reads reads) (gives 2 10) ∷
    plainly (case_of X (default writes ∷ [])) (gives 2 1) ∷
    plainly (case_of W (match reads (X ∷ []) ∷ [])) falls1 ∷
    -- the scrutinee writes: falls 1 even if every arm returns
    plainly (case_of W (default return ∷ [])) falls1 ∷
    -- labels come before their arm
    plainly (case_of C (match writes (lit ∷ X ∷ []) ∷ [])) (gives 2 13) ∷
    plainly (case_of C (match reads (X ∷ []) ∷ [])) (gives 2 14) ∷
    plainly (case_of C (match writes (W ∷ []) ∷ default reads ∷ [])) (gives 2 25) ∷
    plainly (case_of C (match writes (X ∷ X ∷ []) ∷ [])) (gives 2 12) ∷
    -- an arm comes before the labels of the next
    plainly (case_of C (match reads (lit ∷ []) ∷ match writes (X ∷ []) ∷ [])) (gives 2 11) ∷
    []

-- the four loops around a body, with this side
abbrev loops : ℕ → Row → List Row
loops s body = for s null C null body ∷ while s C body ∷ repeat s C body ∷ forever s body ∷ []

-- loop_body_assigns
abbrev bodies : List Case
bodies =
    each (loops 1 writes) falls1 plainly
    ++ each (loops 0 writes) falls0 plainly
    ++ each (loops 1 set_y) falls0 plainly
    -- "no control transfer can leave the body": a loop jump, a return, any other disable
    ++ each (loops 1 (block (if C break ∷ writes ∷ []))) falls0 plainly
    ++ each (loops 1 (block (if C return ∷ writes ∷ []))) falls0 plainly
    ++ each (loops 1 (block (disable (b ∷ []) ∷ writes ∷ []))) falls0 plainly
    -- "A loop always FALLS THROUGH for this analysis", and a body that jumps writes nothing past it
    ++ each (loops 1 return) falls0 plainly
    ++ each (loops 0 return) falls0 plainly
    ++ each (loops 1 return) falls1 start1

abbrev rounds : List Case
rounds =
    plainly (for 0 null X null writes) (gives 2 2) ∷
    plainly (while 0 X writes) (gives 2 1) ∷
    plainly (repeat 0 X writes) (gives 2 1) ∷
    plainly (while 0 W reads) falls1 ∷
    plainly (while 0 (and! C W) reads) falls0 ∷
    plainly (repeat 0 W reads) falls1 ∷
    -- a count is no truth
    plainly (repeat 0 (and! C W) reads) (gives 2 17) ∷
    plainly (for 0 writes C reads reads) falls1 ∷
    plainly (for 0 reads C null writes) (gives 2 7) ∷
    -- the body comes before the step, which stands before it in row order
    plainly (for 0 null C reads reads) (gives 2 20) ∷
    -- a step may transfer control: `stmt_cannot_escape(body)` asks of the body alone
    plainly (for 1 null C return writes) falls1 ∷
    -- an init that jumps counts as written for the rest
    plainly (for 0 return X reads reads) falls1 ∷
    []

-- S::Block, and what jumps
abbrev blocks : List Case
blocks =
    plainly (block (writes ∷ reads ∷ [])) falls1 ∷
    plainly (block (set_y ∷ reads ∷ [])) (gives 2 14) ∷
    plainly (block []) falls0 ∷
    -- "the rest of this block is UNREACHABLE"
    plainly (block (return ∷ reads ∷ [])) jumps ∷
    plainly (block (break ∷ reads ∷ [])) jumps ∷
    -- an initialiser that reads, and one that writes, which is not counted
    plainly (block (decl y X ∷ writes ∷ [])) (gives 2 2) ∷
    plainly (block (decl y absent ∷ decl y lit ∷ writes ∷ [])) falls1 ∷
    plainly (block (decl y W ∷ reads ∷ [])) (gives 2 14) ∷
    -- a return by its value
    plainly (returns X) (gives 2 1) ∷
    plainly (returns W) jumps ∷
    start1 (returns X) jumps ∷
    -- a loop jump is of one segment, which is marked
    plainly break jumps ∷
    plainly (disable (b ∷ [])) falls0 ∷
    plainly (disable (j ∷ b ∷ [])) falls0 ∷
    start1 (disable (b ∷ [])) falls1 ∷
    []

-- S::UserTaskCall; "A task's is effect plus 4 if it suspends"
abbrev tasks : List Case
tasks =
    plainly (task (w ∷ []) (X ∷ []) 0) falls0 ∷
    plainly (task (w ∷ []) (X ∷ []) 4) falls0 ∷
    plainly (task (w ∷ []) (X ∷ []) 1) falls1 ∷
    plainly (task (w ∷ []) (X ∷ []) 5) falls1 ∷
    plainly (task (w ∷ []) (X ∷ []) 2) (gives 6 0) ∷
    plainly (task (w ∷ []) (X ∷ []) 6) (gives 6 0) ∷
    plainly (task (w ∷ []) (X ∷ []) 3) (gives 7 0) ∷
    plainly (task (w ∷ []) (X ∷ []) 7) (gives 7 0) ∷
    start1 (task (w ∷ []) (X ∷ []) 2) falls1 ∷
    start1 (task (w ∷ []) (X ∷ []) 7) falls1 ∷
    sole0 (task (w ∷ []) (X ∷ []) 3) (gives 7 0) ∷
    sole0 (task (w ∷ []) (X ∷ []) 5) (gives 1 0) ∷
    -- "a two-segment task path with no mention, arguments included, does nothing at any effect"
    plainly (task (y ∷ w ∷ []) (C ∷ []) 3) falls0 ∷
    plainly (task (y ∷ x ∷ []) [] 3) falls0 ∷
    plainly (task (y ∷ w ∷ []) (X ∷ []) 3) (gives 7 0) ∷
    plainly (task (x ∷ w ∷ []) [] 3) (gives 7 0) ∷
    plainly (task (y ∷ []) [] 3) (gives 7 0) ∷
    plainly (task (y ∷ w ∷ w ∷ []) [] 3) (gives 7 0) ∷
    plainly (task [] [] 3) (gives 7 0) ∷
    []

-- delays, events and waits around a statement; "No WRITE is claimed from them"
abbrev timings : List Case
timings =
    plainly (delayed (delay (lit ∷ [])) writes) falls1 ∷
    plainly (delayed (delay (lit ∷ [])) absent) falls0 ∷
    plainly (delayed (delay (C ∷ X ∷ [])) writes) (gives 2 5) ∷
    plainly (delayed (delay (W ∷ [])) reads) (gives 2 14) ∷
    plainly (awaits (row "star" 0 []) writes) falls1 ∷
    plainly (awaits (at C absent) absent) falls0 ∷
    plainly (awaits (at C X) absent) falls0 ∷
    plainly (awaits (at X absent) writes) (gives 8 0) ∷
    start1 (awaits (at X absent) reads) falls1 ∷
    plainly (wait C writes) falls1 ∷
    plainly (wait C absent) falls0 ∷
    plainly (wait X writes) (gives 2 1) ∷
    plainly (wait (plus C X) writes) (gives 2 1) ∷
    plainly (wait W reads) (gives 2 13) ∷
    -- a body that jumps
    plainly (delayed (delay (lit ∷ [])) return) jumps ∷
    plainly (awaits (at C absent) return) jumps ∷
    plainly (wait C return) jumps ∷
    []

-- "the unmodelled forms: randstmt, trigger, waitfork, concurrent through cover, and the statement error"
abbrev unmodelled : List Row
unmodelled =
    map (λ word. row word 0 []) ("randstmt" ∷ "trigger" ∷ "waitfork" ∷ "passign" ∷ "deassign" ∷ "force" ∷ "release" ∷ "cover" ∷ "error" ∷ [])
    ++ row "concurrent" 0 (absent ∷ absent ∷ []) ∷ row "deferred" 0 (null ∷ null ∷ []) ∷ systask (X ∷ []) ∷ []

abbrev others : List Case
others =
    each unmodelled (gives 9 0) plainly
    ++ each unmodelled falls1 start1
    ++ plainly (systask (C ∷ [])) falls0 ∷ plainly null falls0 ∷ start1 null falls1 ∷ []

-- the time test comes first, at the outermost statement: before a disable, before "no reference", and once written too
abbrev times : List Case
times =
    sole0 writes falls1 ∷
    sole0 reads (gives 2 6) ∷
    sole0 (delayed (delay (lit ∷ [])) set_y) (gives 1 0) ∷
    sole0 (timed (delay (lit ∷ [])) absent to_y lit) (gives 1 0) ∷
    sole0 (timed absent (upon C absent) to_y lit) (gives 1 0) ∷
    sole0 (block (delayed (delay (lit ∷ [])) set_y ∷ [])) (gives 1 0) ∷
    sole0 (block (break ∷ delayed (delay (lit ∷ [])) set_y ∷ [])) (gives 1 0) ∷
    sole0 (block (reads ∷ wait C absent ∷ [])) (gives 1 0) ∷
    sole0 (if_else C writes (awaits (at C absent) writes)) (gives 1 0) ∷
    sole0 (case_of C (match (task (w ∷ []) [] 4) (lit ∷ []) ∷ [])) (gives 1 0) ∷
    sole0 (row "waitfork" 0 []) (gives 1 0) ∷
    sole0 (fork (delayed (delay (lit ∷ [])) set_y ∷ [])) (gives 1 0) ∷
    sole0 break jumps ∷
    from written false (block (delayed (delay (lit ∷ [])) set_y ∷ [])) (gives 1 0) ∷
    []

abbrev pub cases : List Case
cases = worked ++ traps ++ assignments ++ nonblockings ++ conditions ++ bodies ++ rounds ++ blocks ++ tasks ++ timings ++ others ++ times

-- The joint fact: each statement is walked to what is expected of it.
pub marked : map answer cases ≡ map (λ t. t.expected) cases
unfolding size spread fold held_facts_at walk_at facts_at expr_effect_at unary_form binary_form call_form cannot_escape_at waiting_words is_one_of lets_time_pass advances_at stmt_class stmt_class_in stmt_words expr_class task_effect numbered kind_number kind_of place_from kinds same is_named begins count segments is_local is_marked is_loop_jump in_row_order passed_over seen_below seen_at seen some refers stmt_no_ref every
marked = refl

-- "9: children that don't fit the kind": these statements' do, at every row
pub all_fit : map (λ t. fitting (t.what nil)) cases ≡ map (λ t. true) cases
unfolding fold fit_here fit_at fitting every kind_alone is_kind entry in_class of_class class_number takes once many fits numbered kind_number kind_of place_from kinds same
all_fit = refl
