-- How an expression is evaluated: document 01, "How a path runs", and document 02, Paper 2, with the clauses of IEEE 1800 that fix
-- it in brackets. Row order is document 01's; free order takes what document 01 evaluates in row order in any order, each child whole
-- (docs/DECISIONS.md, 115). Definitions only. Nothing here is written from the Rust.
use Rattle.std.specs.Prelude.{List, [], ◌∷◌, map, Bool, true, false, cond, ℕ, eqb}
use Rattle.table.specs.Rows.{Forest}
use Rattle.table.specs.Fold.{Alg, fold, nth}
use Rattle.kinds.specs.declared.ExprClass.{ExprClass}
use Rattle.kinds.specs.declared.ExprClass.TheVariants.{Ident, Call, Lident, Opaque, Event, Unary, Binary, Ternary, Paren, Other}
use Rattle.kinds.specs.Named.{expr_class}
use Rattle.reads.specs.PathRows.{begins, is_local}
use Rattle.paths.specs.Commands.{read, write, choice, Command, skip, emit, seq, alt}
use Rattle.paths.specs.Semantics.{Order, row_order, free_order, Semantics}
use Rattle.paths.specs.AnyOrder.{any_order, either_first}

-- what the truth of a condition comes out as, on a path: "From here a condition may be unknown" (document 02, Paper 2; 11.4.7:
-- a one-bit result is x where the truth is ambiguous)
pub data Truth : Type 0 where
  is_true is_false is_unknown : Truth

-- the choice that a truth is: "0 false, 1 true, 2 unknown" (document 02, Paper 6)
abbrev pub choice_of : Truth → ℕ
choice_of is_false = 0
choice_of is_true = 1
choice_of is_unknown = 2

-- "`!` flips", and "keeps it unknown" (11.4.7)
abbrev pub opposite : Truth → Truth
opposite is_true = is_false
opposite is_false = is_true
opposite is_unknown = is_unknown

-- the ways in which a row may be evaluated
pub record Evaluation : Type 0 where
  -- where its truth is not asked
  pub value : Command
  -- where it is, and comes out so
  pub truth : Truth → Command
  -- as the target of an assignment in row order: its selects, then the write
  pub store : Command
  -- whether it is "the plain local", which as a target is written
  pub is_plain_local : Bool

-- "is evaluated and then is freely true or false", or unknown (12.4: true where the value is known and nonzero)
abbrev pub free : Command → Evaluation
free c = record { value = c; truth = λ t. seq c (emit (choice (choice_of t))); store = c; is_plain_local = false }

-- whatever truth it comes out as
abbrev pub of_any : (Truth → Command) → Command
of_any f = alt (f is_true) (alt (f is_false) (f is_unknown))

-- &&, || and `!`: the truth comes from their operands, "Evaluated operands of &&, || and `!` always have their truth asked"
-- (11.4.7)
abbrev pub asked : (Truth → Command) → Evaluation
asked f = record { value = of_any f; truth = f; store = of_any f; is_plain_local = false }

-- "&& goes on to its right unless the left is false"
abbrev pub not_false : Evaluation → Command
not_false e = alt (e.truth is_true) (e.truth is_unknown)

-- "|| unless the left is true"
abbrev pub not_true : Evaluation → Command
not_true e = alt (e.truth is_false) (e.truth is_unknown)

-- "&& is false after a false left"; after a true one "the right is evaluated and gives the truth"; "After an unknown left, && is
-- false if the right is, ... unknown otherwise" (11.3.5, 11.4.7)
abbrev pub both : Evaluation → Evaluation → Truth → Command
both l r is_true = seq (l.truth is_true) (r.truth is_true)
both l r is_false = alt (l.truth is_false) (seq (not_false l) (r.truth is_false))
both l r is_unknown = alt (seq (l.truth is_true) (r.truth is_unknown)) (seq (l.truth is_unknown) (not_false r))

-- "|| is true after a true left"; after a false one "the right is evaluated and gives the truth"; "After an unknown left, ... || is
-- true if the right is, ... unknown otherwise" (11.3.5, 11.4.7)
abbrev pub either : Evaluation → Evaluation → Truth → Command
either l r is_true = alt (l.truth is_true) (seq (not_true l) (r.truth is_true))
either l r is_false = seq (l.truth is_false) (r.truth is_false)
either l r is_unknown = alt (seq (l.truth is_false) (r.truth is_unknown)) (seq (l.truth is_unknown) (not_true r))

-- "A conditional expression evaluates its condition and one arm"; after an unknown condition it "evaluates both arms" (11.4.11, which
-- does not say which of them first)
abbrev pub conditional : Order → Evaluation → Evaluation → Evaluation → Command
conditional o c a b =
    alt (seq (c.truth is_true) a.value)
    (alt (seq (c.truth is_false) b.value) (seq (c.truth is_unknown) (either_first o a.value b.value)))

-- "everything else evaluates its children in row order" (11.3.5: all operands are evaluated; in which order is not said)
abbrev pub in_order : List Evaluation → Command
in_order [] = skip
in_order (e ∷ es) = seq e.value (in_order es)

-- what each of these does where its truth is not asked
abbrev pub values : List Evaluation → List Command
values = map (λ e. e.value)

-- all of these: parts of a concatenation, selects, expressions of a delay, events of a list, an event and its iff, and whatever a row
-- holds that no other rule names
abbrev pub together : Order → List Evaluation → Command
together row_order es = in_order es
together free_order es = any_order (values es)

-- a read where the test says so
abbrev pub read_if : Bool → Command
read_if true = emit read
read_if false = skip

-- a write where the test says so
abbrev pub write_if : Bool → Command
write_if true = emit write
write_if false = skip

-- "then the write if the target is the plain local"; "a select of it, or a longer path, is neither read nor written" (10.4)
abbrev pub target : Bool → Evaluation
target plain = record { value = skip; truth = (free skip).truth; store = write_if plain; is_plain_local = plain }

-- what stands where a child is missing
abbrev pub no_evaluation : Evaluation
no_evaluation = free skip

-- side 1 is `!`; every other unary operator evaluates its operand (11.3.5)
abbrev pub unary : ℕ → List Evaluation → Evaluation
unary s es = cond (eqb s 1) (asked (λ t. (nth no_evaluation 0 es).truth (opposite t))) (free (nth no_evaluation 0 es).value)

-- side 1 is &&, 2 is ||; every other binary operator evaluates both operands (11.3.5)
abbrev pub binary : Order → ℕ → List Evaluation → Evaluation
binary o s es =
    cond (eqb s 1) (asked (both (nth no_evaluation 0 es) (nth no_evaluation 1 es)))
    (cond (eqb s 2) (asked (either (nth no_evaluation 0 es) (nth no_evaluation 1 es)))
    (free (either_first o (nth no_evaluation 0 es).value (nth no_evaluation 1 es).value)))

-- "A call path beginning with the local reads", and the arguments are evaluated; in free order its own path is one of its children
abbrev pub called : Order → Bool → List Evaluation → Command
called row_order headed es = seq (read_if headed) (in_order es)
called free_order headed es = any_order (read_if headed ∷ values es)

-- "A call with side 1 writes the whole local"; "A call path beginning with the local reads unless side is 1"; "what a called
-- function with side 2 or 3 reads inside itself ... is no read of the path" (13.4, 13.5)
abbrev pub call : Order → Bool → ℕ → List Evaluation → Evaluation
call o headed s es = cond (eqb s 1) (free (emit write)) (free (called o headed es))

-- a row from its class, side, children and the children's evaluations: "An ident whose first segment is the local reads; so
-- does opaque" (11.5); "paren passes" (11.3.2); an event evaluates its expression and its iff (9.4.2, 9.4.2.3); selects,
-- concatenations and the rest their operands (11.4.12, 11.5.1)
abbrev pub evaluation_of : Semantics → ℕ → ExprClass → ℕ → Forest → List Evaluation → Evaluation
evaluation_of sem x Ident s cs es = free (read_if (begins x cs))
evaluation_of sem x Opaque s cs es = free (emit read)
evaluation_of sem x Unary s cs es = unary s es
evaluation_of sem x Binary s cs es = binary sem.order s es
evaluation_of sem x Ternary s cs es = free (conditional sem.order (nth no_evaluation 0 es) (nth no_evaluation 1 es) (nth no_evaluation 2 es))
evaluation_of sem x Call s cs es = call sem.order (begins x cs) s es
evaluation_of sem x Paren s cs es = nth no_evaluation 0 es
evaluation_of sem x Lident s cs es = target (is_local x cs)
evaluation_of sem x Event s cs es = free (together sem.order es)
evaluation_of sem x Other s cs es = free (together sem.order es)

-- a row by its kind number
unfoldable pub evaluation_at : Semantics → ℕ → Alg Evaluation
evaluation_at sem x k s lo hi cs es = evaluation_of sem x (expr_class k) s cs es

-- the evaluation of each of these siblings, for the local x
abbrev pub evaluations : Semantics → ℕ → Forest → List Evaluation
evaluations sem x = fold (evaluation_at sem x)
