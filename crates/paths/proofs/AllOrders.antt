-- Which evaluations must exist in free order. A theorem about all runs is true of too few runs as well, so each form whose order is left
-- open has small rows here with the complete list of their runs, in whatever order, each run once. Quoted is docs/DECISIONS.md, 115.
-- `oracle/runs` lists them a second time.
use mathlib.Core.Path.{◌≡◌, refl}
use mathlib.Core.Bool.{true}
use mathlib.Core.List.{List, [], ◌∷◌, ◌++◌, map}
use Prim.Native.Nat.{ℕ}
use Prim.Native.String.{String}
use Rattle.table.specs.Rows.{nil}
use Rattle.table.specs.Fold.{fold, nth}
use Rattle.kinds.specs.Kinds.{kinds}
use Rattle.kinds.specs.Words.{same, place_from, kind_of}
use Rattle.kinds.specs.Named.{kind_number, numbered, expr_class}
use Rattle.reads.specs.PathRows.{is_named, begins, count, segments, is_local}
use Rattle.paths.specs.Each.{Each}
use Rattle.paths.specs.Commands.{PathEvent, read, write, choice, Ending, Command, Runs}
use Rattle.paths.specs.Semantics.{free_order, under}
use Rattle.paths.specs.AnyOrder.{any_order}
use Rattle.paths.specs.Evaluation.{no_evaluation, evaluation_at, evaluations}
use Rattle.paths.proofs.Listed.{Run, IsRun, followed, each_followed, listed, listed_run, loopless, Settled, Among, all_listed, same_events, same_run, is_among, all_among, same_runs, same_each, same_among, each_same}
use Rattle.paths.proofs.Strength.{row, x, y, w, lident, call_row, X, Y, W, opaque, absent, not!, minus, and!, or!, plus, ternary, paren, event, evaluated_as, Case, value, comes_true, comes_false, comes_unknown, store}

-- "operands of an operator that is neither && nor ||", in any order; "An order is a permutation of whole children: their
-- events are not interleaved"
abbrev operators : List Case
operators =
    value (plus W X) ((read ∷ write ∷ []) ∷ (write ∷ read ∷ []) ∷ []) ∷
    value (plus X W) ((read ∷ write ∷ []) ∷ (write ∷ read ∷ []) ∷ []) ∷
    value (minus (plus W X)) ((read ∷ write ∷ []) ∷ (write ∷ read ∷ []) ∷ []) ∷
    value (paren (plus W X)) ((read ∷ write ∷ []) ∷ (write ∷ read ∷ []) ∷ []) ∷
    value (plus (plus W X) (plus W X))
    ((read ∷ write ∷ read ∷ write ∷ []) ∷ (read ∷ write ∷ write ∷ read ∷ []) ∷ (write ∷ read ∷ read ∷ write ∷ []) ∷ (write ∷ read ∷ write ∷ read ∷ []) ∷ []) ∷
    value (plus (plus X W) (not! Y))
    ((read ∷ write ∷ choice 0 ∷ []) ∷
    (read ∷ write ∷ choice 1 ∷ []) ∷
    (read ∷ write ∷ choice 2 ∷ []) ∷
    (write ∷ read ∷ choice 0 ∷ []) ∷
    (write ∷ read ∷ choice 1 ∷ []) ∷
    (write ∷ read ∷ choice 2 ∷ []) ∷
    (choice 0 ∷ read ∷ write ∷ []) ∷
    (choice 0 ∷ write ∷ read ∷ []) ∷
    (choice 1 ∷ read ∷ write ∷ []) ∷
    (choice 1 ∷ write ∷ read ∷ []) ∷
    (choice 2 ∷ read ∷ write ∷ []) ∷
    (choice 2 ∷ write ∷ read ∷ []) ∷
    []) ∷
    []

-- a condition is evaluated, its operands in any order, and then is freely true, false or unknown
abbrev truths : List Case
truths =
    comes_true (row "concat" 0 (X ∷ W ∷ [])) ((read ∷ write ∷ choice 1 ∷ []) ∷ (write ∷ read ∷ choice 1 ∷ []) ∷ []) ∷
    comes_false (row "concat" 0 (X ∷ W ∷ [])) ((read ∷ write ∷ choice 0 ∷ []) ∷ (write ∷ read ∷ choice 0 ∷ []) ∷ []) ∷
    comes_unknown (row "concat" 0 (X ∷ W ∷ [])) ((read ∷ write ∷ choice 2 ∷ []) ∷ (write ∷ read ∷ choice 2 ∷ []) ∷ []) ∷
    comes_true (call_row 0 (w ∷ []) (X ∷ W ∷ [])) ((read ∷ write ∷ choice 1 ∷ []) ∷ (write ∷ read ∷ choice 1 ∷ []) ∷ []) ∷
    comes_false (call_row 0 (w ∷ []) (X ∷ W ∷ [])) ((read ∷ write ∷ choice 0 ∷ []) ∷ (write ∷ read ∷ choice 0 ∷ []) ∷ []) ∷
    comes_unknown (call_row 0 (w ∷ []) (X ∷ W ∷ [])) ((read ∷ write ∷ choice 2 ∷ []) ∷ (write ∷ read ∷ choice 2 ∷ []) ∷ []) ∷
    comes_true (or! Y X) ((choice 0 ∷ read ∷ choice 1 ∷ []) ∷ (choice 1 ∷ []) ∷ (choice 2 ∷ read ∷ choice 1 ∷ []) ∷ []) ∷
    comes_false (or! Y X) ((choice 0 ∷ read ∷ choice 0 ∷ []) ∷ []) ∷
    comes_unknown (or! Y X) ((choice 0 ∷ read ∷ choice 2 ∷ []) ∷ (choice 2 ∷ read ∷ choice 0 ∷ []) ∷ (choice 2 ∷ read ∷ choice 2 ∷ []) ∷ []) ∷
    comes_true (paren (or! Y X)) ((choice 0 ∷ read ∷ choice 1 ∷ []) ∷ (choice 1 ∷ []) ∷ (choice 2 ∷ read ∷ choice 1 ∷ []) ∷ []) ∷
    comes_false (paren (or! Y X)) ((choice 0 ∷ read ∷ choice 0 ∷ []) ∷ []) ∷
    comes_unknown (paren (or! Y X)) ((choice 0 ∷ read ∷ choice 2 ∷ []) ∷ (choice 2 ∷ read ∷ choice 0 ∷ []) ∷ (choice 2 ∷ read ∷ choice 2 ∷ []) ∷ []) ∷
    comes_false (not! X) ((read ∷ choice 1 ∷ []) ∷ []) ∷
    comes_unknown (not! X) ((read ∷ choice 2 ∷ []) ∷ []) ∷
    comes_false (and! Y X) ((choice 0 ∷ []) ∷ (choice 1 ∷ read ∷ choice 0 ∷ []) ∷ (choice 2 ∷ read ∷ choice 0 ∷ []) ∷ []) ∷
    comes_true (plus W X) ((read ∷ write ∷ choice 1 ∷ []) ∷ (write ∷ read ∷ choice 1 ∷ []) ∷ []) ∷
    comes_false (plus W X) ((read ∷ write ∷ choice 0 ∷ []) ∷ (write ∷ read ∷ choice 0 ∷ []) ∷ []) ∷
    comes_unknown (plus W X) ((read ∷ write ∷ choice 2 ∷ []) ∷ (write ∷ read ∷ choice 2 ∷ []) ∷ []) ∷
    comes_true (not! (plus W X)) ((read ∷ write ∷ choice 0 ∷ []) ∷ (write ∷ read ∷ choice 0 ∷ []) ∷ []) ∷
    []

-- "parts of a concatenation", in any order: of three all six orders, of four that each may be anywhere
abbrev concats : List Case
concats =
    value (row "concat" 0 (X ∷ W ∷ not! Y ∷ []))
    ((read ∷ write ∷ choice 0 ∷ []) ∷
    (read ∷ write ∷ choice 1 ∷ []) ∷
    (read ∷ write ∷ choice 2 ∷ []) ∷
    (read ∷ choice 0 ∷ write ∷ []) ∷
    (read ∷ choice 1 ∷ write ∷ []) ∷
    (read ∷ choice 2 ∷ write ∷ []) ∷
    (write ∷ read ∷ choice 0 ∷ []) ∷
    (write ∷ read ∷ choice 1 ∷ []) ∷
    (write ∷ read ∷ choice 2 ∷ []) ∷
    (write ∷ choice 0 ∷ read ∷ []) ∷
    (write ∷ choice 1 ∷ read ∷ []) ∷
    (write ∷ choice 2 ∷ read ∷ []) ∷
    (choice 0 ∷ read ∷ write ∷ []) ∷
    (choice 0 ∷ write ∷ read ∷ []) ∷
    (choice 1 ∷ read ∷ write ∷ []) ∷
    (choice 1 ∷ write ∷ read ∷ []) ∷
    (choice 2 ∷ read ∷ write ∷ []) ∷
    (choice 2 ∷ write ∷ read ∷ []) ∷
    []) ∷
    value (row "concat" 0 (X ∷ W ∷ X ∷ W ∷ []))
    ((read ∷ read ∷ write ∷ write ∷ []) ∷
    (read ∷ write ∷ read ∷ write ∷ []) ∷
    (read ∷ write ∷ write ∷ read ∷ []) ∷
    (write ∷ read ∷ read ∷ write ∷ []) ∷
    (write ∷ read ∷ write ∷ read ∷ []) ∷
    (write ∷ write ∷ read ∷ read ∷ []) ∷
    []) ∷
    value (row "concat" 0 (row "concat" 0 (X ∷ X ∷ []) ∷ W ∷ W ∷ []))
    ((read ∷ read ∷ write ∷ write ∷ []) ∷ (write ∷ read ∷ read ∷ write ∷ []) ∷ (write ∷ write ∷ read ∷ read ∷ []) ∷ []) ∷
    []

-- of the kind with this word, the children in any order
abbrev unordered : String → List Case
unordered word =
    value (row word 0 (X ∷ W ∷ opaque ∷ [])) ((read ∷ read ∷ write ∷ []) ∷ (read ∷ write ∷ read ∷ []) ∷ (write ∷ read ∷ read ∷ []) ∷ []) ∷
    []

abbrev unordered_kinds : List String
unordered_kinds =
    "bitsel" ∷ "partsel" ∷ "indexed" ∷ "mtm" ∷ "concat" ∷ "syscall" ∷ "pattern" ∷ "replicate" ∷ "method" ∷ "cast" ∷ "namedarg" ∷ "new" ∷ []

-- "arguments", in any order; "A call's own path is one of its children": sides 0, 2 and 3
abbrev calls : ℕ → List Case
calls s =
    value (call_row s (w ∷ []) (W ∷ X ∷ [])) ((read ∷ write ∷ []) ∷ (write ∷ read ∷ []) ∷ []) ∷
    value (call_row s (x ∷ y ∷ []) (W ∷ W ∷ [])) ((read ∷ write ∷ write ∷ []) ∷ (write ∷ read ∷ write ∷ []) ∷ (write ∷ write ∷ read ∷ []) ∷ []) ∷
    []

-- of the path and two arguments all six orders, before the truth is chosen
abbrev call_orders : List Case
call_orders =
    comes_true (call_row 0 (x ∷ []) (W ∷ not! Y ∷ []))
    ((read ∷ write ∷ choice 0 ∷ choice 1 ∷ []) ∷
    (read ∷ write ∷ choice 1 ∷ choice 1 ∷ []) ∷
    (read ∷ write ∷ choice 2 ∷ choice 1 ∷ []) ∷
    (read ∷ choice 0 ∷ write ∷ choice 1 ∷ []) ∷
    (read ∷ choice 1 ∷ write ∷ choice 1 ∷ []) ∷
    (read ∷ choice 2 ∷ write ∷ choice 1 ∷ []) ∷
    (write ∷ read ∷ choice 0 ∷ choice 1 ∷ []) ∷
    (write ∷ read ∷ choice 1 ∷ choice 1 ∷ []) ∷
    (write ∷ read ∷ choice 2 ∷ choice 1 ∷ []) ∷
    (write ∷ choice 0 ∷ read ∷ choice 1 ∷ []) ∷
    (write ∷ choice 1 ∷ read ∷ choice 1 ∷ []) ∷
    (write ∷ choice 2 ∷ read ∷ choice 1 ∷ []) ∷
    (choice 0 ∷ read ∷ write ∷ choice 1 ∷ []) ∷
    (choice 0 ∷ write ∷ read ∷ choice 1 ∷ []) ∷
    (choice 1 ∷ read ∷ write ∷ choice 1 ∷ []) ∷
    (choice 1 ∷ write ∷ read ∷ choice 1 ∷ []) ∷
    (choice 2 ∷ read ∷ write ∷ choice 1 ∷ []) ∷
    (choice 2 ∷ write ∷ read ∷ choice 1 ∷ []) ∷
    []) ∷
    []

-- a call with side 1 writes, and evaluates none of its children
abbrev writers : List Case
writers =
    value (call_row 1 (x ∷ []) (X ∷ W ∷ [])) ((write ∷ []) ∷ []) ∷
    value (plus (call_row 1 (x ∷ []) (X ∷ [])) X) ((read ∷ write ∷ []) ∷ (write ∷ read ∷ []) ∷ []) ∷
    []

-- "expressions of a delay, an event list", in any order; of an event its expression and its iff, of an assignment's event its count and its
-- events
abbrev events : List Case
events =
    value (event X W) ((read ∷ write ∷ []) ∷ (write ∷ read ∷ []) ∷ []) ∷
    value (row "list" 0 (event W absent ∷ event X absent ∷ [])) ((read ∷ write ∷ []) ∷ (write ∷ read ∷ []) ∷ []) ∷
    value (row "list" 0 (event X X ∷ event W absent ∷ [])) ((read ∷ read ∷ write ∷ []) ∷ (write ∷ read ∷ read ∷ []) ∷ []) ∷
    value (row "delay" 0 (W ∷ X ∷ W ∷ [])) ((read ∷ write ∷ write ∷ []) ∷ (write ∷ read ∷ write ∷ []) ∷ (write ∷ write ∷ read ∷ []) ∷ []) ∷
    value (row "intra" 0 (X ∷ row "list" 0 (event W absent ∷ []) ∷ [])) ((read ∷ write ∷ []) ∷ (write ∷ read ∷ []) ∷ []) ∷
    value (row "intra" 0 (not! Y ∷ row "list" 0 (event X absent ∷ event W absent ∷ []) ∷ []))
    ((read ∷ write ∷ choice 0 ∷ []) ∷
    (read ∷ write ∷ choice 1 ∷ []) ∷
    (read ∷ write ∷ choice 2 ∷ []) ∷
    (write ∷ read ∷ choice 0 ∷ []) ∷
    (write ∷ read ∷ choice 1 ∷ []) ∷
    (write ∷ read ∷ choice 2 ∷ []) ∷
    (choice 0 ∷ read ∷ write ∷ []) ∷
    (choice 0 ∷ write ∷ read ∷ []) ∷
    (choice 1 ∷ read ∷ write ∷ []) ∷
    (choice 1 ∷ write ∷ read ∷ []) ∷
    (choice 2 ∷ read ∷ write ∷ []) ∷
    (choice 2 ∷ write ∷ read ∷ []) ∷
    []) ∷
    []

-- "both arms after an unknown condition", in any order; "a condition before its arms"
abbrev conditionals : List Case
conditionals =
    value (ternary Y X W) ((choice 0 ∷ write ∷ []) ∷ (choice 1 ∷ read ∷ []) ∷ (choice 2 ∷ read ∷ write ∷ []) ∷ (choice 2 ∷ write ∷ read ∷ []) ∷ []) ∷
    comes_false (ternary Y X W)
    ((choice 0 ∷ write ∷ choice 0 ∷ []) ∷
    (choice 1 ∷ read ∷ choice 0 ∷ []) ∷
    (choice 2 ∷ read ∷ write ∷ choice 0 ∷ []) ∷
    (choice 2 ∷ write ∷ read ∷ choice 0 ∷ []) ∷
    []) ∷
    value (ternary X W W) ((read ∷ choice 0 ∷ write ∷ []) ∷ (read ∷ choice 1 ∷ write ∷ []) ∷ (read ∷ choice 2 ∷ write ∷ write ∷ []) ∷ []) ∷
    value (ternary (plus W X) X Y)
    ((read ∷ write ∷ choice 0 ∷ []) ∷
    (read ∷ write ∷ choice 1 ∷ read ∷ []) ∷
    (read ∷ write ∷ choice 2 ∷ read ∷ []) ∷
    (write ∷ read ∷ choice 0 ∷ []) ∷
    (write ∷ read ∷ choice 1 ∷ read ∷ []) ∷
    (write ∷ read ∷ choice 2 ∷ read ∷ []) ∷
    []) ∷
    value (ternary Y (plus W X) W)
    ((choice 0 ∷ write ∷ []) ∷
    (choice 1 ∷ read ∷ write ∷ []) ∷
    (choice 1 ∷ write ∷ read ∷ []) ∷
    (choice 2 ∷ read ∷ write ∷ write ∷ []) ∷
    (choice 2 ∷ write ∷ read ∷ write ∷ []) ∷
    (choice 2 ∷ write ∷ write ∷ read ∷ []) ∷
    []) ∷
    value (ternary (and! Y X) W X)
    ((choice 0 ∷ read ∷ []) ∷
    (choice 1 ∷ read ∷ choice 0 ∷ read ∷ []) ∷
    (choice 1 ∷ read ∷ choice 1 ∷ write ∷ []) ∷
    (choice 1 ∷ read ∷ choice 2 ∷ read ∷ write ∷ []) ∷
    (choice 1 ∷ read ∷ choice 2 ∷ write ∷ read ∷ []) ∷
    (choice 2 ∷ read ∷ choice 0 ∷ read ∷ []) ∷
    (choice 2 ∷ read ∷ choice 1 ∷ read ∷ write ∷ []) ∷
    (choice 2 ∷ read ∷ choice 1 ∷ write ∷ read ∷ []) ∷
    (choice 2 ∷ read ∷ choice 2 ∷ read ∷ write ∷ []) ∷
    (choice 2 ∷ read ∷ choice 2 ∷ write ∷ read ∷ []) ∷
    []) ∷
    []

-- "In sequence as before: && and ||"
abbrev sequenced : List Case
sequenced =
    comes_true (and! W X) ((write ∷ choice 1 ∷ read ∷ choice 1 ∷ []) ∷ []) ∷
    comes_false (or! W X) ((write ∷ choice 0 ∷ read ∷ choice 0 ∷ []) ∷ []) ∷
    value (and! W X)
    ((write ∷ choice 0 ∷ []) ∷
    (write ∷ choice 1 ∷ read ∷ choice 0 ∷ []) ∷
    (write ∷ choice 1 ∷ read ∷ choice 1 ∷ []) ∷
    (write ∷ choice 1 ∷ read ∷ choice 2 ∷ []) ∷
    (write ∷ choice 2 ∷ read ∷ choice 0 ∷ []) ∷
    (write ∷ choice 2 ∷ read ∷ choice 1 ∷ []) ∷
    (write ∷ choice 2 ∷ read ∷ choice 2 ∷ []) ∷
    []) ∷
    value (or! W X)
    ((write ∷ choice 0 ∷ read ∷ choice 0 ∷ []) ∷
    (write ∷ choice 0 ∷ read ∷ choice 1 ∷ []) ∷
    (write ∷ choice 0 ∷ read ∷ choice 2 ∷ []) ∷
    (write ∷ choice 1 ∷ []) ∷
    (write ∷ choice 2 ∷ read ∷ choice 0 ∷ []) ∷
    (write ∷ choice 2 ∷ read ∷ choice 1 ∷ []) ∷
    (write ∷ choice 2 ∷ read ∷ choice 2 ∷ []) ∷
    []) ∷
    comes_true (and! (plus W X) (plus X W))
    ((read ∷ write ∷ choice 1 ∷ read ∷ write ∷ choice 1 ∷ []) ∷
    (read ∷ write ∷ choice 1 ∷ write ∷ read ∷ choice 1 ∷ []) ∷
    (write ∷ read ∷ choice 1 ∷ read ∷ write ∷ choice 1 ∷ []) ∷
    (write ∷ read ∷ choice 1 ∷ write ∷ read ∷ choice 1 ∷ []) ∷
    []) ∷
    comes_false (or! (plus W X) (plus X W))
    ((read ∷ write ∷ choice 0 ∷ read ∷ write ∷ choice 0 ∷ []) ∷
    (read ∷ write ∷ choice 0 ∷ write ∷ read ∷ choice 0 ∷ []) ∷
    (write ∷ read ∷ choice 0 ∷ read ∷ write ∷ choice 0 ∷ []) ∷
    (write ∷ read ∷ choice 0 ∷ write ∷ read ∷ choice 0 ∷ []) ∷
    []) ∷
    comes_unknown (and! (plus W X) Y)
    ((read ∷ write ∷ choice 1 ∷ choice 2 ∷ []) ∷
    (read ∷ write ∷ choice 2 ∷ choice 1 ∷ []) ∷
    (read ∷ write ∷ choice 2 ∷ choice 2 ∷ []) ∷
    (write ∷ read ∷ choice 1 ∷ choice 2 ∷ []) ∷
    (write ∷ read ∷ choice 2 ∷ choice 1 ∷ []) ∷
    (write ∷ read ∷ choice 2 ∷ choice 2 ∷ []) ∷
    []) ∷
    value (plus (and! Y X) W)
    ((write ∷ choice 0 ∷ []) ∷
    (write ∷ choice 1 ∷ read ∷ choice 0 ∷ []) ∷
    (write ∷ choice 1 ∷ read ∷ choice 1 ∷ []) ∷
    (write ∷ choice 1 ∷ read ∷ choice 2 ∷ []) ∷
    (write ∷ choice 2 ∷ read ∷ choice 0 ∷ []) ∷
    (write ∷ choice 2 ∷ read ∷ choice 1 ∷ []) ∷
    (write ∷ choice 2 ∷ read ∷ choice 2 ∷ []) ∷
    (choice 0 ∷ write ∷ []) ∷
    (choice 1 ∷ read ∷ choice 0 ∷ write ∷ []) ∷
    (choice 1 ∷ read ∷ choice 1 ∷ write ∷ []) ∷
    (choice 1 ∷ read ∷ choice 2 ∷ write ∷ []) ∷
    (choice 2 ∷ read ∷ choice 0 ∷ write ∷ []) ∷
    (choice 2 ∷ read ∷ choice 1 ∷ write ∷ []) ∷
    (choice 2 ∷ read ∷ choice 2 ∷ write ∷ []) ∷
    []) ∷
    []

-- "target selects", in any order
abbrev targets : List Case
targets =
    store (row "lconcat" 0 (row "lbit" 0 (lident (y ∷ []) ∷ W ∷ []) ∷ row "lbit" 0 (lident (y ∷ []) ∷ X ∷ []) ∷ []))
    ((read ∷ write ∷ []) ∷ (write ∷ read ∷ []) ∷ []) ∷
    value (row "lconcat" 0 (row "lbit" 0 (lident (y ∷ []) ∷ W ∷ []) ∷ row "lbit" 0 (lident (y ∷ []) ∷ X ∷ []) ∷ []))
    ((read ∷ write ∷ []) ∷ (write ∷ read ∷ []) ∷ []) ∷
    store (row "lconcat" 0 (lident (x ∷ []) ∷ row "lpart" 0 (lident (x ∷ []) ∷ X ∷ X ∷ []) ∷ row "lbit" 0 (lident (y ∷ []) ∷ W ∷ []) ∷ []))
    ((read ∷ read ∷ write ∷ []) ∷ (write ∷ read ∷ read ∷ []) ∷ []) ∷
    store (row "lbit" 0 (row "lbit" 0 (lident (y ∷ []) ∷ W ∷ []) ∷ X ∷ [])) ((read ∷ write ∷ []) ∷ (write ∷ read ∷ []) ∷ []) ∷
    store (row "lbit" 0 (lident (x ∷ []) ∷ plus W X ∷ [])) ((read ∷ write ∷ []) ∷ (write ∷ read ∷ []) ∷ []) ∷
    store (row "lpart" 0 (lident (x ∷ []) ∷ X ∷ W ∷ [])) ((read ∷ write ∷ []) ∷ (write ∷ read ∷ []) ∷ []) ∷
    value (row "lidx" 0 (lident (y ∷ []) ∷ W ∷ X ∷ [])) ((read ∷ write ∷ []) ∷ (write ∷ read ∷ []) ∷ []) ∷
    store (lident (x ∷ [])) ((write ∷ []) ∷ []) ∷
    value (lident (x ∷ [])) ([] ∷ []) ∷
    []

abbrev for_each : {A : Type 0} → (A → List Case) → List A → List Case
for_each f [] = []
for_each f (a ∷ more) = f a ++ for_each f more

abbrev pub cases : List Case
cases =
    operators ++ truths ++ concats ++ for_each unordered unordered_kinds ++ for_each calls (0 ∷ 2 ∷ 3 ∷ []) ++ call_orders ++ writers ++ events
    ++ conditionals ++ sequenced ++ targets

abbrev pub command_of : Case → Command
command_of c = evaluated_as c.way (nth no_evaluation 0 (evaluations (under free_order) x (c.what nil)))

abbrev pub shown : Case → List Run
shown c = listed 0 (command_of c)

-- The joint fact: what the listing gives of each row has the runs that are expected of it, and no others.
pub joint : map (λ c. same_runs (shown c) c.expected) cases ≡ map (λ c. true) cases
unfolding fold evaluation_at any_order expr_class numbered kind_number kind_of place_from kinds same is_named begins count segments is_local listed each_followed followed same_events same_run is_among all_among same_runs
joint = refl

-- So each of them can happen

abbrev pub MustRun : Case → Type 0
MustRun c = Each (IsRun (command_of c)) c.expected

pub must_run : Each MustRun cases
must_run = each_same (λ c. Each (IsRun (command_of c))) shown (λ c. c.expected) (λ c e. same_each (shown c) c.expected e (IsRun (command_of c)) (listed_run 0 (command_of c))) cases joint

-- and nothing else, unless it is cut short

abbrev pub OnlyRuns : Case → Type 0
OnlyRuns c = loopless (command_of c) ≡ true → (t : List PathEvent) (o : Ending) → Settled o → Runs (command_of c) t o → Among (t, o) c.expected

pub only_runs : Each OnlyRuns cases
only_runs =
    each_same (λ c rs. loopless (command_of c) ≡ true → (t : List PathEvent) (o : Ending) → Settled o → Runs (command_of c) t o → Among (t, o) rs) shown (λ c. c.expected)
    (λ c e q t o s r. same_among (shown c) c.expected e (t, o) (all_listed 0 q s r)) cases joint

-- no expression repeats anything
pub joint_loopless : map (λ c. loopless (command_of c)) cases ≡ map (λ c. true) cases
unfolding fold evaluation_at any_order expr_class numbered kind_number kind_of place_from kinds same is_named begins count segments is_local loopless
joint_loopless = refl
