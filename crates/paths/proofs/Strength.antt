-- Which evaluations must exist. A theorem about all runs is true of too few runs as well, so each sentence of document 01,
-- "How a path runs", and of document 02, Paper 2, on expressions and targets has small rows here with the complete list of their
-- runs: those that come out true first, then false, then unknown. `oracle/runs` lists them a second time.
use mathlib.Core.Path.{◌≡◌, refl}
use mathlib.Core.Bool.{Bool, true, false}
use mathlib.Core.List.{List, [], ◌∷◌, ◌++◌, map}
use Prim.Native.Nat.{ℕ}
use Prim.Native.String.{String}
use lib.ListN.{take, drop, take-append-drop}
use Rattle.table.specs.Rows.{Forest, nil, node, rest}
use Rattle.table.specs.Fold.{fold, nth}
use Rattle.kinds.specs.Kinds.{kinds}
use Rattle.kinds.specs.Words.{same, place_from, kind_of}
use Rattle.kinds.specs.Named.{kind_number, numbered, expr_class}
use Rattle.reads.specs.PathRows.{is_named, begins, count, segments, is_local}
use Rattle.reads.specs.Mentions.{in_row_order, seen_below, seen_at, seen, some, refers}
use Rattle.reads.specs.Iffs.{iff_here, every, iff_at, iff_quiet}
use Rattle.paths.specs.Commands.{PathEvent, read, write, choice, Ending, falls, stops, leaves, again, out_of_loop, out_of_round, Command, emit, exit, seq, star, catch, Runs}
use Rattle.paths.specs.Semantics.{row_order, Semantics, under}
use Rattle.paths.specs.Evaluation.{Truth, is_true, is_false, is_unknown, Evaluation, no_evaluation, evaluation_at, evaluations}
use Rattle.paths.proofs.Prefixes.{prefix}
use Rattle.paths.specs.Each.{Each}
use Rattle.paths.proofs.Listed.{Run, IsRun, followed, each_followed, rounds, listed, each_map, listed_run, each_expected, loopless, Settled, Among, all_listed}

-- Rows

-- a row, before the siblings after it
abbrev pub Row : Type 0
Row = Forest → Forest

abbrev pub siblings : List Row → Forest
siblings [] = nil
siblings (r ∷ rs) = r (siblings rs)

-- by the word of its kind, its side and its children
abbrev pub row : String → ℕ → List Row → Row
row word s cs = node (numbered word) s 8 9 (siblings cs)

-- three names, of which the first is the local
abbrev pub x : ℕ
x = 5

abbrev pub y : ℕ
y = 3

abbrev pub w : ℕ
w = 4

abbrev pub path_of : List ℕ → Row
path_of ns = row "path" 0 (map (λ n. row "seg" n []) ns)

abbrev pub ident : List ℕ → Row
ident ns = row "ident" 0 (path_of ns ∷ [])

abbrev pub lident : List ℕ → Row
lident ns = row "lident" 0 (path_of ns ∷ [])

abbrev pub call_row : ℕ → List ℕ → List Row → Row
call_row s ns arguments = row "call" s (path_of ns ∷ arguments)

-- x reads, y does not, and w(x) writes
abbrev pub X : Row
X = ident (x ∷ [])

abbrev pub Y : Row
Y = ident (y ∷ [])

abbrev pub W : Row
W = call_row 1 (w ∷ []) (X ∷ [])

abbrev pub lit : Row
lit = row "lit" 0 []

abbrev pub opaque : Row
opaque = row "opaque" 0 []

-- a child that may be missing, and is
abbrev pub absent : Row
absent = row "none" 0 []

-- `!` and another unary operator; &&, || and another binary one
abbrev pub not! : Row → Row
not! a = row "unary" 1 (a ∷ [])

abbrev pub minus : Row → Row
minus a = row "unary" 0 (a ∷ [])

abbrev pub and! : Row → Row → Row
and! a b = row "binary" 1 (a ∷ b ∷ [])

abbrev pub or! : Row → Row → Row
or! a b = row "binary" 2 (a ∷ b ∷ [])

abbrev pub plus : Row → Row → Row
plus a b = row "binary" 0 (a ∷ b ∷ [])

abbrev pub ternary : Row → Row → Row → Row
ternary a b c = row "ternary" 0 (a ∷ b ∷ c ∷ [])

abbrev pub paren : Row → Row
paren a = row "paren" 0 (a ∷ [])

abbrev pub event : Row → Row → Row
event a iff = row "event" 0 (a ∷ iff ∷ [])

-- Cases

-- where its truth is not asked, where it is and comes out so, and as a target
pub data Way : Type 0 where
  as_value as_target : Way
  as_truth : Truth → Way

abbrev pub evaluated_as : Way → Evaluation → Command
evaluated_as as_value e = e.value
evaluated_as as_target e = e.store
evaluated_as (as_truth t) e = e.truth t

-- "may stop anywhere": a run to its end, or its first n events
pub data Extent : Type 0 where
  whole : Extent
  up_to : ℕ → Extent

abbrev pub is_whole : Extent → Bool
is_whole whole = true
is_whole (up_to n) = false

abbrev pub shortened : Extent → List Run → List Run
shortened whole rs = rs
shortened (up_to n) rs = map (λ r. (take n r.0, stops)) rs

pub record Case : Type 0 where
  pub way : Way
  pub what : Row
  pub extent : Extent
  pub expected : List Run

abbrev pub command_of : Case → Command
command_of c = evaluated_as c.way (nth no_evaluation 0 (evaluations (under row_order) x (c.what nil)))

-- no rounds are listed, since an expression has no loops
abbrev pub shown : Case → List Run
shown c = shortened c.extent (listed 0 (command_of c))

-- whole runs, each by its events
abbrev pub case : Way → Row → List (List PathEvent) → Case
case way what runs = record { way = way; what = what; extent = whole; expected = map (λ t. (t, falls)) runs }

abbrev pub value : Row → List (List PathEvent) → Case
value = case as_value

abbrev pub comes_true : Row → List (List PathEvent) → Case
comes_true = case (as_truth is_true)

abbrev pub comes_false : Row → List (List PathEvent) → Case
comes_false = case (as_truth is_false)

abbrev pub comes_unknown : Row → List (List PathEvent) → Case
comes_unknown = case (as_truth is_unknown)

abbrev pub store : Row → List (List PathEvent) → Case
store = case as_target

-- runs that stop after so many events
abbrev pub cut : ℕ → Way → Row → List (List PathEvent) → Case
cut n way what runs = record { way = way; what = what; extent = up_to n; expected = map (λ t. (t, stops)) runs }

-- "A condition, or an operand whose truth is asked, is evaluated and then is freely true or false"; "From here a condition may be
-- unknown"; where it is not asked, nothing is chosen
abbrev truths : List Case
truths =
    comes_true X ((read ∷ choice 1 ∷ []) ∷ []) ∷
    comes_false X ((read ∷ choice 0 ∷ []) ∷ []) ∷
    value X ((read ∷ []) ∷ []) ∷
    comes_true lit ((choice 1 ∷ []) ∷ []) ∷
    comes_false lit ((choice 0 ∷ []) ∷ []) ∷
    value lit ([] ∷ []) ∷
    comes_true W ((write ∷ choice 1 ∷ []) ∷ []) ∷
    comes_false W ((write ∷ choice 0 ∷ []) ∷ []) ∷
    value W ((write ∷ []) ∷ []) ∷
    comes_true (plus W X) ((write ∷ read ∷ choice 1 ∷ []) ∷ []) ∷
    comes_false (plus W X) ((write ∷ read ∷ choice 0 ∷ []) ∷ []) ∷
    comes_true (minus X) ((read ∷ choice 1 ∷ []) ∷ []) ∷
    comes_false (minus X) ((read ∷ choice 0 ∷ []) ∷ []) ∷
    comes_unknown X ((read ∷ choice 2 ∷ []) ∷ []) ∷
    comes_unknown lit ((choice 2 ∷ []) ∷ []) ∷
    comes_unknown W ((write ∷ choice 2 ∷ []) ∷ []) ∷
    comes_unknown (plus W X) ((write ∷ read ∷ choice 2 ∷ []) ∷ []) ∷
    comes_unknown (minus X) ((read ∷ choice 2 ∷ []) ∷ []) ∷
    []

-- "&& is false after a false left; ... otherwise, and only then, the right is evaluated and gives the truth"; "&& goes on to its
-- right unless the left is false"; "After an unknown left, && is false if the right is, ... unknown otherwise"
abbrev ands : List Case
ands =
    comes_true (and! Y X) ((choice 1 ∷ read ∷ choice 1 ∷ []) ∷ []) ∷
    comes_false (and! Y X) ((choice 0 ∷ []) ∷ (choice 1 ∷ read ∷ choice 0 ∷ []) ∷ (choice 2 ∷ read ∷ choice 0 ∷ []) ∷ []) ∷
    comes_true (and! X W) ((read ∷ choice 1 ∷ write ∷ choice 1 ∷ []) ∷ []) ∷
    comes_false (and! (and! Y W) X)
    ((choice 0 ∷ []) ∷
    (choice 1 ∷ write ∷ choice 0 ∷ []) ∷
    (choice 2 ∷ write ∷ choice 0 ∷ []) ∷
    (choice 1 ∷ write ∷ choice 1 ∷ read ∷ choice 0 ∷ []) ∷
    (choice 1 ∷ write ∷ choice 2 ∷ read ∷ choice 0 ∷ []) ∷
    (choice 2 ∷ write ∷ choice 1 ∷ read ∷ choice 0 ∷ []) ∷
    (choice 2 ∷ write ∷ choice 2 ∷ read ∷ choice 0 ∷ []) ∷
    []) ∷
    comes_unknown (and! Y X) ((choice 1 ∷ read ∷ choice 2 ∷ []) ∷ (choice 2 ∷ read ∷ choice 1 ∷ []) ∷ (choice 2 ∷ read ∷ choice 2 ∷ []) ∷ []) ∷
    comes_unknown (and! (and! Y W) X)
    ((choice 1 ∷ write ∷ choice 1 ∷ read ∷ choice 2 ∷ []) ∷
    (choice 1 ∷ write ∷ choice 2 ∷ read ∷ choice 1 ∷ []) ∷
    (choice 1 ∷ write ∷ choice 2 ∷ read ∷ choice 2 ∷ []) ∷
    (choice 2 ∷ write ∷ choice 1 ∷ read ∷ choice 1 ∷ []) ∷
    (choice 2 ∷ write ∷ choice 1 ∷ read ∷ choice 2 ∷ []) ∷
    (choice 2 ∷ write ∷ choice 2 ∷ read ∷ choice 1 ∷ []) ∷
    (choice 2 ∷ write ∷ choice 2 ∷ read ∷ choice 2 ∷ []) ∷
    []) ∷
    value (and! (not! Y) W)
    ((choice 0 ∷ write ∷ choice 1 ∷ []) ∷
    (choice 1 ∷ []) ∷
    (choice 0 ∷ write ∷ choice 0 ∷ []) ∷
    (choice 2 ∷ write ∷ choice 0 ∷ []) ∷
    (choice 0 ∷ write ∷ choice 2 ∷ []) ∷
    (choice 2 ∷ write ∷ choice 1 ∷ []) ∷
    (choice 2 ∷ write ∷ choice 2 ∷ []) ∷
    []) ∷
    []

-- "|| is true after a true left; otherwise, and only then, the right is evaluated and gives the truth"; "|| unless the left is true";
-- "After an unknown left, ... || is true if the right is, and both are unknown otherwise"
abbrev ors : List Case
ors =
    comes_true (or! Y X) ((choice 1 ∷ []) ∷ (choice 0 ∷ read ∷ choice 1 ∷ []) ∷ (choice 2 ∷ read ∷ choice 1 ∷ []) ∷ []) ∷
    comes_false (or! Y X) ((choice 0 ∷ read ∷ choice 0 ∷ []) ∷ []) ∷
    comes_false (or! X W) ((read ∷ choice 0 ∷ write ∷ choice 0 ∷ []) ∷ []) ∷
    comes_true (or! (and! Y W) X)
    ((choice 1 ∷ write ∷ choice 1 ∷ []) ∷
    (choice 0 ∷ read ∷ choice 1 ∷ []) ∷
    (choice 1 ∷ write ∷ choice 0 ∷ read ∷ choice 1 ∷ []) ∷
    (choice 2 ∷ write ∷ choice 0 ∷ read ∷ choice 1 ∷ []) ∷
    (choice 1 ∷ write ∷ choice 2 ∷ read ∷ choice 1 ∷ []) ∷
    (choice 2 ∷ write ∷ choice 1 ∷ read ∷ choice 1 ∷ []) ∷
    (choice 2 ∷ write ∷ choice 2 ∷ read ∷ choice 1 ∷ []) ∷
    []) ∷
    comes_unknown (or! Y X) ((choice 0 ∷ read ∷ choice 2 ∷ []) ∷ (choice 2 ∷ read ∷ choice 0 ∷ []) ∷ (choice 2 ∷ read ∷ choice 2 ∷ []) ∷ []) ∷
    comes_unknown (or! (and! Y W) X)
    ((choice 0 ∷ read ∷ choice 2 ∷ []) ∷
    (choice 1 ∷ write ∷ choice 0 ∷ read ∷ choice 2 ∷ []) ∷
    (choice 2 ∷ write ∷ choice 0 ∷ read ∷ choice 2 ∷ []) ∷
    (choice 1 ∷ write ∷ choice 2 ∷ read ∷ choice 0 ∷ []) ∷
    (choice 1 ∷ write ∷ choice 2 ∷ read ∷ choice 2 ∷ []) ∷
    (choice 2 ∷ write ∷ choice 1 ∷ read ∷ choice 0 ∷ []) ∷
    (choice 2 ∷ write ∷ choice 1 ∷ read ∷ choice 2 ∷ []) ∷
    (choice 2 ∷ write ∷ choice 2 ∷ read ∷ choice 0 ∷ []) ∷
    (choice 2 ∷ write ∷ choice 2 ∷ read ∷ choice 2 ∷ []) ∷
    []) ∷
    []

-- "`!` flips, paren passes"; "`!` keeps it unknown"
abbrev flips : List Case
flips =
    comes_true (not! X) ((read ∷ choice 0 ∷ []) ∷ []) ∷
    comes_false (not! X) ((read ∷ choice 1 ∷ []) ∷ []) ∷
    comes_true (not! (and! Y X)) ((choice 0 ∷ []) ∷ (choice 1 ∷ read ∷ choice 0 ∷ []) ∷ (choice 2 ∷ read ∷ choice 0 ∷ []) ∷ []) ∷
    comes_false (not! (and! Y X)) ((choice 1 ∷ read ∷ choice 1 ∷ []) ∷ []) ∷
    value (paren X) ((read ∷ []) ∷ []) ∷
    comes_true (paren X) ((read ∷ choice 1 ∷ []) ∷ []) ∷
    comes_true (paren (or! Y X)) ((choice 1 ∷ []) ∷ (choice 0 ∷ read ∷ choice 1 ∷ []) ∷ (choice 2 ∷ read ∷ choice 1 ∷ []) ∷ []) ∷
    comes_false (paren (not! X)) ((read ∷ choice 1 ∷ []) ∷ []) ∷
    comes_unknown (not! X) ((read ∷ choice 2 ∷ []) ∷ []) ∷
    comes_unknown (not! (and! Y X)) ((choice 1 ∷ read ∷ choice 2 ∷ []) ∷ (choice 2 ∷ read ∷ choice 1 ∷ []) ∷ (choice 2 ∷ read ∷ choice 2 ∷ []) ∷ []) ∷
    comes_unknown (paren (or! Y X)) ((choice 0 ∷ read ∷ choice 2 ∷ []) ∷ (choice 2 ∷ read ∷ choice 0 ∷ []) ∷ (choice 2 ∷ read ∷ choice 2 ∷ []) ∷ []) ∷
    []

-- "Evaluated operands of &&, || and `!` always have their truth asked", where that of the whole is not
abbrev operands : List Case
operands =
    value (and! Y X)
    ((choice 1 ∷ read ∷ choice 1 ∷ []) ∷
    (choice 0 ∷ []) ∷
    (choice 1 ∷ read ∷ choice 0 ∷ []) ∷
    (choice 2 ∷ read ∷ choice 0 ∷ []) ∷
    (choice 1 ∷ read ∷ choice 2 ∷ []) ∷
    (choice 2 ∷ read ∷ choice 1 ∷ []) ∷
    (choice 2 ∷ read ∷ choice 2 ∷ []) ∷
    []) ∷
    value (or! Y X)
    ((choice 1 ∷ []) ∷
    (choice 0 ∷ read ∷ choice 1 ∷ []) ∷
    (choice 2 ∷ read ∷ choice 1 ∷ []) ∷
    (choice 0 ∷ read ∷ choice 0 ∷ []) ∷
    (choice 0 ∷ read ∷ choice 2 ∷ []) ∷
    (choice 2 ∷ read ∷ choice 0 ∷ []) ∷
    (choice 2 ∷ read ∷ choice 2 ∷ []) ∷
    []) ∷
    value (not! X) ((read ∷ choice 0 ∷ []) ∷ (read ∷ choice 1 ∷ []) ∷ (read ∷ choice 2 ∷ []) ∷ []) ∷
    value (paren (and! Y X))
    ((choice 1 ∷ read ∷ choice 1 ∷ []) ∷
    (choice 0 ∷ []) ∷
    (choice 1 ∷ read ∷ choice 0 ∷ []) ∷
    (choice 2 ∷ read ∷ choice 0 ∷ []) ∷
    (choice 1 ∷ read ∷ choice 2 ∷ []) ∷
    (choice 2 ∷ read ∷ choice 1 ∷ []) ∷
    (choice 2 ∷ read ∷ choice 2 ∷ []) ∷
    []) ∷
    value (plus (and! Y X) W)
    ((choice 1 ∷ read ∷ choice 1 ∷ write ∷ []) ∷
    (choice 0 ∷ write ∷ []) ∷
    (choice 1 ∷ read ∷ choice 0 ∷ write ∷ []) ∷
    (choice 2 ∷ read ∷ choice 0 ∷ write ∷ []) ∷
    (choice 1 ∷ read ∷ choice 2 ∷ write ∷ []) ∷
    (choice 2 ∷ read ∷ choice 1 ∷ write ∷ []) ∷
    (choice 2 ∷ read ∷ choice 2 ∷ write ∷ []) ∷
    []) ∷
    []

-- "A conditional expression evaluates its condition and one arm"; after an unknown condition it "evaluates both arms", in row order
abbrev conditionals : List Case
conditionals =
    value (ternary Y X W) ((choice 1 ∷ read ∷ []) ∷ (choice 0 ∷ write ∷ []) ∷ (choice 2 ∷ read ∷ write ∷ []) ∷ []) ∷
    comes_true (ternary Y X W) ((choice 1 ∷ read ∷ choice 1 ∷ []) ∷ (choice 0 ∷ write ∷ choice 1 ∷ []) ∷ (choice 2 ∷ read ∷ write ∷ choice 1 ∷ []) ∷ []) ∷
    comes_false (ternary Y X W) ((choice 1 ∷ read ∷ choice 0 ∷ []) ∷ (choice 0 ∷ write ∷ choice 0 ∷ []) ∷ (choice 2 ∷ read ∷ write ∷ choice 0 ∷ []) ∷ []) ∷
    value (ternary X Y lit) ((read ∷ choice 1 ∷ []) ∷ (read ∷ choice 0 ∷ []) ∷ (read ∷ choice 2 ∷ []) ∷ []) ∷
    value (ternary (and! Y X) lit W)
    ((choice 1 ∷ read ∷ choice 1 ∷ []) ∷
    (choice 0 ∷ write ∷ []) ∷
    (choice 1 ∷ read ∷ choice 0 ∷ write ∷ []) ∷
    (choice 2 ∷ read ∷ choice 0 ∷ write ∷ []) ∷
    (choice 1 ∷ read ∷ choice 2 ∷ write ∷ []) ∷
    (choice 2 ∷ read ∷ choice 1 ∷ write ∷ []) ∷
    (choice 2 ∷ read ∷ choice 2 ∷ write ∷ []) ∷
    []) ∷
    comes_unknown (ternary Y X W) ((choice 1 ∷ read ∷ choice 2 ∷ []) ∷ (choice 0 ∷ write ∷ choice 2 ∷ []) ∷ (choice 2 ∷ read ∷ write ∷ choice 2 ∷ []) ∷ []) ∷
    value (ternary Y W X) ((choice 1 ∷ write ∷ []) ∷ (choice 0 ∷ read ∷ []) ∷ (choice 2 ∷ write ∷ read ∷ []) ∷ []) ∷
    value (ternary (or! Y W) X Y)
    ((choice 1 ∷ read ∷ []) ∷
    (choice 0 ∷ write ∷ choice 1 ∷ read ∷ []) ∷
    (choice 2 ∷ write ∷ choice 1 ∷ read ∷ []) ∷
    (choice 0 ∷ write ∷ choice 0 ∷ []) ∷
    (choice 0 ∷ write ∷ choice 2 ∷ read ∷ []) ∷
    (choice 2 ∷ write ∷ choice 0 ∷ read ∷ []) ∷
    (choice 2 ∷ write ∷ choice 2 ∷ read ∷ []) ∷
    []) ∷
    []

-- "A call with side 1 writes the whole local; everything else evaluates its children"; "A call path beginning with the local
-- reads unless side is 1"
abbrev writers : List Case
writers =
    value (call_row 1 (w ∷ []) (X ∷ opaque ∷ [])) ((write ∷ []) ∷ []) ∷
    value (call_row 1 (x ∷ []) (X ∷ [])) ((write ∷ []) ∷ []) ∷
    comes_true (call_row 1 (x ∷ y ∷ []) (X ∷ [])) ((write ∷ choice 1 ∷ []) ∷ []) ∷
    comes_unknown (call_row 1 (x ∷ []) (X ∷ [])) ((write ∷ choice 2 ∷ []) ∷ []) ∷
    []

-- sides 0, 2 and 3: "what a called function with side 2 or 3 reads inside itself ... is no read of the path"; "the shape of a
-- call's own path" does not read
abbrev calls : ℕ → List Case
calls s =
    value (call_row s (w ∷ []) (W ∷ X ∷ opaque ∷ [])) ((write ∷ read ∷ read ∷ []) ∷ []) ∷
    value (call_row s (w ∷ []) (X ∷ W ∷ [])) ((read ∷ write ∷ []) ∷ []) ∷
    value (call_row s (x ∷ []) (W ∷ [])) ((read ∷ write ∷ []) ∷ []) ∷
    value (call_row s (x ∷ y ∷ []) []) ((read ∷ []) ∷ []) ∷
    value (call_row s (y ∷ x ∷ []) []) ([] ∷ []) ∷
    comes_true (call_row s [] (X ∷ [])) ((read ∷ choice 1 ∷ []) ∷ []) ∷
    comes_false (call_row s [] (X ∷ [])) ((read ∷ choice 0 ∷ []) ∷ []) ∷
    comes_unknown (call_row s [] (X ∷ [])) ((read ∷ choice 2 ∷ []) ∷ []) ∷
    value (call_row s (x ∷ y ∷ w ∷ []) []) ((read ∷ []) ∷ []) ∷
    []

-- "An ident whose first segment is the local reads; so does opaque"
abbrev idents : List Case
idents =
    value (ident (x ∷ y ∷ [])) ((read ∷ []) ∷ []) ∷
    value Y ([] ∷ []) ∷
    value (ident (y ∷ x ∷ [])) ([] ∷ []) ∷
    value (ident []) ([] ∷ []) ∷
    value opaque ((read ∷ []) ∷ []) ∷
    comes_true opaque ((read ∷ choice 1 ∷ []) ∷ []) ∷
    comes_false opaque ((read ∷ choice 0 ∷ []) ∷ []) ∷
    comes_unknown opaque ((read ∷ choice 2 ∷ []) ∷ []) ∷
    value (ident (x ∷ y ∷ w ∷ [])) ((read ∷ []) ∷ []) ∷
    []

-- "everything else evaluates its children in row order"
abbrev operators : List Case
operators =
    value (plus X W) ((read ∷ write ∷ []) ∷ []) ∷
    value (plus W X) ((write ∷ read ∷ []) ∷ []) ∷
    value (minus X) ((read ∷ []) ∷ []) ∷
    []

-- the same of the kind with this word
abbrev ordered : String → List Case
ordered word =
    value (row word 0 (W ∷ X ∷ Y ∷ [])) ((write ∷ read ∷ []) ∷ []) ∷
    comes_true (row word 0 (X ∷ opaque ∷ W ∷ [])) ((read ∷ read ∷ write ∷ choice 1 ∷ []) ∷ []) ∷
    comes_false (row word 0 (X ∷ opaque ∷ W ∷ [])) ((read ∷ read ∷ write ∷ choice 0 ∷ []) ∷ []) ∷
    comes_unknown (row word 0 (X ∷ opaque ∷ W ∷ [])) ((read ∷ read ∷ write ∷ choice 2 ∷ []) ∷ []) ∷
    []

-- "Cast type names ... don't" read, and are no rows; the size is evaluated
abbrev casts : List Case
casts =
    value (row "cast" 0 (X ∷ W ∷ [])) ((read ∷ write ∷ []) ∷ []) ∷
    value (row "cast" 0 (X ∷ absent ∷ [])) ((read ∷ []) ∷ []) ∷
    value (row "cast" 0 (lit ∷ absent ∷ [])) ([] ∷ []) ∷
    []

-- "Delay, event, wait: their expressions"; of an event its expression, then its iff; edges are no rows
abbrev events : List Case
events =
    value (event X W) ((read ∷ write ∷ []) ∷ []) ∷
    value (event Y X) ((read ∷ []) ∷ []) ∷
    value (event X absent) ((read ∷ []) ∷ []) ∷
    value (row "list" 0 (event W absent ∷ event Y X ∷ [])) ((write ∷ read ∷ []) ∷ []) ∷
    value (row "intra" 0 (X ∷ row "list" 0 (event W absent ∷ []) ∷ [])) ((read ∷ write ∷ []) ∷ []) ∷
    value (row "delay" 0 (X ∷ W ∷ [])) ((read ∷ write ∷ []) ∷ []) ∷
    value (row "star" 0 []) ([] ∷ []) ∷
    []

-- "target selects, then the write if the target is the plain local"; "a select of it, or a longer path, is neither read nor
-- written"
abbrev targets : List Case
targets =
    store (lident (x ∷ [])) ((write ∷ []) ∷ []) ∷
    store (lident (x ∷ y ∷ [])) ([] ∷ []) ∷
    store (lident (y ∷ [])) ([] ∷ []) ∷
    store (lident []) ([] ∷ []) ∷
    value (lident (x ∷ [])) ([] ∷ []) ∷
    store (row "lbit" 0 (lident (x ∷ []) ∷ Y ∷ [])) ([] ∷ []) ∷
    store (row "lbit" 0 (lident (x ∷ []) ∷ X ∷ [])) ((read ∷ []) ∷ []) ∷
    store (row "lbit" 0 (lident (y ∷ []) ∷ W ∷ [])) ((write ∷ []) ∷ []) ∷
    store (row "lpart" 0 (lident (x ∷ []) ∷ X ∷ W ∷ [])) ((read ∷ write ∷ []) ∷ []) ∷
    store (row "lidx" 0 (lident (x ∷ []) ∷ W ∷ X ∷ [])) ((write ∷ read ∷ []) ∷ []) ∷
    store (row "lconcat" 0 (lident (x ∷ []) ∷ lident (y ∷ []) ∷ [])) ([] ∷ []) ∷
    store (row "lconcat" 0 (lident (x ∷ []) ∷ row "lbit" 0 (lident (y ∷ []) ∷ X ∷ []) ∷ [])) ((read ∷ []) ∷ []) ∷
    store (row "lerror" 0 []) ([] ∷ []) ∷
    store (lident (x ∷ y ∷ w ∷ [])) ([] ∷ []) ∷
    []

-- "A path ... may stop anywhere"
abbrev cut_short : List Case
cut_short =
    cut 0 as_value X ([] ∷ []) ∷
    cut 1 as_value (plus X W) ((read ∷ []) ∷ []) ∷
    cut 2 (as_truth is_false) (and! Y X) ((choice 0 ∷ []) ∷ (choice 1 ∷ read ∷ []) ∷ (choice 2 ∷ read ∷ []) ∷ []) ∷
    cut 1 as_target (row "lpart" 0 (lident (x ∷ []) ∷ X ∷ W ∷ [])) ((read ∷ []) ∷ []) ∷
    cut 1 (as_truth is_unknown) (or! Y X) ((choice 0 ∷ []) ∷ (choice 2 ∷ []) ∷ (choice 2 ∷ []) ∷ []) ∷
    []

abbrev ordered_kinds : List String
ordered_kinds =
    "bitsel" ∷ "partsel" ∷ "indexed" ∷ "mtm" ∷ "concat" ∷ "syscall" ∷ "pattern" ∷ "replicate" ∷ "method" ∷ "cast" ∷ "namedarg" ∷ "new" ∷ []

abbrev for_each : {A : Type 0} → (A → List Case) → List A → List Case
for_each f [] = []
for_each f (a ∷ more) = f a ++ for_each f more

abbrev pub cases : List Case
cases =
    truths ++ ands ++ ors ++ flips ++ operands ++ conditionals ++ writers ++ for_each calls (0 ∷ 2 ∷ 3 ∷ []) ++ idents ++ operators
    ++ for_each ordered ordered_kinds ++ casts ++ events ++ targets ++ cut_short

-- The joint fact: what is listed of each row is what is expected of it, no more, no less, and in this order.
pub joint : map shown cases ≡ map (λ c. c.expected) cases
unfolding fold evaluation_at expr_class numbered kind_number kind_of place_from kinds same is_named begins count segments is_local listed each_followed followed
joint = refl

-- So each of them can happen

shortened_run : (extent : Extent) (c : Command) (rs : List Run) → Each (IsRun c) rs → Each (IsRun c) (shortened extent rs)
shortened_run whole c rs h = h
shortened_run (up_to n) c rs h =
    each_map (IsRun c) (IsRun c) (λ r. (take n r.0, stops)) (λ r i. prefix {o = r.1} (take n r.0) (drop n r.0) (rw (take-append-drop n r.0) i)) rs h

pub must_list : (extent : Extent) (n : ℕ) (c : Command) → Each (IsRun c) (shortened extent (listed n c))
must_list extent n c = shortened_run extent c (listed n c) (listed_run n c)

abbrev pub MustRun : Case → Type 0
MustRun c = Each (IsRun (command_of c)) c.expected

pub must_run : Each MustRun cases
must_run = each_expected (λ c. Each (IsRun (command_of c))) shown (λ c. c.expected) (λ c. must_list c.extent 0 (command_of c)) cases joint

-- and, where nothing is repeated and no run is cut short, nothing else can

abbrev pub OnlyBy : Extent → Command → List Run → Type 0
OnlyBy whole c rs = loopless c ≡ true → (t : List PathEvent) (o : Ending) → Settled o → Runs c t o → Among (t, o) rs
OnlyBy (up_to n) c rs = Unit

pub only_by : (extent : Extent) (n : ℕ) (c : Command) → OnlyBy extent c (shortened extent (listed n c))
only_by whole n c = λ q t o e x. all_listed n q e x
only_by (up_to m) n c = tt

abbrev pub OnlyRuns : Case → Type 0
OnlyRuns c = OnlyBy c.extent (command_of c) c.expected

pub only_runs : Each OnlyRuns cases
only_runs = each_expected (λ c. OnlyBy c.extent (command_of c)) shown (λ c. c.expected) (λ c. only_by c.extent 0 (command_of c)) cases joint

-- no expression repeats anything
pub joint_loopless : map (λ c. loopless (command_of c)) cases ≡ map (λ c. true) cases
unfolding fold evaluation_at expr_class numbered kind_number kind_of place_from kinds same is_named begins count segments is_local loopless
joint_loopless = refl

-- Rows of another local, the name 0; 5, which the local is above, is a name as any other there
abbrev other_local : List (Way × Row)
other_local =
    (as_value, ident (0 ∷ [])) ∷
    (as_value, ident (5 ∷ [])) ∷
    (as_value, opaque) ∷
    (as_value, call_row 0 (0 ∷ []) []) ∷
    (as_target, lident (0 ∷ [])) ∷
    (as_target, lident (0 ∷ 1 ∷ [])) ∷
    (as_target, lident (5 ∷ [])) ∷
    []

pub joint_others : map (λ c. listed 0 (evaluated_as c.0 (nth no_evaluation 0 (evaluations (under row_order) 0 (c.1 nil))))) other_local ≡ map (λ t. (t, falls) ∷ []) ((read ∷ []) ∷ [] ∷ (read ∷ []) ∷ (read ∷ []) ∷ (write ∷ []) ∷ [] ∷ [] ∷ [])
unfolding fold evaluation_at expr_class numbered kind_number kind_of place_from kinds same is_named begins count segments is_local listed each_followed followed
joint_others = refl

-- no evaluation looks at a span
pub span_unused : (sem : Semantics) (local k s lo hi : ℕ) (cs : Forest) (es : List Evaluation) → evaluation_at sem local k s lo hi cs es ≡ evaluation_at sem local k s 0 0 cs es
unfolding evaluation_at
span_unused sem local k s lo hi cs es = refl

-- The commands that no expression has: jumps, what ends them, and rounds, two at most

abbrev loops : List (Command × List Run)
loops =
    (seq (exit leaves) (emit read), ([], leaves) ∷ []) ∷
    (seq (exit again) (emit read), ([], again) ∷ []) ∷
    (seq (exit stops) (emit read), ([], stops) ∷ []) ∷
    (catch out_of_loop (exit leaves), ([], falls) ∷ []) ∷
    (catch out_of_loop (exit again), ([], again) ∷ []) ∷
    (catch out_of_loop (exit stops), ([], stops) ∷ []) ∷
    (catch out_of_round (exit leaves), ([], leaves) ∷ []) ∷
    (catch out_of_round (exit again), ([], falls) ∷ []) ∷
    (catch out_of_round (exit stops), ([], stops) ∷ []) ∷
    (catch out_of_round (emit write), (write ∷ [], falls) ∷ []) ∷
    (star (emit read), ([], falls) ∷ (read ∷ [], falls) ∷ (read ∷ read ∷ [], falls) ∷ []) ∷
    (star (seq (emit write) (exit leaves)), ([], falls) ∷ (write ∷ [], leaves) ∷ []) ∷
    []

pub joint_loops : map (λ l. listed 2 l.0) loops ≡ map (λ l. l.1) loops
unfolding listed each_followed followed rounds
joint_loops = refl

-- The premise on iff passes where no iff refers, whatever the event's own expression is, and fails where one does

abbrev premises : List (Row × Bool)
premises =
    (plus X W, true) ∷
    (event X absent, true) ∷
    (event Y Y, true) ∷
    (event X Y, true) ∷
    (row "delay" 0 (X ∷ []), true) ∷
    (row "list" 0 (event X absent ∷ event Y lit ∷ []), true) ∷
    (event Y X, false) ∷
    (event Y (ident (x ∷ y ∷ [])), false) ∷
    (event Y (minus X), false) ∷
    (event Y opaque, false) ∷
    (row "list" 0 (event X absent ∷ event Y X ∷ []), false) ∷
    (row "intra" 0 (absent ∷ row "list" 0 (event Y X ∷ []) ∷ []), false) ∷
    []

pub joint_premises : map (λ p. iff_quiet x (p.0 nil)) premises ≡ map (λ p. p.1) premises
unfolding fold expr_class numbered kind_number kind_of place_from kinds same is_named begins in_row_order seen_below seen_at seen some refers rest iff_here every iff_at iff_quiet
joint_premises = refl
