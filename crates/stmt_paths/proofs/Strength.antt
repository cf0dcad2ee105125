-- Which paths must exist, and which sheets meet the premises. A theorem about all paths of such sheets is true of too few of either
-- as well, so each sentence of document 01, "How a path runs", and of document 02, Paper 2, on statements has small rows here with the
-- complete list of their runs, up to a number of rounds, and each premise has rows that meet it and rows that do not. `oracle/runs`
-- lists them a second time.
use mathlib.Core.Path.{◌≡◌, refl, ap}
use mathlib.Core.Bool.{Bool, true, false, ◌&&◌}
use mathlib.Core.List.{List, [], ◌∷◌, ◌++◌, map}
use Prim.Native.Nat.{ℕ, suc}
use Prim.Native.String.{String}
use lib.Dec.{eqb}
use Rattle.table.specs.Rows.{Forest, nil, rest}
use Rattle.table.specs.Fold.{fold, nth, tail}
use Rattle.kinds.specs.Kinds.{kinds}
use Rattle.kinds.specs.Words.{same, place_from, kind_of}
use Rattle.kinds.specs.Named.{kind_number, numbered, expr_class, stmt_words, stmt_class_in, stmt_class, task_effect}
use Rattle.reads.specs.PathRows.{is_named, begins, count, segments, is_local, is_marked, is_loop_jump}
use Rattle.reads.specs.Mentions.{in_row_order, seen_below, seen_at, seen, some, refers}
use Rattle.paths.specs.Commands.{PathEvent, read, write, outside, choice, falls, stops, leaves, again, Command}
use Rattle.paths.specs.Semantics.{row_order, Semantics, under}
use Rattle.paths.specs.Evaluation.{evaluation_at}
use Rattle.paths.specs.Each.{Each}
use Rattle.paths.proofs.Listed.{Run, IsRun, followed, each_followed, rounds, listed, each_imply, each_expected, loopless}
use Rattle.paths.proofs.Strength.{Row, row, x, y, w, path_of, lident, X, Y, W, lit, opaque, absent, not!, and!, plus, event, ident, Extent, whole, up_to, is_whole, shortened, must_list, OnlyBy, only_by}
use Rattle.stmt_paths.specs.Execution.{Execution, held_evaluations_at, execution_at, executed, IsPath}
use Rattle.stmt_paths.specs.Premises.{child_place, placed_below, placed_at, placed_together, placed_rows, refers_at, plain_at, row_holds, FirstFailing, nowhere, at_row, first_false, first_failing, nth_row, RowPremises, Premises}
use Rattle.stmt_paths.proofs.PremiseTest.{all_hold, fails_at}

-- Rows

-- two more names, of which the first is marked as a jump
abbrev pub j : ℕ
j = 7

abbrev pub b : ℕ
b = 6

abbrev pub marks : ℕ → Bool
marks n = eqb n j

-- `target = right;`, and with a delay and an event between the two
abbrev pub timed : Row → Row → Row → Row → Row
timed delay intra target right = row "blocking" 0 (delay ∷ intra ∷ target ∷ right ∷ [])

abbrev pub assign : Row → Row → Row
assign = timed absent absent

-- the same with `<=`
abbrev pub timed_later : Row → Row → Row → Row → Row
timed_later delay intra target right = row "nonblocking" 0 (delay ∷ intra ∷ target ∷ right ∷ [])

abbrev pub assign_later : Row → Row → Row
assign_later = timed_later absent absent

-- `#(a)`, `@(a)`, `@(a iff g)` and `@*`
abbrev pub delay : List Row → Row
delay values = row "delay" 0 values

abbrev pub on : List Row → Row
on events = row "list" 0 events

abbrev pub anything : Row
anything = row "star" 0 []

-- the event of an assignment, with its count
abbrev pub intra : Row → Row → Row
intra count events = row "intra" 0 (count ∷ events ∷ [])

-- x and y as targets, and y[i]
abbrev pub to_x : Row
to_x = lident (x ∷ [])

abbrev pub to_y : Row
to_y = lident (y ∷ [])

abbrev pub bit_of : Row → Row → Row
bit_of target i = row "lbit" 0 (target ∷ i ∷ [])

-- `x = 1;` writes and `y = x;` reads
abbrev pub writes : Row
writes = assign to_x lit

abbrev pub reads : Row
reads = assign to_y X

abbrev pub block : List Row → Row
block statements = row "block" 0 statements

abbrev pub decl : ℕ → Row → Row
decl name init = row "decl" name (init ∷ [])

abbrev pub if_else : Row → Row → Row → Row
if_else c t e = row "if" 0 (c ∷ t ∷ e ∷ [])

abbrev pub returns : Row → Row
returns value = row "return" 0 (value ∷ [])

abbrev pub case_of : Row → List Row → Row
case_of c arms = row "case" 0 (c ∷ arms)

abbrev pub arm : List Row → Row → Row
arm labels s = row "match" 0 (s ∷ labels)

abbrev pub default : Row → Row
default s = row "default" 0 (s ∷ [])

-- loops, by side
abbrev pub for : ℕ → Row → Row → Row → Row → Row
for s init c step body = row "for" s (init ∷ c ∷ step ∷ body ∷ [])

abbrev pub while : ℕ → Row → Row → Row
while s c body = row "while" s (c ∷ body ∷ [])

abbrev pub repeat : ℕ → Row → Row → Row
repeat s c body = row "repeat" s (c ∷ body ∷ [])

abbrev pub forever : ℕ → Row → Row
forever s body = row "forever" s (body ∷ [])

abbrev pub disable : List ℕ → Row
disable ns = row "disable" 0 (path_of ns ∷ [])

abbrev pub task : List ℕ → List Row → ℕ → Row
task ns arguments s = row "task" s (path_of ns ∷ arguments)

abbrev pub delayed : Row → Row → Row
delayed d body = row "delayctrl" 0 (d ∷ body ∷ [])

abbrev pub awaits : Row → Row → Row
awaits e body = row "eventctrl" 0 (e ∷ body ∷ [])

abbrev pub wait : Row → Row → Row
wait c body = row "wait" 0 (c ∷ body ∷ [])

abbrev pub null : Row
null = row "null" 0 []

-- Cases

-- a statement, its runs with at most so many rounds of each loop, whole or their first events alone
pub record Case : Type 0 where
  pub what : Row
  pub most : ℕ
  pub extent : Extent
  pub expected : List Run

abbrev pub command_of : Case → Command
command_of c = executed (under row_order) x marks (c.what nil)

abbrev pub shown : Case → List Run
shown c = shortened c.extent (listed c.most (command_of c))

-- runs that fall, each by its events
abbrev pub fall : List (List PathEvent) → List Run
fall = map (λ t. (t, falls))

-- a statement that always falls, without loops
abbrev pub straight : Row → List (List PathEvent) → Case
straight what runs = record { what = what; most = 0; extent = whole; expected = fall runs }

-- with loops of at most n rounds, or other endings
abbrev pub rounds_to : ℕ → Row → List Run → Case
rounds_to n what runs = record { what = what; most = n; extent = whole; expected = runs }

-- runs that stop after so many events
abbrev pub cut : ℕ → ℕ → Row → List (List PathEvent) → Case
cut events n what runs = record { what = what; most = n; extent = up_to events; expected = map (λ t. (t, stops)) runs }

-- "Assignment: right side, delay, event, target selects, then the write": where one of the four reads and the others write
abbrev orders : List Case
orders =
    straight (timed (delay (W ∷ [])) (intra absent (on (event W absent ∷ []))) (bit_of to_y W) X) ((read ∷ write ∷ write ∷ write ∷ []) ∷ []) ∷
    straight (timed (delay (X ∷ [])) (intra absent (on (event W absent ∷ []))) (bit_of to_y W) W) ((write ∷ read ∷ write ∷ write ∷ []) ∷ []) ∷
    straight (timed (delay (W ∷ [])) (intra absent (on (event X absent ∷ []))) (bit_of to_y W) W) ((write ∷ write ∷ read ∷ write ∷ []) ∷ []) ∷
    straight (timed (delay (W ∷ [])) (intra absent (on (event W absent ∷ []))) (bit_of to_y X) W) ((write ∷ write ∷ write ∷ read ∷ []) ∷ []) ∷
    straight (timed (delay (X ∷ [])) absent to_y W) ((write ∷ read ∷ []) ∷ []) ∷
    straight (timed (delay (X ∷ W ∷ [])) absent to_y lit) ((read ∷ write ∷ []) ∷ []) ∷
    straight (timed absent (intra X (on (event W absent ∷ []))) to_y lit) ((read ∷ write ∷ []) ∷ []) ∷
    straight (timed absent (intra absent anything) to_y lit) ([] ∷ []) ∷
    straight (assign to_x X) ((read ∷ write ∷ []) ∷ []) ∷
    straight (timed (delay (X ∷ [])) absent to_x lit) ((read ∷ write ∷ []) ∷ []) ∷
    straight (timed absent (intra absent (on (event X absent ∷ []))) to_x lit) ((read ∷ write ∷ []) ∷ []) ∷
    straight (timed (delay (lit ∷ lit ∷ X ∷ [])) absent to_y lit) ((read ∷ []) ∷ []) ∷
    []

-- "then the write if the target is the plain local"; "a select of it, or a longer path, is neither read nor written"
abbrev targets : List Case
targets =
    straight writes ((write ∷ []) ∷ []) ∷
    straight reads ((read ∷ []) ∷ []) ∷
    straight (assign to_y lit) ([] ∷ []) ∷
    straight (assign (lident (x ∷ y ∷ [])) lit) ([] ∷ []) ∷
    straight (assign (bit_of to_x Y) lit) ([] ∷ []) ∷
    straight (assign (bit_of to_x X) lit) ((read ∷ []) ∷ []) ∷
    straight (assign (row "lconcat" 0 (to_x ∷ to_y ∷ [])) W) ((write ∷ []) ∷ []) ∷
    straight (assign to_x (and! Y X))
    ((choice 1 ∷ read ∷ choice 1 ∷ write ∷ []) ∷
    (choice 0 ∷ write ∷ []) ∷
    (choice 1 ∷ read ∷ choice 0 ∷ write ∷ []) ∷
    (choice 2 ∷ read ∷ choice 0 ∷ write ∷ []) ∷
    (choice 1 ∷ read ∷ choice 2 ∷ write ∷ []) ∷
    (choice 2 ∷ read ∷ choice 1 ∷ write ∷ []) ∷
    (choice 2 ∷ read ∷ choice 2 ∷ write ∷ []) ∷
    []) ∷
    []

-- "Nonblocking: right side only"
abbrev nonblockings : List Case
nonblockings =
    straight (assign_later to_x lit) ([] ∷ []) ∷
    straight (assign_later to_x X) ((read ∷ []) ∷ []) ∷
    straight (timed_later (delay (X ∷ [])) (intra X (on (event X absent ∷ []))) (bit_of to_y X) W) ((write ∷ []) ∷ []) ∷
    []

-- "A condition ... is evaluated and then is freely true or false"; if it is unknown, "`if` then takes the else side"
abbrev ifs : List Case
ifs =
    straight (if_else X writes reads) ((read ∷ choice 1 ∷ write ∷ []) ∷ (read ∷ choice 0 ∷ read ∷ []) ∷ (read ∷ choice 2 ∷ read ∷ []) ∷ []) ∷
    straight (if_else Y writes absent) ((choice 1 ∷ write ∷ []) ∷ (choice 0 ∷ []) ∷ (choice 2 ∷ []) ∷ []) ∷
    straight (if_else (and! Y W) null reads)
    ((choice 1 ∷ write ∷ choice 1 ∷ []) ∷
    (choice 0 ∷ read ∷ []) ∷
    (choice 1 ∷ write ∷ choice 0 ∷ read ∷ []) ∷
    (choice 2 ∷ write ∷ choice 0 ∷ read ∷ []) ∷
    (choice 1 ∷ write ∷ choice 2 ∷ read ∷ []) ∷
    (choice 2 ∷ write ∷ choice 1 ∷ read ∷ []) ∷
    (choice 2 ∷ write ∷ choice 2 ∷ read ∷ []) ∷
    []) ∷
    []

-- "Return evaluates its value and ends the path"
abbrev endings : List Case
endings =
    rounds_to 0 (returns absent) (([], stops) ∷ []) ∷
    rounds_to 0 (block (returns X ∷ writes ∷ [])) ((read ∷ [], stops) ∷ []) ∷
    rounds_to 0 (block (if_else Y (returns absent) absent ∷ writes ∷ []))
    ((choice 1 ∷ [], stops) ∷ (choice 0 ∷ write ∷ [], falls) ∷ (choice 2 ∷ write ∷ [], falls) ∷ []) ∷
    []

-- "Case: scrutinee, then labels in row order through the chosen arm's (all of them for a default or no arm), then that arm; no arm
-- only where no default stands", its number being the count of arms; where one stands, the last of the list is no choice, but a path
-- that stops after the scrutinee
abbrev arms : List Case
arms =
    straight (case_of X (arm (W ∷ []) reads ∷ arm (X ∷ Y ∷ []) writes ∷ []))
    ((read ∷ choice 0 ∷ write ∷ read ∷ []) ∷ (read ∷ choice 1 ∷ write ∷ read ∷ write ∷ []) ∷ (read ∷ choice 2 ∷ write ∷ read ∷ []) ∷ []) ∷
    rounds_to 0 (case_of Y (arm (W ∷ []) reads ∷ default writes ∷ arm (X ∷ []) null ∷ []))
    ((choice 0 ∷ write ∷ read ∷ [], falls) ∷ (choice 1 ∷ write ∷ read ∷ write ∷ [], falls) ∷ (choice 2 ∷ write ∷ read ∷ [], falls) ∷ ([], stops) ∷ []) ∷
    rounds_to 0 (case_of Y (default reads ∷ arm (X ∷ W ∷ []) null ∷ default writes ∷ []))
    ((choice 0 ∷ read ∷ write ∷ read ∷ [], falls) ∷ (choice 1 ∷ read ∷ write ∷ [], falls) ∷ (choice 2 ∷ read ∷ write ∷ write ∷ [], falls) ∷ ([], stops) ∷ []) ∷
    rounds_to 0 (case_of W (default reads ∷ [])) ((write ∷ choice 0 ∷ read ∷ [], falls) ∷ (write ∷ [], stops) ∷ []) ∷
    straight (case_of X []) ((read ∷ choice 0 ∷ []) ∷ []) ∷
    rounds_to 0 (block (case_of Y (arm (lit ∷ []) (returns X) ∷ []) ∷ writes ∷ [])) ((choice 0 ∷ read ∷ [], stops) ∷ (choice 1 ∷ write ∷ [], falls) ∷ []) ∷
    straight (case_of (not! Y) []) ((choice 0 ∷ choice 0 ∷ []) ∷ (choice 1 ∷ choice 0 ∷ []) ∷ (choice 2 ∷ choice 0 ∷ []) ∷ []) ∷
    straight (case_of Y (arm (not! Y ∷ []) writes ∷ []))
    ((choice 0 ∷ choice 0 ∷ write ∷ []) ∷
    (choice 0 ∷ choice 1 ∷ write ∷ []) ∷
    (choice 0 ∷ choice 2 ∷ write ∷ []) ∷
    (choice 1 ∷ choice 0 ∷ []) ∷
    (choice 1 ∷ choice 1 ∷ []) ∷
    (choice 1 ∷ choice 2 ∷ []) ∷
    []) ∷
    straight (case_of Y (arm [] writes ∷ [])) ((choice 0 ∷ write ∷ []) ∷ (choice 1 ∷ []) ∷ []) ∷
    straight (case_of Y (arm (lit ∷ lit ∷ X ∷ []) null ∷ [])) ((choice 0 ∷ read ∷ []) ∷ (choice 1 ∷ read ∷ []) ∷ []) ∷
    []

-- "For: init, then condition, body, step in turn"; "Loops run any number of rounds, at least one with side 1"; if the condition is
-- unknown, "a loop ends"
abbrev fors : List Case
fors =
    rounds_to 2 (for 0 reads X reads writes)
    (fall
    ((read ∷ read ∷ choice 0 ∷ []) ∷
    (read ∷ read ∷ choice 2 ∷ []) ∷
    (read ∷ read ∷ choice 1 ∷ write ∷ read ∷ read ∷ choice 0 ∷ []) ∷
    (read ∷ read ∷ choice 1 ∷ write ∷ read ∷ read ∷ choice 2 ∷ []) ∷
    (read ∷ read ∷ choice 1 ∷ write ∷ read ∷ read ∷ choice 1 ∷ write ∷ read ∷ read ∷ choice 0 ∷ []) ∷
    (read ∷ read ∷ choice 1 ∷ write ∷ read ∷ read ∷ choice 1 ∷ write ∷ read ∷ read ∷ choice 2 ∷ []) ∷
    [])) ∷
    rounds_to 1 (for 0 writes Y writes reads)
    (fall
    ((write ∷ choice 0 ∷ []) ∷
    (write ∷ choice 2 ∷ []) ∷
    (write ∷ choice 1 ∷ read ∷ write ∷ choice 0 ∷ []) ∷
    (write ∷ choice 1 ∷ read ∷ write ∷ choice 2 ∷ []) ∷
    [])) ∷
    rounds_to 1 (for 1 writes Y writes reads)
    (fall
    ((write ∷ choice 1 ∷ read ∷ write ∷ choice 0 ∷ []) ∷
    (write ∷ choice 1 ∷ read ∷ write ∷ choice 2 ∷ []) ∷
    (write ∷ choice 1 ∷ read ∷ write ∷ choice 1 ∷ read ∷ write ∷ choice 0 ∷ []) ∷
    (write ∷ choice 1 ∷ read ∷ write ∷ choice 1 ∷ read ∷ write ∷ choice 2 ∷ []) ∷
    [])) ∷
    rounds_to 2 (for 1 null Y null null)
    (fall
    ((choice 1 ∷ choice 0 ∷ []) ∷
    (choice 1 ∷ choice 2 ∷ []) ∷
    (choice 1 ∷ choice 1 ∷ choice 0 ∷ []) ∷
    (choice 1 ∷ choice 1 ∷ choice 2 ∷ []) ∷
    (choice 1 ∷ choice 1 ∷ choice 1 ∷ choice 0 ∷ []) ∷
    (choice 1 ∷ choice 1 ∷ choice 1 ∷ choice 2 ∷ []) ∷
    [])) ∷
    []

-- "while asks its condition before each round, repeat its count once"; of a repeat 1 is chosen "before a round", 0 "to run no more"
abbrev loops : List Case
loops =
    rounds_to 2 (while 0 X writes)
    (fall
    ((read ∷ choice 0 ∷ []) ∷
    (read ∷ choice 2 ∷ []) ∷
    (read ∷ choice 1 ∷ write ∷ read ∷ choice 0 ∷ []) ∷
    (read ∷ choice 1 ∷ write ∷ read ∷ choice 2 ∷ []) ∷
    (read ∷ choice 1 ∷ write ∷ read ∷ choice 1 ∷ write ∷ read ∷ choice 0 ∷ []) ∷
    (read ∷ choice 1 ∷ write ∷ read ∷ choice 1 ∷ write ∷ read ∷ choice 2 ∷ []) ∷
    [])) ∷
    rounds_to 1 (while 1 X writes)
    (fall
    ((read ∷ choice 1 ∷ write ∷ read ∷ choice 0 ∷ []) ∷
    (read ∷ choice 1 ∷ write ∷ read ∷ choice 2 ∷ []) ∷
    (read ∷ choice 1 ∷ write ∷ read ∷ choice 1 ∷ write ∷ read ∷ choice 0 ∷ []) ∷
    (read ∷ choice 1 ∷ write ∷ read ∷ choice 1 ∷ write ∷ read ∷ choice 2 ∷ []) ∷
    [])) ∷
    rounds_to 1 (while 0 (and! Y X) null)
    (fall
    ((choice 0 ∷ []) ∷
    (choice 1 ∷ read ∷ choice 0 ∷ []) ∷
    (choice 2 ∷ read ∷ choice 0 ∷ []) ∷
    (choice 1 ∷ read ∷ choice 2 ∷ []) ∷
    (choice 2 ∷ read ∷ choice 1 ∷ []) ∷
    (choice 2 ∷ read ∷ choice 2 ∷ []) ∷
    (choice 1 ∷ read ∷ choice 1 ∷ choice 0 ∷ []) ∷
    (choice 1 ∷ read ∷ choice 1 ∷ choice 1 ∷ read ∷ choice 0 ∷ []) ∷
    (choice 1 ∷ read ∷ choice 1 ∷ choice 2 ∷ read ∷ choice 0 ∷ []) ∷
    (choice 1 ∷ read ∷ choice 1 ∷ choice 1 ∷ read ∷ choice 2 ∷ []) ∷
    (choice 1 ∷ read ∷ choice 1 ∷ choice 2 ∷ read ∷ choice 1 ∷ []) ∷
    (choice 1 ∷ read ∷ choice 1 ∷ choice 2 ∷ read ∷ choice 2 ∷ []) ∷
    [])) ∷
    rounds_to 2 (repeat 0 X writes)
    (fall ((read ∷ choice 0 ∷ []) ∷ (read ∷ choice 1 ∷ write ∷ choice 0 ∷ []) ∷ (read ∷ choice 1 ∷ write ∷ choice 1 ∷ write ∷ choice 0 ∷ []) ∷ [])) ∷
    rounds_to 1 (repeat 1 X writes) (fall ((read ∷ choice 1 ∷ write ∷ choice 0 ∷ []) ∷ (read ∷ choice 1 ∷ write ∷ choice 1 ∷ write ∷ choice 0 ∷ []) ∷ [])) ∷
    rounds_to 1 (repeat 0 (not! Y) writes)
    (fall
    ((choice 0 ∷ choice 0 ∷ []) ∷
    (choice 0 ∷ choice 1 ∷ write ∷ choice 0 ∷ []) ∷
    (choice 1 ∷ choice 0 ∷ []) ∷
    (choice 1 ∷ choice 1 ∷ write ∷ choice 0 ∷ []) ∷
    (choice 2 ∷ choice 0 ∷ []) ∷
    (choice 2 ∷ choice 1 ∷ write ∷ choice 0 ∷ []) ∷
    [])) ∷
    rounds_to 2 (while 1 Y null)
    (fall
    ((choice 1 ∷ choice 0 ∷ []) ∷
    (choice 1 ∷ choice 2 ∷ []) ∷
    (choice 1 ∷ choice 1 ∷ choice 0 ∷ []) ∷
    (choice 1 ∷ choice 1 ∷ choice 2 ∷ []) ∷
    (choice 1 ∷ choice 1 ∷ choice 1 ∷ choice 0 ∷ []) ∷
    (choice 1 ∷ choice 1 ∷ choice 1 ∷ choice 2 ∷ []) ∷
    [])) ∷
    rounds_to 2 (repeat 1 Y null)
    (fall ((choice 1 ∷ choice 0 ∷ []) ∷ (choice 1 ∷ choice 1 ∷ choice 0 ∷ []) ∷ (choice 1 ∷ choice 1 ∷ choice 1 ∷ choice 0 ∷ []) ∷ [])) ∷
    []

-- "forever ends only by jump"
abbrev forevers : List Case
forevers =
    rounds_to 2 (forever 0 writes) (([], stops) ∷ (choice 1 ∷ write ∷ [], stops) ∷ (choice 1 ∷ write ∷ choice 1 ∷ write ∷ [], stops) ∷ []) ∷
    rounds_to 1 (forever 1 writes) ((choice 1 ∷ write ∷ [], stops) ∷ (choice 1 ∷ write ∷ choice 1 ∷ write ∷ [], stops) ∷ []) ∷
    rounds_to 1 (block (forever 1 (disable (j ∷ [])) ∷ writes ∷ []))
    ((choice 1 ∷ choice 0 ∷ write ∷ [], falls) ∷
    (choice 1 ∷ choice 1 ∷ [], stops) ∷
    (choice 1 ∷ choice 1 ∷ choice 1 ∷ choice 0 ∷ write ∷ [], falls) ∷
    (choice 1 ∷ choice 1 ∷ choice 1 ∷ choice 1 ∷ [], stops) ∷
    []) ∷
    rounds_to 1 (forever 0 (returns X)) (([], stops) ∷ (choice 1 ∷ read ∷ [], stops) ∷ []) ∷
    rounds_to 2 (forever 1 null) ((choice 1 ∷ [], stops) ∷ (choice 1 ∷ choice 1 ∷ [], stops) ∷ (choice 1 ∷ choice 1 ∷ choice 1 ∷ [], stops) ∷ []) ∷
    []

-- "A loop jump ... leaves the nearest loop or only its round, either one freely": what stands after it in the round is not run, the
-- step is; outside any loop it ends the path
abbrev jumps : List Case
jumps =
    rounds_to 2 (while 0 Y (disable (j ∷ [])))
    (fall
    ((choice 0 ∷ []) ∷
    (choice 2 ∷ []) ∷
    (choice 1 ∷ choice 0 ∷ []) ∷
    (choice 1 ∷ choice 1 ∷ choice 0 ∷ []) ∷
    (choice 1 ∷ choice 1 ∷ choice 2 ∷ []) ∷
    (choice 1 ∷ choice 1 ∷ choice 1 ∷ choice 0 ∷ []) ∷
    (choice 1 ∷ choice 1 ∷ choice 1 ∷ choice 1 ∷ choice 0 ∷ []) ∷
    (choice 1 ∷ choice 1 ∷ choice 1 ∷ choice 1 ∷ choice 2 ∷ []) ∷
    [])) ∷
    rounds_to 1 (for 0 null Y reads (block (disable (j ∷ []) ∷ writes ∷ [])))
    (fall
    ((choice 0 ∷ []) ∷
    (choice 2 ∷ []) ∷
    (choice 1 ∷ choice 0 ∷ []) ∷
    (choice 1 ∷ choice 1 ∷ read ∷ choice 0 ∷ []) ∷
    (choice 1 ∷ choice 1 ∷ read ∷ choice 2 ∷ []) ∷
    [])) ∷
    rounds_to 0 (repeat 1 Y (disable (j ∷ []))) (fall ((choice 1 ∷ choice 0 ∷ []) ∷ (choice 1 ∷ choice 1 ∷ choice 0 ∷ []) ∷ [])) ∷
    rounds_to 1 (while 0 Y (block (if_else X (block (disable (j ∷ []) ∷ [])) absent ∷ writes ∷ [])))
    (fall
    ((choice 0 ∷ []) ∷
    (choice 2 ∷ []) ∷
    (choice 1 ∷ read ∷ choice 1 ∷ choice 0 ∷ []) ∷
    (choice 1 ∷ read ∷ choice 1 ∷ choice 1 ∷ choice 0 ∷ []) ∷
    (choice 1 ∷ read ∷ choice 1 ∷ choice 1 ∷ choice 2 ∷ []) ∷
    (choice 1 ∷ read ∷ choice 0 ∷ write ∷ choice 0 ∷ []) ∷
    (choice 1 ∷ read ∷ choice 0 ∷ write ∷ choice 2 ∷ []) ∷
    (choice 1 ∷ read ∷ choice 2 ∷ write ∷ choice 0 ∷ []) ∷
    (choice 1 ∷ read ∷ choice 2 ∷ write ∷ choice 2 ∷ []) ∷
    [])) ∷
    rounds_to 1 (while 0 Y (block (repeat 0 Y (disable (j ∷ [])) ∷ writes ∷ [])))
    (fall
    ((choice 0 ∷ []) ∷
    (choice 2 ∷ []) ∷
    (choice 1 ∷ choice 0 ∷ write ∷ choice 0 ∷ []) ∷
    (choice 1 ∷ choice 0 ∷ write ∷ choice 2 ∷ []) ∷
    (choice 1 ∷ choice 1 ∷ choice 0 ∷ write ∷ choice 0 ∷ []) ∷
    (choice 1 ∷ choice 1 ∷ choice 0 ∷ write ∷ choice 2 ∷ []) ∷
    (choice 1 ∷ choice 1 ∷ choice 1 ∷ choice 0 ∷ write ∷ choice 0 ∷ []) ∷
    (choice 1 ∷ choice 1 ∷ choice 1 ∷ choice 0 ∷ write ∷ choice 2 ∷ []) ∷
    [])) ∷
    rounds_to 0 (disable (j ∷ [])) ((choice 0 ∷ [], leaves) ∷ (choice 1 ∷ [], again) ∷ []) ∷
    rounds_to 0 (block (disable (j ∷ []) ∷ writes ∷ [])) ((choice 0 ∷ [], leaves) ∷ (choice 1 ∷ [], again) ∷ []) ∷
    rounds_to 1 (block (while 0 Y (returns absent) ∷ writes ∷ []))
    ((choice 0 ∷ write ∷ [], falls) ∷ (choice 2 ∷ write ∷ [], falls) ∷ (choice 1 ∷ [], stops) ∷ []) ∷
    rounds_to 1 (while 1 Y (disable (j ∷ [])))
    (fall
    ((choice 1 ∷ choice 0 ∷ []) ∷
    (choice 1 ∷ choice 1 ∷ choice 0 ∷ []) ∷
    (choice 1 ∷ choice 1 ∷ choice 2 ∷ []) ∷
    (choice 1 ∷ choice 1 ∷ choice 1 ∷ choice 0 ∷ []) ∷
    (choice 1 ∷ choice 1 ∷ choice 1 ∷ choice 1 ∷ choice 0 ∷ []) ∷
    (choice 1 ∷ choice 1 ∷ choice 1 ∷ choice 1 ∷ choice 2 ∷ []) ∷
    [])) ∷
    rounds_to 1 (for 1 null Y reads (block (disable (j ∷ []) ∷ writes ∷ [])))
    (fall
    ((choice 1 ∷ choice 0 ∷ []) ∷
    (choice 1 ∷ choice 1 ∷ read ∷ choice 0 ∷ []) ∷
    (choice 1 ∷ choice 1 ∷ read ∷ choice 2 ∷ []) ∷
    (choice 1 ∷ choice 1 ∷ read ∷ choice 1 ∷ choice 0 ∷ []) ∷
    (choice 1 ∷ choice 1 ∷ read ∷ choice 1 ∷ choice 1 ∷ read ∷ choice 0 ∷ []) ∷
    (choice 1 ∷ choice 1 ∷ read ∷ choice 1 ∷ choice 1 ∷ read ∷ choice 2 ∷ []) ∷
    [])) ∷
    rounds_to 1 (block (forever 0 (disable (j ∷ [])) ∷ writes ∷ []))
    (([], stops) ∷ (choice 1 ∷ choice 0 ∷ write ∷ [], falls) ∷ (choice 1 ∷ choice 1 ∷ [], stops) ∷ []) ∷
    rounds_to 1 (while 0 Y (case_of Y (arm (lit ∷ []) (disable (j ∷ [])) ∷ default writes ∷ [])))
    ((choice 0 ∷ [], falls) ∷
    (choice 2 ∷ [], falls) ∷
    (choice 1 ∷ choice 0 ∷ choice 0 ∷ [], falls) ∷
    (choice 1 ∷ choice 0 ∷ choice 1 ∷ choice 0 ∷ [], falls) ∷
    (choice 1 ∷ choice 0 ∷ choice 1 ∷ choice 2 ∷ [], falls) ∷
    (choice 1 ∷ choice 1 ∷ write ∷ choice 0 ∷ [], falls) ∷
    (choice 1 ∷ choice 1 ∷ write ∷ choice 2 ∷ [], falls) ∷
    (choice 1 ∷ [], stops) ∷
    []) ∷
    rounds_to 1 (while 0 Y (block (wait Y (disable (j ∷ [])) ∷ writes ∷ [])))
    ((choice 0 ∷ [], falls) ∷
    (choice 2 ∷ [], falls) ∷
    (choice 1 ∷ choice 1 ∷ choice 0 ∷ [], falls) ∷
    (choice 1 ∷ choice 1 ∷ choice 1 ∷ choice 0 ∷ [], falls) ∷
    (choice 1 ∷ choice 1 ∷ choice 1 ∷ choice 2 ∷ [], falls) ∷
    (choice 1 ∷ choice 0 ∷ [], stops) ∷
    (choice 1 ∷ choice 2 ∷ [], stops) ∷
    []) ∷
    rounds_to 1 (while 0 Y (block (delayed (delay (X ∷ [])) (disable (j ∷ [])) ∷ writes ∷ [])))
    (fall
    ((choice 0 ∷ []) ∷
    (choice 2 ∷ []) ∷
    (choice 1 ∷ read ∷ choice 0 ∷ []) ∷
    (choice 1 ∷ read ∷ choice 1 ∷ choice 0 ∷ []) ∷
    (choice 1 ∷ read ∷ choice 1 ∷ choice 2 ∷ []) ∷
    [])) ∷
    rounds_to 1 (while 0 Y (block (awaits (on (event X absent ∷ [])) (disable (j ∷ [])) ∷ writes ∷ [])))
    (fall
    ((choice 0 ∷ []) ∷
    (choice 2 ∷ []) ∷
    (choice 1 ∷ read ∷ choice 0 ∷ []) ∷
    (choice 1 ∷ read ∷ choice 1 ∷ choice 0 ∷ []) ∷
    (choice 1 ∷ read ∷ choice 1 ∷ choice 2 ∷ []) ∷
    [])) ∷
    rounds_to 0 (if_else Y null (disable (j ∷ [])))
    ((choice 1 ∷ [], falls) ∷
    (choice 0 ∷ choice 0 ∷ [], leaves) ∷
    (choice 0 ∷ choice 1 ∷ [], again) ∷
    (choice 2 ∷ choice 0 ∷ [], leaves) ∷
    (choice 2 ∷ choice 1 ∷ [], again) ∷
    []) ∷
    rounds_to 0 (case_of Y (default (disable (j ∷ [])) ∷ [])) ((choice 0 ∷ choice 0 ∷ [], leaves) ∷ (choice 0 ∷ choice 1 ∷ [], again) ∷ ([], stops) ∷ []) ∷
    []

-- "a disable whose path is one segment with jump mark 1": no other disable jumps
abbrev others : List ℕ → List Case
others ns =
    straight (disable ns) ([] ∷ []) ∷
    rounds_to 1 (while 0 Y (block (disable ns ∷ writes ∷ [])))
    (fall ((choice 0 ∷ []) ∷ (choice 2 ∷ []) ∷ (choice 1 ∷ write ∷ choice 0 ∷ []) ∷ (choice 1 ∷ write ∷ choice 2 ∷ []) ∷ [])) ∷
    []

-- "A task with effect 1 writes, 0 does nothing, 2 and 3 read", and "effect plus 4 if it suspends"; "but a two-segment task path with
-- no mention, arguments included, does nothing at any effect"
abbrev tasks : ℕ × List PathEvent → List Case
tasks e =
    straight (task (w ∷ []) (X ∷ W ∷ []) e.0) (e.1 ∷ []) ∷
    straight (task (w ∷ []) [] e.0) (e.1 ∷ []) ∷
    straight (task (x ∷ []) [] e.0) (e.1 ∷ []) ∷
    straight (task [] [] e.0) (e.1 ∷ []) ∷
    straight (task (w ∷ y ∷ b ∷ []) [] e.0) (e.1 ∷ []) ∷
    straight (task (x ∷ y ∷ []) [] e.0) (e.1 ∷ []) ∷
    straight (task (w ∷ y ∷ []) (Y ∷ plus lit X ∷ []) e.0) (e.1 ∷ []) ∷
    straight (task (w ∷ y ∷ []) (opaque ∷ []) e.0) (e.1 ∷ []) ∷
    straight (task (w ∷ y ∷ []) [] e.0) ([] ∷ []) ∷
    straight (task (w ∷ x ∷ []) (Y ∷ ident (y ∷ x ∷ []) ∷ []) e.0) ([] ∷ []) ∷
    straight (task (w ∷ y ∷ b ∷ w ∷ []) [] e.0) (e.1 ∷ []) ∷
    straight (task (w ∷ y ∷ []) (lit ∷ lit ∷ X ∷ []) e.0) (e.1 ∷ []) ∷
    []

abbrev effects : List (ℕ × List PathEvent)
effects = (0, []) ∷ (1, write ∷ []) ∷ (2, read ∷ []) ∷ (3, read ∷ []) ∷ (4, []) ∷ (5, write ∷ []) ∷ (6, read ∷ []) ∷ (7, read ∷ []) ∷ []

-- "Delay, event, wait: their expressions, then the body; a wait goes on only when its expression is true", not when it is unknown
abbrev controls : List Case
controls =
    straight (delayed (delay (X ∷ W ∷ [])) reads) ((read ∷ write ∷ read ∷ []) ∷ []) ∷
    straight (delayed (delay (X ∷ [])) absent) ((read ∷ []) ∷ []) ∷
    straight (awaits anything writes) ((write ∷ []) ∷ []) ∷
    straight (awaits anything absent) ([] ∷ []) ∷
    straight (awaits (on (event Y X ∷ event W absent ∷ [])) reads) ((read ∷ write ∷ read ∷ []) ∷ []) ∷
    straight (awaits (on (event X Y ∷ [])) absent) ((read ∷ []) ∷ []) ∷
    rounds_to 0 (wait X writes) ((read ∷ choice 1 ∷ write ∷ [], falls) ∷ (read ∷ choice 0 ∷ [], stops) ∷ (read ∷ choice 2 ∷ [], stops) ∷ []) ∷
    rounds_to 0 (block (wait Y absent ∷ writes ∷ [])) ((choice 1 ∷ write ∷ [], falls) ∷ (choice 0 ∷ [], stops) ∷ (choice 2 ∷ [], stops) ∷ []) ∷
    rounds_to 0 (wait (and! Y X) absent)
    ((choice 1 ∷ read ∷ choice 1 ∷ [], falls) ∷
    (choice 0 ∷ [], stops) ∷
    (choice 1 ∷ read ∷ choice 0 ∷ [], stops) ∷
    (choice 2 ∷ read ∷ choice 0 ∷ [], stops) ∷
    (choice 1 ∷ read ∷ choice 2 ∷ [], stops) ∷
    (choice 2 ∷ read ∷ choice 1 ∷ [], stops) ∷
    (choice 2 ∷ read ∷ choice 2 ∷ [], stops) ∷
    []) ∷
    straight (delayed (delay (lit ∷ lit ∷ X ∷ [])) absent) ((read ∷ []) ∷ []) ∷
    []

-- "Block: initialisers, then statements"; "A systask evaluates its arguments; null does nothing"
abbrev sequences : List Case
sequences =
    straight (block (decl b X ∷ decl y W ∷ reads ∷ writes ∷ [])) ((read ∷ write ∷ read ∷ write ∷ []) ∷ []) ∷
    straight (block (decl b absent ∷ [])) ([] ∷ []) ∷
    straight (block (decl x X ∷ [])) ((read ∷ []) ∷ []) ∷
    straight (block (writes ∷ block (reads ∷ []) ∷ null ∷ writes ∷ [])) ((write ∷ read ∷ write ∷ []) ∷ []) ∷
    straight (block []) ([] ∷ []) ∷
    straight (row "systask" 0 (X ∷ W ∷ Y ∷ opaque ∷ [])) ((read ∷ write ∷ read ∷ []) ∷ []) ∷
    straight (row "systask" 0 []) ([] ∷ []) ∷
    straight null ([] ∷ []) ∷
    straight (block (decl b X ∷ writes ∷ [])) ((read ∷ write ∷ []) ∷ []) ∷
    straight (block (decl 0 X ∷ [])) ((read ∷ []) ∷ []) ∷
    []

-- "Fork counts as a read, and so do the unmodelled forms": of the kind with this word
abbrev unmodelled : String → List Case
unmodelled word =
    straight (row word 0 []) ((outside ∷ []) ∷ []) ∷
    straight (block (row word 0 (reads ∷ writes ∷ []) ∷ writes ∷ [])) ((outside ∷ write ∷ []) ∷ []) ∷
    []

abbrev unmodelled_kinds : List String
unmodelled_kinds =
    "fork" ∷ "randstmt" ∷ "trigger" ∷ "waitfork" ∷ "concurrent" ∷ "passign" ∷ "deassign" ∷ "force" ∷ "release" ∷ "deferred" ∷ "cover" ∷ "error" ∷ []

-- "A path ... may stop anywhere"
abbrev cut_short : List Case
cut_short =
    cut 0 0 writes ([] ∷ []) ∷
    cut 1 0 (block (reads ∷ writes ∷ [])) ((read ∷ []) ∷ []) ∷
    cut 3 1 (while 0 X writes) ((read ∷ choice 0 ∷ []) ∷ (read ∷ choice 2 ∷ []) ∷ (read ∷ choice 1 ∷ write ∷ []) ∷ (read ∷ choice 1 ∷ write ∷ []) ∷ []) ∷
    cut 1 0 (wait Y writes) ((choice 1 ∷ []) ∷ (choice 0 ∷ []) ∷ (choice 2 ∷ []) ∷ []) ∷
    []

abbrev for_each : {A : Type 0} → (A → List Case) → List A → List Case
for_each f [] = []
for_each f (a ∷ more) = f a ++ for_each f more

abbrev pub cases : List Case
cases =
    orders ++ targets ++ nonblockings ++ ifs ++ endings ++ arms ++ fors ++ loops ++ forevers ++ jumps
    ++ for_each others ((b ∷ []) ∷ (j ∷ b ∷ []) ∷ (j ∷ j ∷ []) ∷ [] ∷ [])
    ++ for_each tasks effects ++ controls ++ sequences ++ for_each unmodelled unmodelled_kinds ++ cut_short

-- The joint fact: what the listing gives of each statement is what is expected of it, in this order.
pub joint : map shown cases ≡ map (λ c. c.expected) cases
unfolding fold evaluation_at held_evaluations_at execution_at expr_class stmt_class stmt_class_in stmt_words task_effect numbered kind_number kind_of place_from kinds same is_named begins count segments is_local is_marked is_loop_jump in_row_order seen_below seen_at seen some refers listed each_followed followed rounds
joint = refl

-- So each of them can happen

abbrev pub MustRun : Case → Type 0
MustRun c = Each (IsRun (command_of c)) c.expected

pub must_run : Each MustRun cases
must_run = each_expected (λ c. Each (IsRun (command_of c))) shown (λ c. c.expected) (λ c. must_list c.extent c.most (command_of c)) cases joint

-- and is a path, however it ends

abbrev pub MustBePaths : Case → Type 0
MustBePaths c = Each (λ r. IsPath (under row_order) x marks (c.what nil) r.0) c.expected

runs_are_paths : (c : Case) → MustRun c → MustBePaths c
runs_are_paths c = each_imply (IsRun (command_of c)) (λ r. IsPath (under row_order) x marks (c.what nil) r.0) (λ r h. record { ending = r.1; runs = h }) c.expected

pub must_be_paths : Each MustBePaths cases
must_be_paths = each_imply MustRun MustBePaths runs_are_paths cases must_run

-- and of a statement without loops, no other run ends otherwise than by stopping

abbrev pub OnlyRuns : Case → Type 0
OnlyRuns c = OnlyBy c.extent (command_of c) c.expected

pub only_runs : Each OnlyRuns cases
only_runs = each_expected (λ c. OnlyBy c.extent (command_of c)) shown (λ c. c.expected) (λ c. only_by c.extent c.most (command_of c)) cases joint

-- how many these are, without those that are cut short
abbrev how_many : List Bool → ℕ
how_many [] = 0
how_many (true ∷ bs) = suc (how_many bs)
how_many (false ∷ bs) = how_many bs

pub loopless_cases : how_many (map (λ c. is_whole c.extent && loopless (command_of c)) cases) ≡ 187
unfolding fold evaluation_at held_evaluations_at execution_at expr_class stmt_class stmt_class_in stmt_words task_effect numbered kind_number kind_of place_from kinds same is_named begins count segments is_local is_marked is_loop_jump in_row_order seen_below seen_at seen some refers loopless
loopless_cases = refl

-- Another local, the name 0, and other marks, that of the name 1
abbrev other_local : List Row
other_local = assign (lident (0 ∷ [])) (ident (0 ∷ [])) ∷ disable (1 ∷ []) ∷ disable (j ∷ []) ∷ task (0 ∷ 1 ∷ []) [] 3 ∷ task (x ∷ 1 ∷ []) [] 3 ∷ []

pub joint_others : map (λ r. listed 0 (executed (under row_order) 0 (λ n. eqb n 1) (r nil))) other_local ≡ fall ((read ∷ write ∷ []) ∷ []) ∷ ((choice 0 ∷ [], leaves) ∷ (choice 1 ∷ [], again) ∷ []) ∷ fall ([] ∷ []) ∷ fall ((read ∷ []) ∷ []) ∷ fall ([] ∷ []) ∷ []
unfolding fold evaluation_at held_evaluations_at execution_at expr_class stmt_class stmt_class_in stmt_words task_effect numbered kind_number kind_of place_from kinds same is_named begins count segments is_local is_marked is_loop_jump in_row_order seen_below seen_at seen some refers listed each_followed followed rounds
joint_others = refl

-- no execution looks at a span
pub span_unused : (sem : Semantics) (local : ℕ) (marks : ℕ → Bool) (k s lo hi : ℕ) (cs : Forest) (rs : List Execution) → execution_at sem local marks k s lo hi cs rs ≡ execution_at sem local marks k s 0 0 cs rs
unfolding execution_at
span_unused sem local marks k s lo hi cs rs = refl

-- The premises: the first row at which one fails

-- a loop jump, and a disable that is none
abbrev jump : Row
jump = disable (j ∷ [])

abbrev disable_block : Row
disable_block = disable (b ∷ [])

-- "its disables are only loop jumps in loop bodies, not in an init or step"
abbrev disables : List (Row × FirstFailing)
disables =
    (while 0 Y jump, nowhere) ∷
    (for 0 null Y null jump, nowhere) ∷
    (repeat 1 Y jump, nowhere) ∷
    (forever 0 jump, nowhere) ∷
    (while 0 Y (block (if_else Y (block (jump ∷ [])) absent ∷ [])), nowhere) ∷
    (forever 0 (case_of Y (default (wait Y jump) ∷ [])), nowhere) ∷
    (while 0 Y (for 0 null Y null jump), nowhere) ∷
    (while 0 Y disable_block, at_row 4) ∷
    (while 0 Y (disable (j ∷ b ∷ [])), at_row 4) ∷
    (while 0 Y (disable []), at_row 4) ∷
    (disable_block, at_row 0) ∷
    (jump, at_row 0) ∷
    (block (null ∷ jump ∷ []), at_row 2) ∷
    (if_else Y jump absent, at_row 4) ∷
    (block (while 0 Y null ∷ jump ∷ []), at_row 6) ∷
    (for 0 jump Y null null, at_row 1) ∷
    (for 0 null Y jump null, at_row 5) ∷
    (for 0 (while 0 Y jump) Y null null, at_row 5) ∷
    (for 0 null Y (while 0 Y jump) null, at_row 9) ∷
    (for 0 null Y (block (if_else Y (forever 0 jump) absent ∷ [])) null, at_row 11) ∷
    (while 0 Y (for 0 jump Y null null), at_row 5) ∷
    (while 0 Y (for 0 null Y jump null), at_row 9) ∷
    []

-- "no inner declaration names the local"
abbrev declarations : List (Row × FirstFailing)
declarations =
    (block (decl y X ∷ decl b absent ∷ writes ∷ []), nowhere) ∷
    (block (decl x absent ∷ []), at_row 1) ∷
    (block (decl y lit ∷ decl x lit ∷ []), at_row 3) ∷
    (block (block (decl x absent ∷ []) ∷ []), at_row 2) ∷
    []

-- "nonblocking timing ... never refer to it, and a nonblocking target is the plain local or doesn't refer to it"; the right side
-- may, and so may the timing and target of an assignment that is blocking
abbrev later : List (Row × FirstFailing)
later =
    (assign_later to_x lit, nowhere) ∷
    (assign_later (bit_of to_y lit) X, nowhere) ∷
    (timed_later (delay (Y ∷ [])) (intra Y (on (event Y Y ∷ []))) to_x X, nowhere) ∷
    (timed (delay (X ∷ [])) (intra X (on (event X absent ∷ []))) (bit_of to_x X) X, nowhere) ∷
    (assign_later (bit_of to_x lit) lit, at_row 0) ∷
    (assign_later (bit_of to_y X) lit, at_row 0) ∷
    (assign_later (row "lconcat" 0 (to_x ∷ [])) lit, at_row 0) ∷
    (assign_later (lident (x ∷ y ∷ [])) lit, at_row 0) ∷
    (timed_later (delay (Y ∷ X ∷ [])) absent to_x lit, at_row 0) ∷
    (timed_later (delay (opaque ∷ [])) absent to_y lit, at_row 0) ∷
    (timed_later absent (intra X anything) to_y lit, at_row 0) ∷
    (timed_later absent (intra absent (on (event X absent ∷ []))) to_y lit, at_row 0) ∷
    (timed_later absent (intra absent (on (event Y X ∷ []))) to_y lit, at_row 0) ∷
    []

-- "and iff never refer to it"; an event's own expression may
abbrev iffs : List (Row × FirstFailing)
iffs =
    (awaits (on (event X absent ∷ event X Y ∷ [])) absent, nowhere) ∷
    (awaits anything reads, nowhere) ∷
    (awaits (on (event Y X ∷ [])) absent, at_row 2) ∷
    (awaits (on (event X absent ∷ event Y (plus lit X) ∷ [])) absent, at_row 7) ∷
    (awaits (on (event lit opaque ∷ [])) absent, at_row 2) ∷
    (timed absent (intra absent (on (event lit X ∷ []))) to_y lit, at_row 5) ∷
    []

-- of two rows that fail the first, whichever premise it is
abbrev firsts : List (Row × FirstFailing)
firsts =
    (block (decl x absent ∷ jump ∷ []), at_row 1) ∷
    (block (jump ∷ assign_later (bit_of to_x lit) lit ∷ []), at_row 1) ∷
    (block (assign_later to_x lit ∷ disable_block ∷ jump ∷ []), at_row 8) ∷
    (block (awaits (on (event lit X ∷ [])) (assign_later (bit_of to_x lit) lit) ∷ []), at_row 3) ∷
    []

abbrev pub sheets : List (Row × FirstFailing)
sheets = disables ++ declarations ++ later ++ iffs ++ firsts

-- The joint fact of the premises: they fail first where they must, and nowhere on the sheets that meet them.
pub joint_premises : map (λ p. first_failing x marks (p.0 nil)) sheets ≡ map (λ p. p.1) sheets
unfolding fold expr_class numbered kind_number kind_of place_from kinds same is_named begins count segments is_local is_marked is_loop_jump in_row_order seen_below seen_at seen some refers rest child_place placed_below placed_at placed_together placed_rows refers_at plain_at row_holds first_false first_failing
joint_premises = refl

-- the local's name may have the number 0, which is the side of most rows: a select of it is not the plain local
pub joint_zero : first_failing 0 marks (assign_later (lident (0 ∷ [])) lit nil) ∷ first_failing 0 marks (assign_later (bit_of (lident (0 ∷ [])) lit) lit nil) ∷ [] ≡ nowhere ∷ at_row 0 ∷ []
unfolding fold expr_class numbered kind_number kind_of place_from kinds same is_named begins count segments is_local is_marked is_loop_jump in_row_order seen_below seen_at seen some refers rest child_place placed_below placed_at placed_together placed_rows refers_at plain_at row_holds first_false first_failing
joint_zero = refl

-- So the premises, in their own words, hold on the sheets that meet them, and fail at the row that is given of the others

abbrev pub Told : Row → FirstFailing → Type 0
Told what nowhere = Premises x marks (what nil)
Told what (at_row n) = RowPremises x marks (nth_row (what nil) n) → ⊥

told : (what : Row) (answer : FirstFailing) → first_failing x marks (what nil) ≡ answer → Told what answer
told what nowhere e = all_hold x marks (what nil) e
told what (at_row n) e = fails_at x marks (what nil) n e

sheets_told : (ps : List (Row × FirstFailing)) → map (λ p. first_failing x marks (p.0 nil)) ps ≡ map (λ p. p.1) ps → Each (λ p. Told p.0 p.1) ps
sheets_told [] e = tt
sheets_told (p ∷ ps) e = (told p.0 p.1 (ap (nth nowhere 0) e), sheets_told ps (ap tail e))

pub must_hold : Each (λ p. Told p.0 p.1) sheets
must_hold = sheets_told sheets joint_premises
