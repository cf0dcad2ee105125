-- Which paths must exist in free order: each form whose order is left open, and those that stay in sequence, have small rows here with the
-- complete list of their runs, up to a number of rounds, in whatever order, each run once. Quoted is docs/DECISIONS.md, 115.
-- `oracle/runs` lists them a second time.
use mathlib.Core.Path.{◌≡◌, refl}
use mathlib.Core.Bool.{Bool, true, false}
use mathlib.Core.List.{List, [], ◌∷◌, ◌++◌, map}
use Rattle.table.specs.Rows.{nil}
use Rattle.table.specs.Fold.{fold}
use Rattle.kinds.specs.Kinds.{kinds}
use Rattle.kinds.specs.Words.{same, place_from, kind_of}
use Rattle.kinds.specs.Named.{kind_number, numbered, expr_class, stmt_words, stmt_class_in, stmt_class, task_effect}
use Rattle.reads.specs.PathRows.{is_named, begins, count, segments, is_local, is_marked, is_loop_jump}
use Rattle.reads.specs.Mentions.{in_row_order, seen_below, seen_at, seen, some, refers}
use Rattle.reads.specs.Iffs.{every}
use Rattle.paths.specs.Each.{Each}
use Rattle.paths.specs.Commands.{PathEvent, read, write, outside, choice, Ending, falls, stops, Command, Runs}
use Rattle.paths.specs.Semantics.{free_order, under}
use Rattle.paths.specs.AnyOrder.{any_order}
use Rattle.paths.specs.Evaluation.{evaluation_at}
use Rattle.paths.proofs.Listed.{Run, IsRun, followed, each_followed, rounds, listed, listed_run, each_imply, loopless, Settled, Among, all_listed, same_events, same_run, is_among, all_among, same_runs, same_each, same_among, each_same}
use Rattle.paths.proofs.Strength.{Row, row, x, y, w, X, Y, W, lit, absent, not!, plus, event}
use Rattle.stmt_paths.specs.Execution.{held_evaluations_at, execution_at, executed, IsPath}
use Rattle.stmt_paths.specs.Premises.{refers_at, plain_at, nonblocking_here, nonblocking_quiet_at, nonblocking_quiet}
use Rattle.stmt_paths.proofs.Strength.{j, b, marks, timed, assign, timed_later, assign_later, delay, on, intra, to_x, to_y, bit_of, writes, reads, block, decl, if_else, returns, case_of, arm, default, for, while, repeat, forever, disable, task, delayed, awaits, wait, null, Case, fall, straight, rounds_to}

-- a system task with one argument, whose order is fixed where an assignment has 24
abbrev does : Row → Row
does e = row "systask" 0 (e ∷ [])

-- "right side, delay, event and target selects of a blocking assignment in any order, all before its write": where one of the four reads and
-- the others write
abbrev orders : List Case
orders =
    straight (timed (delay (W ∷ [])) (intra absent (on (event W absent ∷ []))) (bit_of to_y W) X)
    ((read ∷ write ∷ write ∷ write ∷ []) ∷
    (write ∷ read ∷ write ∷ write ∷ []) ∷
    (write ∷ write ∷ read ∷ write ∷ []) ∷
    (write ∷ write ∷ write ∷ read ∷ []) ∷
    []) ∷
    straight (timed (delay (X ∷ [])) (intra absent (on (event W absent ∷ []))) (bit_of to_y W) W)
    ((read ∷ write ∷ write ∷ write ∷ []) ∷
    (write ∷ read ∷ write ∷ write ∷ []) ∷
    (write ∷ write ∷ read ∷ write ∷ []) ∷
    (write ∷ write ∷ write ∷ read ∷ []) ∷
    []) ∷
    straight (timed (delay (W ∷ [])) (intra absent (on (event X absent ∷ []))) (bit_of to_y W) W)
    ((read ∷ write ∷ write ∷ write ∷ []) ∷
    (write ∷ read ∷ write ∷ write ∷ []) ∷
    (write ∷ write ∷ read ∷ write ∷ []) ∷
    (write ∷ write ∷ write ∷ read ∷ []) ∷
    []) ∷
    straight (timed (delay (W ∷ [])) (intra absent (on (event W absent ∷ []))) (bit_of to_y X) W)
    ((read ∷ write ∷ write ∷ write ∷ []) ∷
    (write ∷ read ∷ write ∷ write ∷ []) ∷
    (write ∷ write ∷ read ∷ write ∷ []) ∷
    (write ∷ write ∷ write ∷ read ∷ []) ∷
    []) ∷
    []

-- where two of them read, once and twice, and two write, once and twice: an order in which reads and writes take turns tells itself, and
-- each of the 24 orders does in one of the three
abbrev all_orders : List Case
all_orders =
    straight (timed (delay (plus X X ∷ [])) (intra absent (on (event W absent ∷ []))) (bit_of to_y (plus W W)) X)
    ((read ∷ read ∷ read ∷ write ∷ write ∷ write ∷ []) ∷
    (read ∷ read ∷ write ∷ read ∷ write ∷ write ∷ []) ∷
    (read ∷ read ∷ write ∷ write ∷ read ∷ write ∷ []) ∷
    (read ∷ read ∷ write ∷ write ∷ write ∷ read ∷ []) ∷
    (read ∷ write ∷ read ∷ read ∷ write ∷ write ∷ []) ∷
    (read ∷ write ∷ write ∷ read ∷ read ∷ write ∷ []) ∷
    (read ∷ write ∷ write ∷ write ∷ read ∷ read ∷ []) ∷
    (write ∷ read ∷ read ∷ read ∷ write ∷ write ∷ []) ∷
    (write ∷ read ∷ read ∷ write ∷ write ∷ read ∷ []) ∷
    (write ∷ read ∷ write ∷ write ∷ read ∷ read ∷ []) ∷
    (write ∷ write ∷ read ∷ read ∷ read ∷ write ∷ []) ∷
    (write ∷ write ∷ read ∷ read ∷ write ∷ read ∷ []) ∷
    (write ∷ write ∷ read ∷ write ∷ read ∷ read ∷ []) ∷
    (write ∷ write ∷ write ∷ read ∷ read ∷ read ∷ []) ∷
    []) ∷
    straight (timed (delay (W ∷ [])) (intra absent (on (event (plus X X) absent ∷ []))) (bit_of to_y (plus W W)) X)
    ((read ∷ read ∷ read ∷ write ∷ write ∷ write ∷ []) ∷
    (read ∷ read ∷ write ∷ read ∷ write ∷ write ∷ []) ∷
    (read ∷ read ∷ write ∷ write ∷ read ∷ write ∷ []) ∷
    (read ∷ read ∷ write ∷ write ∷ write ∷ read ∷ []) ∷
    (read ∷ write ∷ read ∷ read ∷ write ∷ write ∷ []) ∷
    (read ∷ write ∷ write ∷ read ∷ read ∷ write ∷ []) ∷
    (read ∷ write ∷ write ∷ write ∷ read ∷ read ∷ []) ∷
    (write ∷ read ∷ read ∷ read ∷ write ∷ write ∷ []) ∷
    (write ∷ read ∷ read ∷ write ∷ write ∷ read ∷ []) ∷
    (write ∷ read ∷ write ∷ write ∷ read ∷ read ∷ []) ∷
    (write ∷ write ∷ read ∷ read ∷ read ∷ write ∷ []) ∷
    (write ∷ write ∷ read ∷ read ∷ write ∷ read ∷ []) ∷
    (write ∷ write ∷ read ∷ write ∷ read ∷ read ∷ []) ∷
    (write ∷ write ∷ write ∷ read ∷ read ∷ read ∷ []) ∷
    []) ∷
    straight (timed (delay (W ∷ [])) (intra absent (on (event (plus W W) absent ∷ []))) (bit_of to_y (plus X X)) X)
    ((read ∷ read ∷ read ∷ write ∷ write ∷ write ∷ []) ∷
    (read ∷ read ∷ write ∷ read ∷ write ∷ write ∷ []) ∷
    (read ∷ read ∷ write ∷ write ∷ read ∷ write ∷ []) ∷
    (read ∷ read ∷ write ∷ write ∷ write ∷ read ∷ []) ∷
    (read ∷ write ∷ read ∷ read ∷ write ∷ write ∷ []) ∷
    (read ∷ write ∷ write ∷ read ∷ read ∷ write ∷ []) ∷
    (read ∷ write ∷ write ∷ write ∷ read ∷ read ∷ []) ∷
    (write ∷ read ∷ read ∷ read ∷ write ∷ write ∷ []) ∷
    (write ∷ read ∷ read ∷ write ∷ write ∷ read ∷ []) ∷
    (write ∷ read ∷ write ∷ write ∷ read ∷ read ∷ []) ∷
    (write ∷ write ∷ read ∷ read ∷ read ∷ write ∷ []) ∷
    (write ∷ write ∷ read ∷ read ∷ write ∷ read ∷ []) ∷
    (write ∷ write ∷ read ∷ write ∷ read ∷ read ∷ []) ∷
    (write ∷ write ∷ write ∷ read ∷ read ∷ read ∷ []) ∷
    []) ∷
    []

-- where a choice tells: the right side is one whole child, and the write is last
abbrev assignments : List Case
assignments =
    straight (assign (bit_of to_y X) W) ((read ∷ write ∷ []) ∷ (write ∷ read ∷ []) ∷ []) ∷
    straight (timed absent (intra absent (on (event X absent ∷ []))) (bit_of to_y W) lit) ((read ∷ write ∷ []) ∷ (write ∷ read ∷ []) ∷ []) ∷
    straight (timed (delay (X ∷ [])) (intra absent (on (event W absent ∷ []))) to_x lit) ((read ∷ write ∷ write ∷ []) ∷ (write ∷ read ∷ write ∷ []) ∷ []) ∷
    straight (timed (delay (X ∷ W ∷ [])) absent to_y lit) ((read ∷ write ∷ []) ∷ (write ∷ read ∷ []) ∷ []) ∷
    straight (timed (delay (X ∷ X ∷ [])) absent to_y W) ((read ∷ read ∷ write ∷ []) ∷ (write ∷ read ∷ read ∷ []) ∷ []) ∷
    straight (timed (delay (plus W X ∷ [])) absent to_y lit) ((read ∷ write ∷ []) ∷ (write ∷ read ∷ []) ∷ []) ∷
    straight (timed (delay (X ∷ [])) absent (bit_of to_y (not! Y)) W)
    ((read ∷ write ∷ choice 0 ∷ []) ∷
    (read ∷ write ∷ choice 1 ∷ []) ∷
    (read ∷ write ∷ choice 2 ∷ []) ∷
    (read ∷ choice 0 ∷ write ∷ []) ∷
    (read ∷ choice 1 ∷ write ∷ []) ∷
    (read ∷ choice 2 ∷ write ∷ []) ∷
    (write ∷ read ∷ choice 0 ∷ []) ∷
    (write ∷ read ∷ choice 1 ∷ []) ∷
    (write ∷ read ∷ choice 2 ∷ []) ∷
    (write ∷ choice 0 ∷ read ∷ []) ∷
    (write ∷ choice 1 ∷ read ∷ []) ∷
    (write ∷ choice 2 ∷ read ∷ []) ∷
    (choice 0 ∷ read ∷ write ∷ []) ∷
    (choice 0 ∷ write ∷ read ∷ []) ∷
    (choice 1 ∷ read ∷ write ∷ []) ∷
    (choice 1 ∷ write ∷ read ∷ []) ∷
    (choice 2 ∷ read ∷ write ∷ []) ∷
    (choice 2 ∷ write ∷ read ∷ []) ∷
    []) ∷
    straight (timed absent (intra absent (on (event (not! Y) absent ∷ []))) to_x (plus X W))
    ((read ∷ write ∷ choice 0 ∷ write ∷ []) ∷
    (read ∷ write ∷ choice 1 ∷ write ∷ []) ∷
    (read ∷ write ∷ choice 2 ∷ write ∷ []) ∷
    (write ∷ read ∷ choice 0 ∷ write ∷ []) ∷
    (write ∷ read ∷ choice 1 ∷ write ∷ []) ∷
    (write ∷ read ∷ choice 2 ∷ write ∷ []) ∷
    (choice 0 ∷ read ∷ write ∷ write ∷ []) ∷
    (choice 0 ∷ write ∷ read ∷ write ∷ []) ∷
    (choice 1 ∷ read ∷ write ∷ write ∷ []) ∷
    (choice 1 ∷ write ∷ read ∷ write ∷ []) ∷
    (choice 2 ∷ read ∷ write ∷ write ∷ []) ∷
    (choice 2 ∷ write ∷ read ∷ write ∷ []) ∷
    []) ∷
    straight (timed (delay (X ∷ [])) absent to_x W) ((read ∷ write ∷ write ∷ []) ∷ (write ∷ read ∷ write ∷ []) ∷ []) ∷
    straight (timed absent (intra X (on (event W absent ∷ []))) to_x lit) ((read ∷ write ∷ write ∷ []) ∷ (write ∷ read ∷ write ∷ []) ∷ []) ∷
    straight (assign to_x (plus W X)) ((read ∷ write ∷ write ∷ []) ∷ (write ∷ read ∷ write ∷ []) ∷ []) ∷
    straight (assign to_x X) ((read ∷ write ∷ []) ∷ []) ∷
    straight (assign (bit_of to_x (plus W X)) lit) ((read ∷ write ∷ []) ∷ (write ∷ read ∷ []) ∷ []) ∷
    straight (assign to_y (plus W X)) ((read ∷ write ∷ []) ∷ (write ∷ read ∷ []) ∷ []) ∷
    straight (assign (row "lconcat" 0 (bit_of to_y W ∷ bit_of to_y X ∷ [])) lit) ((read ∷ write ∷ []) ∷ (write ∷ read ∷ []) ∷ []) ∷
    []

-- "of a nonblocking its right side, and its delay, event and selects each as one whole child that is evaluated or not, in any order"; it never
-- writes
abbrev nonblockings : List Case
nonblockings =
    straight (timed_later (delay (X ∷ [])) (intra absent (on (event W absent ∷ []))) to_y lit)
    ([] ∷ (read ∷ []) ∷ (read ∷ write ∷ []) ∷ (write ∷ []) ∷ (write ∷ read ∷ []) ∷ []) ∷
    straight (timed_later absent (intra absent (on (event X absent ∷ []))) (bit_of to_y W) lit)
    ([] ∷ (read ∷ []) ∷ (read ∷ write ∷ []) ∷ (write ∷ []) ∷ (write ∷ read ∷ []) ∷ []) ∷
    straight (timed_later (delay (X ∷ [])) absent (bit_of to_y W) lit) ([] ∷ (read ∷ []) ∷ (read ∷ write ∷ []) ∷ (write ∷ []) ∷ (write ∷ read ∷ []) ∷ []) ∷
    straight (timed_later (delay (W ∷ [])) (intra absent (on (event X absent ∷ []))) (bit_of to_y X) lit)
    ([] ∷
    (read ∷ []) ∷
    (read ∷ read ∷ []) ∷
    (read ∷ read ∷ write ∷ []) ∷
    (read ∷ write ∷ []) ∷
    (read ∷ write ∷ read ∷ []) ∷
    (write ∷ []) ∷
    (write ∷ read ∷ []) ∷
    (write ∷ read ∷ read ∷ []) ∷
    []) ∷
    straight (timed_later (delay (X ∷ [])) (intra absent (on (event W absent ∷ []))) (bit_of to_y X) lit)
    ([] ∷
    (read ∷ []) ∷
    (read ∷ read ∷ []) ∷
    (read ∷ read ∷ write ∷ []) ∷
    (read ∷ write ∷ []) ∷
    (read ∷ write ∷ read ∷ []) ∷
    (write ∷ []) ∷
    (write ∷ read ∷ []) ∷
    (write ∷ read ∷ read ∷ []) ∷
    []) ∷
    straight (timed_later (delay (X ∷ [])) (intra absent (on (event X absent ∷ []))) (bit_of to_y W) lit)
    ([] ∷
    (read ∷ []) ∷
    (read ∷ read ∷ []) ∷
    (read ∷ read ∷ write ∷ []) ∷
    (read ∷ write ∷ []) ∷
    (read ∷ write ∷ read ∷ []) ∷
    (write ∷ []) ∷
    (write ∷ read ∷ []) ∷
    (write ∷ read ∷ read ∷ []) ∷
    []) ∷
    straight (timed_later absent (intra absent (on (event X absent ∷ []))) to_x lit) ([] ∷ (read ∷ []) ∷ []) ∷
    straight (timed_later (delay (plus W X ∷ [])) absent to_y lit) ([] ∷ (read ∷ write ∷ []) ∷ (write ∷ read ∷ []) ∷ []) ∷
    straight (assign_later (bit_of to_y W) lit) ([] ∷ (write ∷ []) ∷ []) ∷
    straight (assign_later (bit_of to_y X) lit) ([] ∷ (read ∷ []) ∷ []) ∷
    straight (assign_later to_x lit) ([] ∷ []) ∷
    straight (assign_later to_x (plus W X)) ((read ∷ write ∷ []) ∷ (write ∷ read ∷ []) ∷ []) ∷
    straight (timed_later (delay (X ∷ [])) absent to_y W) ((read ∷ write ∷ []) ∷ (write ∷ []) ∷ (write ∷ read ∷ []) ∷ []) ∷
    straight (timed_later absent (intra absent (on (event X absent ∷ []))) to_y W) ((read ∷ write ∷ []) ∷ (write ∷ []) ∷ (write ∷ read ∷ []) ∷ []) ∷
    straight (assign_later (bit_of to_x X) W) ((read ∷ write ∷ []) ∷ (write ∷ []) ∷ (write ∷ read ∷ []) ∷ []) ∷
    straight (timed_later (delay (X ∷ W ∷ [])) absent to_x lit) ([] ∷ (read ∷ write ∷ []) ∷ (write ∷ read ∷ []) ∷ []) ∷
    straight (timed_later absent (intra X (on (event W absent ∷ []))) to_y lit) ([] ∷ (read ∷ write ∷ []) ∷ (write ∷ read ∷ []) ∷ []) ∷
    straight (assign_later (row "lconcat" 0 (bit_of to_y W ∷ bit_of to_y X ∷ [])) lit) ([] ∷ (read ∷ write ∷ []) ∷ (write ∷ read ∷ []) ∷ []) ∷
    straight (timed_later (delay (W ∷ [])) (intra absent (on (event W absent ∷ []))) (bit_of to_y W) X)
    ((read ∷ []) ∷
    (read ∷ write ∷ []) ∷
    (read ∷ write ∷ write ∷ []) ∷
    (read ∷ write ∷ write ∷ write ∷ []) ∷
    (write ∷ read ∷ []) ∷
    (write ∷ read ∷ write ∷ []) ∷
    (write ∷ read ∷ write ∷ write ∷ []) ∷
    (write ∷ write ∷ read ∷ []) ∷
    (write ∷ write ∷ read ∷ write ∷ []) ∷
    (write ∷ write ∷ write ∷ read ∷ []) ∷
    []) ∷
    []

-- "arguments of a system task", in any order; a task evaluates none, and an unmodelled form nothing that it holds
abbrev arguments : List Case
arguments =
    straight (row "systask" 0 (plus W X ∷ [])) ((read ∷ write ∷ []) ∷ (write ∷ read ∷ []) ∷ []) ∷
    straight (row "systask" 0 (W ∷ X ∷ [])) ((read ∷ write ∷ []) ∷ (write ∷ read ∷ []) ∷ []) ∷
    straight (row "systask" 0 (X ∷ W ∷ not! Y ∷ []))
    ((read ∷ write ∷ choice 0 ∷ []) ∷
    (read ∷ write ∷ choice 1 ∷ []) ∷
    (read ∷ write ∷ choice 2 ∷ []) ∷
    (read ∷ choice 0 ∷ write ∷ []) ∷
    (read ∷ choice 1 ∷ write ∷ []) ∷
    (read ∷ choice 2 ∷ write ∷ []) ∷
    (write ∷ read ∷ choice 0 ∷ []) ∷
    (write ∷ read ∷ choice 1 ∷ []) ∷
    (write ∷ read ∷ choice 2 ∷ []) ∷
    (write ∷ choice 0 ∷ read ∷ []) ∷
    (write ∷ choice 1 ∷ read ∷ []) ∷
    (write ∷ choice 2 ∷ read ∷ []) ∷
    (choice 0 ∷ read ∷ write ∷ []) ∷
    (choice 0 ∷ write ∷ read ∷ []) ∷
    (choice 1 ∷ read ∷ write ∷ []) ∷
    (choice 1 ∷ write ∷ read ∷ []) ∷
    (choice 2 ∷ read ∷ write ∷ []) ∷
    (choice 2 ∷ write ∷ read ∷ []) ∷
    []) ∷
    straight (row "systask" 0 (X ∷ W ∷ W ∷ X ∷ []))
    ((read ∷ read ∷ write ∷ write ∷ []) ∷
    (read ∷ write ∷ read ∷ write ∷ []) ∷
    (read ∷ write ∷ write ∷ read ∷ []) ∷
    (write ∷ read ∷ read ∷ write ∷ []) ∷
    (write ∷ read ∷ write ∷ read ∷ []) ∷
    (write ∷ write ∷ read ∷ read ∷ []) ∷
    []) ∷
    straight (task (w ∷ []) (W ∷ X ∷ []) 2) ((read ∷ []) ∷ []) ∷
    straight (row "fork" 0 (reads ∷ writes ∷ [])) ((outside ∷ []) ∷ []) ∷
    []

-- "the labels of the chosen arm up to any one of them, after all labels of the arms before it; all labels for a default or no arm"; "the
-- scrutinee before labels, labels in row order"
abbrev arms : List Case
arms =
    straight (case_of Y (arm (lit ∷ W ∷ []) reads ∷ [])) ((choice 0 ∷ read ∷ []) ∷ (choice 0 ∷ write ∷ read ∷ []) ∷ (choice 1 ∷ write ∷ []) ∷ []) ∷
    straight (case_of Y (arm (X ∷ W ∷ X ∷ []) null ∷ []))
    ((choice 0 ∷ read ∷ []) ∷ (choice 0 ∷ read ∷ write ∷ []) ∷ (choice 0 ∷ read ∷ write ∷ read ∷ []) ∷ (choice 1 ∷ read ∷ write ∷ read ∷ []) ∷ []) ∷
    straight (case_of Y (arm (X ∷ W ∷ []) null ∷ arm (W ∷ X ∷ []) writes ∷ []))
    ((choice 0 ∷ read ∷ []) ∷
    (choice 0 ∷ read ∷ write ∷ []) ∷
    (choice 1 ∷ read ∷ write ∷ write ∷ read ∷ write ∷ []) ∷
    (choice 1 ∷ read ∷ write ∷ write ∷ write ∷ []) ∷
    (choice 2 ∷ read ∷ write ∷ write ∷ read ∷ []) ∷
    []) ∷
    rounds_to 0 (case_of Y (arm (X ∷ W ∷ []) reads ∷ default null ∷ arm (W ∷ X ∷ []) null ∷ []))
    (([], stops) ∷
    (choice 0 ∷ read ∷ read ∷ [], falls) ∷
    (choice 0 ∷ read ∷ write ∷ read ∷ [], falls) ∷
    (choice 1 ∷ read ∷ write ∷ write ∷ read ∷ [], falls) ∷
    (choice 2 ∷ read ∷ write ∷ write ∷ [], falls) ∷
    (choice 2 ∷ read ∷ write ∷ write ∷ read ∷ [], falls) ∷
    []) ∷
    rounds_to 0 (case_of Y (default writes ∷ arm (X ∷ W ∷ []) null ∷ []))
    (([], stops) ∷ (choice 0 ∷ read ∷ write ∷ write ∷ [], falls) ∷ (choice 1 ∷ read ∷ [], falls) ∷ (choice 1 ∷ read ∷ write ∷ [], falls) ∷ []) ∷
    straight (case_of Y (arm [] writes ∷ arm (X ∷ []) null ∷ [])) ((choice 0 ∷ write ∷ []) ∷ (choice 1 ∷ read ∷ []) ∷ (choice 2 ∷ read ∷ []) ∷ []) ∷
    straight (case_of Y (arm (X ∷ []) null ∷ arm [] writes ∷ [])) ((choice 0 ∷ read ∷ []) ∷ (choice 1 ∷ read ∷ write ∷ []) ∷ (choice 2 ∷ read ∷ []) ∷ []) ∷
    straight (case_of X (arm (W ∷ []) reads ∷ [])) ((read ∷ choice 0 ∷ write ∷ read ∷ []) ∷ (read ∷ choice 1 ∷ write ∷ []) ∷ []) ∷
    straight (case_of (plus W X) []) ((read ∷ write ∷ choice 0 ∷ []) ∷ (write ∷ read ∷ choice 0 ∷ []) ∷ []) ∷
    straight (case_of Y (arm (plus W X ∷ X ∷ []) null ∷ []))
    ((choice 0 ∷ read ∷ write ∷ []) ∷
    (choice 0 ∷ read ∷ write ∷ read ∷ []) ∷
    (choice 0 ∷ write ∷ read ∷ []) ∷
    (choice 0 ∷ write ∷ read ∷ read ∷ []) ∷
    (choice 1 ∷ read ∷ write ∷ read ∷ []) ∷
    (choice 1 ∷ write ∷ read ∷ read ∷ []) ∷
    []) ∷
    []

-- "expressions of a delay, an event list", in any order, and then the body
abbrev controls : List Case
controls =
    straight (delayed (delay (X ∷ W ∷ X ∷ [])) null) ((read ∷ read ∷ write ∷ []) ∷ (read ∷ write ∷ read ∷ []) ∷ (write ∷ read ∷ read ∷ []) ∷ []) ∷
    straight (delayed (delay (plus W X ∷ [])) null) ((read ∷ write ∷ []) ∷ (write ∷ read ∷ []) ∷ []) ∷
    straight (delayed (delay (X ∷ W ∷ [])) reads) ((read ∷ write ∷ read ∷ []) ∷ (write ∷ read ∷ read ∷ []) ∷ []) ∷
    straight (awaits (on (event W absent ∷ event X absent ∷ [])) writes) ((read ∷ write ∷ write ∷ []) ∷ (write ∷ read ∷ write ∷ []) ∷ []) ∷
    straight (awaits (on (event X W ∷ [])) reads) ((read ∷ write ∷ read ∷ []) ∷ (write ∷ read ∷ read ∷ []) ∷ []) ∷
    rounds_to 0 (wait (plus W X) reads)
    ((read ∷ write ∷ choice 0 ∷ [], stops) ∷
    (read ∷ write ∷ choice 1 ∷ read ∷ [], falls) ∷
    (read ∷ write ∷ choice 2 ∷ [], stops) ∷
    (write ∷ read ∷ choice 0 ∷ [], stops) ∷
    (write ∷ read ∷ choice 1 ∷ read ∷ [], falls) ∷
    (write ∷ read ∷ choice 2 ∷ [], stops) ∷
    []) ∷
    []

-- "In sequence as before: ... a condition before its arms, ... initialisers, statements, rounds"
abbrev sequenced : List Case
sequenced =
    rounds_to 0 (for 0 null (plus W X) null null)
    (fall ((read ∷ write ∷ choice 0 ∷ []) ∷ (read ∷ write ∷ choice 2 ∷ []) ∷ (write ∷ read ∷ choice 0 ∷ []) ∷ (write ∷ read ∷ choice 2 ∷ []) ∷ [])) ∷
    straight (block (decl x X ∷ [])) ((read ∷ []) ∷ []) ∷
    straight (if_else (plus W X) (does W) (does X))
    ((read ∷ write ∷ choice 0 ∷ read ∷ []) ∷
    (read ∷ write ∷ choice 1 ∷ write ∷ []) ∷
    (read ∷ write ∷ choice 2 ∷ read ∷ []) ∷
    (write ∷ read ∷ choice 0 ∷ read ∷ []) ∷
    (write ∷ read ∷ choice 1 ∷ write ∷ []) ∷
    (write ∷ read ∷ choice 2 ∷ read ∷ []) ∷
    []) ∷
    straight (if_else W (does X) (does (plus W X)))
    ((write ∷ choice 0 ∷ read ∷ write ∷ []) ∷
    (write ∷ choice 0 ∷ write ∷ read ∷ []) ∷
    (write ∷ choice 1 ∷ read ∷ []) ∷
    (write ∷ choice 2 ∷ read ∷ write ∷ []) ∷
    (write ∷ choice 2 ∷ write ∷ read ∷ []) ∷
    []) ∷
    rounds_to 0 (block (returns (plus W X) ∷ does W ∷ [])) ((read ∷ write ∷ [], stops) ∷ (write ∷ read ∷ [], stops) ∷ []) ∷
    straight (block (decl b X ∷ decl y W ∷ does X ∷ does W ∷ [])) ((read ∷ write ∷ read ∷ write ∷ []) ∷ []) ∷
    straight (block (decl b (plus W X) ∷ does X ∷ [])) ((read ∷ write ∷ read ∷ []) ∷ (write ∷ read ∷ read ∷ []) ∷ []) ∷
    straight (block (row "systask" 0 (W ∷ X ∷ []) ∷ does W ∷ does X ∷ [])) ((read ∷ write ∷ write ∷ read ∷ []) ∷ (write ∷ read ∷ write ∷ read ∷ []) ∷ []) ∷
    rounds_to 1 (for 0 (does W) X (does (plus W X)) (does X))
    (fall
    ((write ∷ read ∷ choice 0 ∷ []) ∷
    (write ∷ read ∷ choice 1 ∷ read ∷ read ∷ write ∷ read ∷ choice 0 ∷ []) ∷
    (write ∷ read ∷ choice 1 ∷ read ∷ read ∷ write ∷ read ∷ choice 2 ∷ []) ∷
    (write ∷ read ∷ choice 1 ∷ read ∷ write ∷ read ∷ read ∷ choice 0 ∷ []) ∷
    (write ∷ read ∷ choice 1 ∷ read ∷ write ∷ read ∷ read ∷ choice 2 ∷ []) ∷
    (write ∷ read ∷ choice 2 ∷ []) ∷
    [])) ∷
    rounds_to 1 (for 1 (does X) Y (does X) (does W))
    (fall
    ((read ∷ choice 1 ∷ write ∷ read ∷ choice 0 ∷ []) ∷
    (read ∷ choice 1 ∷ write ∷ read ∷ choice 1 ∷ write ∷ read ∷ choice 0 ∷ []) ∷
    (read ∷ choice 1 ∷ write ∷ read ∷ choice 1 ∷ write ∷ read ∷ choice 2 ∷ []) ∷
    (read ∷ choice 1 ∷ write ∷ read ∷ choice 2 ∷ []) ∷
    [])) ∷
    rounds_to 1 (while 0 (plus W X) (does X))
    (fall
    ((read ∷ write ∷ choice 0 ∷ []) ∷
    (read ∷ write ∷ choice 1 ∷ read ∷ read ∷ write ∷ choice 0 ∷ []) ∷
    (read ∷ write ∷ choice 1 ∷ read ∷ read ∷ write ∷ choice 2 ∷ []) ∷
    (read ∷ write ∷ choice 1 ∷ read ∷ write ∷ read ∷ choice 0 ∷ []) ∷
    (read ∷ write ∷ choice 1 ∷ read ∷ write ∷ read ∷ choice 2 ∷ []) ∷
    (read ∷ write ∷ choice 2 ∷ []) ∷
    (write ∷ read ∷ choice 0 ∷ []) ∷
    (write ∷ read ∷ choice 1 ∷ read ∷ read ∷ write ∷ choice 0 ∷ []) ∷
    (write ∷ read ∷ choice 1 ∷ read ∷ read ∷ write ∷ choice 2 ∷ []) ∷
    (write ∷ read ∷ choice 1 ∷ read ∷ write ∷ read ∷ choice 0 ∷ []) ∷
    (write ∷ read ∷ choice 1 ∷ read ∷ write ∷ read ∷ choice 2 ∷ []) ∷
    (write ∷ read ∷ choice 2 ∷ []) ∷
    [])) ∷
    rounds_to 1 (while 1 X (does W))
    (fall
    ((read ∷ choice 1 ∷ write ∷ read ∷ choice 0 ∷ []) ∷
    (read ∷ choice 1 ∷ write ∷ read ∷ choice 1 ∷ write ∷ read ∷ choice 0 ∷ []) ∷
    (read ∷ choice 1 ∷ write ∷ read ∷ choice 1 ∷ write ∷ read ∷ choice 2 ∷ []) ∷
    (read ∷ choice 1 ∷ write ∷ read ∷ choice 2 ∷ []) ∷
    [])) ∷
    rounds_to 1 (repeat 0 (plus W X) (does X))
    (fall
    ((read ∷ write ∷ choice 0 ∷ []) ∷
    (read ∷ write ∷ choice 1 ∷ read ∷ choice 0 ∷ []) ∷
    (write ∷ read ∷ choice 0 ∷ []) ∷
    (write ∷ read ∷ choice 1 ∷ read ∷ choice 0 ∷ []) ∷
    [])) ∷
    rounds_to 1 (forever 0 (row "systask" 0 (W ∷ X ∷ []))) (([], stops) ∷ (choice 1 ∷ read ∷ write ∷ [], stops) ∷ (choice 1 ∷ write ∷ read ∷ [], stops) ∷ []) ∷
    rounds_to 1 (while 0 Y (block (does (plus W X) ∷ disable (j ∷ []) ∷ does W ∷ [])))
    (fall
    ((choice 0 ∷ []) ∷
    (choice 1 ∷ read ∷ write ∷ choice 0 ∷ []) ∷
    (choice 1 ∷ read ∷ write ∷ choice 1 ∷ choice 0 ∷ []) ∷
    (choice 1 ∷ read ∷ write ∷ choice 1 ∷ choice 2 ∷ []) ∷
    (choice 1 ∷ write ∷ read ∷ choice 0 ∷ []) ∷
    (choice 1 ∷ write ∷ read ∷ choice 1 ∷ choice 0 ∷ []) ∷
    (choice 1 ∷ write ∷ read ∷ choice 1 ∷ choice 2 ∷ []) ∷
    (choice 2 ∷ []) ∷
    [])) ∷
    []

abbrev pub cases : List Case
cases = orders ++ all_orders ++ assignments ++ nonblockings ++ arguments ++ arms ++ controls ++ sequenced

abbrev pub command_of : Case → Command
command_of c = executed (under free_order) x marks (c.what nil)

abbrev pub shown : Case → List Run
shown c = listed c.most (command_of c)

-- The joint fact: what the listing gives of each statement has the runs that are expected of it, and no others.
pub joint : map (λ c. same_runs (shown c) c.expected) cases ≡ map (λ c. true) cases
unfolding fold evaluation_at held_evaluations_at execution_at any_order expr_class stmt_class stmt_class_in stmt_words task_effect numbered kind_number kind_of place_from kinds same is_named begins count segments is_local is_marked is_loop_jump in_row_order seen_below seen_at seen some refers listed each_followed followed rounds same_events same_run is_among all_among same_runs
joint = refl

-- So each of them is a path

abbrev pub MustBePaths : Case → Type 0
MustBePaths c = Each (λ r. IsPath (under free_order) x marks (c.what nil) r.0) c.expected

runs_are_paths : (c : Case) (rs : List Run) → Each (IsRun (command_of c)) rs → Each (λ r. IsPath (under free_order) x marks (c.what nil) r.0) rs
runs_are_paths c = each_imply (IsRun (command_of c)) (λ r. IsPath (under free_order) x marks (c.what nil) r.0) (λ r h. record { ending = r.1; runs = h })

pub must_be_paths : Each MustBePaths cases
must_be_paths =
    each_same (λ c. Each (λ r. IsPath (under free_order) x marks (c.what nil) r.0)) shown (λ c. c.expected)
    (λ c e. runs_are_paths c c.expected (same_each (shown c) c.expected e (IsRun (command_of c)) (listed_run c.most (command_of c)))) cases joint

-- and of a statement without loops, no other run ends otherwise than by stopping

abbrev pub OnlyRuns : Case → Type 0
OnlyRuns c = loopless (command_of c) ≡ true → (t : List PathEvent) (o : Ending) → Settled o → Runs (command_of c) t o → Among (t, o) c.expected

pub only_runs : Each OnlyRuns cases
only_runs =
    each_same (λ c rs. loopless (command_of c) ≡ true → (t : List PathEvent) (o : Ending) → Settled o → Runs (command_of c) t o → Among (t, o) rs) shown (λ c. c.expected)
    (λ c e q t o s r. same_among (shown c) c.expected e (t, o) (all_listed c.most q s r)) cases joint

-- The premises on nonblocking rows, which free order asks for: at the row and at those below it, and of no other kind

abbrev premises : List (Row × Bool)
premises =
    (assign_later to_x X, true) ∷
    (assign_later to_y X, true) ∷
    (assign_later (bit_of to_y Y) lit, true) ∷
    (timed_later (delay (Y ∷ [])) (intra Y (on (event Y absent ∷ []))) to_x lit, true) ∷
    (assign (bit_of to_y X) lit, true) ∷
    (block (reads ∷ writes ∷ []), true) ∷
    (assign_later (bit_of to_y X) lit, false) ∷
    (assign_later (bit_of to_x Y) lit, false) ∷
    (assign_later (row "lconcat" 0 (to_x ∷ [])) lit, false) ∷
    (timed_later (delay (Y ∷ X ∷ [])) absent to_x lit, false) ∷
    (timed_later absent (intra X (on [])) to_x lit, false) ∷
    (timed_later absent (intra absent (on (event Y X ∷ []))) to_y lit, false) ∷
    (block (null ∷ assign_later (bit_of to_y X) lit ∷ []), false) ∷
    (while 0 Y (assign_later (bit_of to_y X) lit), false) ∷
    []

pub joint_premises : map (λ p. nonblocking_quiet x (p.0 nil)) premises ≡ map (λ p. p.1) premises
unfolding fold expr_class numbered kind_number kind_of place_from kinds same is_named begins count segments is_local in_row_order seen_below seen_at seen some refers refers_at plain_at every nonblocking_here nonblocking_quiet_at nonblocking_quiet
joint_premises = refl
