-- In free order what is promised needs the premises on nonblocking rows: `y[x] <= 1;` is accepted and no iff of it refers, and a tool that
-- evaluates its select at the statement reads.
use mathlib.Core.Path.{◌≡◌, refl}
use mathlib.Core.Bool.{true, false}
use mathlib.Core.List.{[], ◌∷◌}
use Rattle.table.specs.Rows.{Forest, nil, rest}
use Rattle.table.specs.Fold.{fold}
use Rattle.kinds.specs.Kinds.{kinds}
use Rattle.kinds.specs.Words.{same, place_from, kind_of}
use Rattle.kinds.specs.Named.{kind_number, numbered, expr_class, stmt_words, stmt_class_in, stmt_class, task_effect}
use Rattle.reads.specs.PathRows.{is_named, begins, count, segments, is_local, is_marked, is_loop_jump}
use Rattle.reads.specs.Mentions.{in_row_order, passed_over, seen_below, seen_at, seen, some, refers}
use Rattle.reads.specs.NoRef.{stmt_no_ref}
use Rattle.reads.specs.Iffs.{iff_here, every, iff_at, iff_quiet}
use Rattle.paths.specs.Commands.{read, stops, run_skip, run_emit_stop, run_seq, run_off, run_left, run_right}
use Rattle.paths.specs.Semantics.{free_order, under}
use Rattle.paths.specs.AnyOrder.{any_order}
use Rattle.paths.specs.Evaluation.{evaluation_at}
use Rattle.paths.specs.Written.{ReadsWritten}
use Rattle.paths.proofs.Strength.{x, X, lit}
use Rattle.stmt_paths.specs.Execution.{held_evaluations_at, execution_at, IsPath}
use Rattle.stmt_paths.specs.Premises.{refers_at, plain_at, nonblocking_here, nonblocking_quiet_at, nonblocking_quiet}
use Rattle.stmt_paths.proofs.Strength.{marks, assign_later, bit_of, to_y}
use Rattle.effect_rules.specs.Rules.{unary_form, binary_form, call_form}
use Rattle.expr_effect.specs.Effect.{expr_effect_at}
use Rattle.expr_effect.specs.Law.{facts_at}
use Rattle.loops.specs.Escape.{cannot_escape_at}
use Rattle.loops.specs.Time.{waiting_words, is_one_of, lets_time_pass, advances_at}
use Rattle.da.specs.declared.DaOut.TheVariants.{Falls}
use Rattle.std.specs.Prelude.{Ok}
use Rattle.da.specs.Outcome.{unwritten}
use Rattle.da.specs.Walk.{da_ctx, held_facts_at, walk_at, da_stmt}

-- `y[x] <= 1;`
abbrev later : Forest
later = assign_later (bit_of to_y X) lit nil

pub record Needed : Type 0 where
  accepted : da_stmt (da_ctx x marks true) later unwritten ≡ Ok (Falls unwritten)
  iffs : iff_quiet x later ≡ true
  path : IsPath (under free_order) x marks later (read ∷ [])
  wrong : ReadsWritten (read ∷ []) → ⊥
  -- the premises leave it out
  left_out : nonblocking_quiet x later ≡ false

pub needed : Needed
unfolding fold held_facts_at walk_at facts_at expr_effect_at unary_form binary_form call_form cannot_escape_at waiting_words is_one_of lets_time_pass advances_at stmt_class stmt_class_in stmt_words expr_class task_effect numbered kind_number kind_of place_from kinds same is_named begins count segments is_local is_marked is_loop_jump in_row_order passed_over seen_below seen_at seen some refers stmt_no_ref every rest iff_here iff_at iff_quiet evaluation_at held_evaluations_at execution_at any_order refers_at plain_at nonblocking_here nonblocking_quiet_at nonblocking_quiet
needed = record {
  accepted = refl;
  iffs = refl;
  path = record {
    ending = stops;
    runs = run_right (run_right (run_right (run_off tt (run_left (run_left (run_seq run_skip (run_off tt run_emit_stop)))))));
  };
  wrong = λ h. h.before [] [] read refl tt;
  left_out = refl;
}
