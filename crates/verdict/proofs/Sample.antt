-- Sheets evaluated from their bytes through loading and asking, by the definitions: document 01's listing, `y = x;`, with what the answer
-- program prints of it; and an accepted sheet with a loop jump, which meets the premises of demand 3.
use Prim.Native.Nat.{ℕ}
use mathlib.Core.Path.{◌≡◌, refl, sym, subst}
use mathlib.Core.Bool.{true, false}
use mathlib.Core.List.{List, [], ◌∷◌, ◌++◌}
use Rattle.table.specs.Rows.{tree, tree_by, rest}
use Rattle.table.specs.Fold.{fold}
use Rattle.kinds.specs.Kinds.{bytes, kinds, entry, is_kind, in_class, of_class, class_number, side_fits, takes, once, many, fits}
use Rattle.kinds.specs.Words.{same, place_from, kind_of}
use Rattle.kinds.specs.Named.{kind_number, numbered, expr_class, stmt_words, stmt_class_in, stmt_class, task_effect}
use Rattle.checks.specs.Checks.{checked_rows, holds, when_held, first_from, fields_at, ends_before, above, enclosing, end_fits, depth_at, ends_at, kind_alone, children_at, root_at}
use Rattle.text.specs.Fields.{is_stop, field_length, field_of, stop_at, stands, ends_by, after, starts_with, below, is_graphic, all_graphic}
use Rattle.text.specs.Numbers.{is_digit, all_digits, is_empty, zero_first, decimal, bounded, number_of}
use Rattle.lines.specs.Lines.{keyed, number_line, jump_mark, name_of, name_line, five_fields, row_of, row_from, row_fields, row_line, row_at}
use Rattle.sheet.specs.Sections.{lines_from, number_step, name_step, row_step}
use Rattle.sheet_record.specs.Records.{record_fits, record_held, marks_fit}
use Rattle.sheet.specs.Load.{before_rows, lines_of, refuse, table_of, has_room, checked_answer, finish_of, load_of}
use Rattle.load.proofs.Sample.{line, listing}
use Rattle.reads.specs.PathRows.{is_named, begins, count, segments, is_local, is_marked, is_loop_jump}
use Rattle.reads.specs.Mentions.{in_row_order, passed_over, seen_below, seen_at, seen, some, refers}
use Rattle.reads.specs.NoRef.{stmt_no_ref}
use Rattle.reads.specs.Iffs.{every}
use Rattle.effect_rules.specs.Rules.{unary_form, binary_form, call_form}
use Rattle.expr_effect.specs.Effect.{expr_effect_at}
use Rattle.expr_effect.specs.Law.{facts_at}
use Rattle.paths.specs.Commands.{PathEvent}
use Rattle.paths.specs.Written.{ReadsWritten}
use Rattle.paths.specs.Semantics.{Order, under}
use Rattle.stmt_paths.specs.Execution.{IsPath}
use Rattle.stmt_paths.proofs.PremiseTest.{all_hold}
use Rattle.stmt_paths.specs.Premises.{child_place, placed_below, placed_at, placed_together, placed_rows, refers_at, plain_at, row_holds, nowhere, first_false, first_failing}
use Rattle.loops.specs.Escape.{cannot_escape_at}
use Rattle.loops.specs.Time.{waiting_words, is_one_of, lets_time_pass, advances_at}
use Rattle.da.specs.Walk.{held_facts_at, walk_at}
use Rattle.writing.specs.Spelling.{spelled_by, spelled, field_text}
use Rattle.answers.specs.declared.Answer.TheVariants.{Falls, GivesUp}
use Rattle.answers.specs.Answers.{AcceptedAnswer, answer_text}
use Rattle.ask.specs.Ask.{ask_of}
use Rattle.verdict.specs.Sheets.{sheet_of}
use Rattle.verdict.specs.Verdict.{verdict_of}
use Rattle.verdict.proofs.Demand3.{sheet_demand_3}

-- `forever begin x = 1; disable $break$0; end`
abbrev jumping : List ℕ
jumping =
    line "sheet=1" ++ line "names=2" ++ line "name=$break$0" ++ line "name=x" ++ line "local=1" ++ line "start=0" ++ line "sole=1" ++ line "rows=12"
    ++ line "row=forever 0 0 42 12" ++ line "row=block 0 8 42 12" ++ line "row=blocking 0 14 20 9" ++ line "row=none 0 0 0 4" ++ line "row=none 0 0 0 5"
    ++ line "row=lident 0 14 15 8" ++ line "row=path 0 14 15 8" ++ line "row=seg 1 14 15 8" ++ line "row=lit 0 18 19 9"
    ++ line "row=disable 0 21 38 12" ++ line "row=path 0 29 37 12" ++ line "row=seg 0 29 37 12"

pub record Sampled : Type 0 where
  pub listed : verdict_of listing 46 7 ≡ GivesUp (record { reason = 2; lo = 4; hi = 5 })
  pub printed : answer_text 59 (verdict_of listing 46 7) ≡ bytes "answer=giveup;state=0;reason=2;lo=4;hi=5" ++ (10 ∷ [])
  pub accepted : verdict_of jumping 60 6 ≡ Falls false
  pub start : (sheet_of jumping).start ≡ 0
  pub jump : (sheet_of jumping).marks 0 ≡ true
  pub no_jump : (sheet_of jumping).marks 1 ≡ false
  pub premises : first_failing (sheet_of jumping).local (sheet_of jumping).marks (sheet_of jumping).tree ≡ nowhere

pub sampled : Sampled
unfolding verdict_of ask_of checked_rows record_held record_fits marks_fit fields_at answer_text field_text spelled spelled_by sheet_of held_facts_at walk_at facts_at expr_effect_at unary_form binary_form call_form cannot_escape_at waiting_words is_one_of lets_time_pass advances_at stmt_class stmt_class_in stmt_words expr_class task_effect numbered kind_number is_named begins count segments is_local is_marked is_loop_jump in_row_order passed_over seen_below seen_at seen some refers stmt_no_ref every rest child_place placed_below placed_at placed_together placed_rows refers_at plain_at row_holds first_false first_failing refuse load_of lines_of before_rows number_step number_line keyed starts_with ends_by stands stop_at field_length is_stop after field_of number_of is_empty zero_first all_digits is_digit decimal bounded lines_from name_step name_line name_of jump_mark all_graphic is_graphic below row_step row_at row_line row_fields row_from five_fields row_of kind_of place_from same kinds entry side_fits is_kind in_class of_class class_number takes once many fits has_room checked_answer finish_of table_of holds when_held first_from ends_before above enclosing end_fits depth_at ends_at kind_alone children_at root_at tree tree_by fold
sampled = record { listed = refl; printed = refl; accepted = refl; start = refl; jump = refl; no_jump = refl; premises = refl }

-- so the demand speaks of it, and of all its paths
pub jumping_safe : (o : Order) (t : List PathEvent) → IsPath (under o) (sheet_of jumping).local (sheet_of jumping).marks (sheet_of jumping).tree t → ReadsWritten t
jumping_safe = sheet_demand_3 jumping 60 6 (subst AcceptedAnswer (sym sampled.accepted) tt) sampled.start (all_hold (sheet_of jumping).local (sheet_of jumping).marks (sheet_of jumping).tree sampled.premises)
