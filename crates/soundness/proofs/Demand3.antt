-- Demand 3 over trees, and what the accepted answers say of a path that goes on: the law of row 0, read off by what a triple says of a
-- run. The induction over the tree is that of Rows.
use mathlib.Core.Path.{◌≡◌, subst}
use mathlib.Core.Bool.{Bool, true}
use mathlib.Core.List.{List}
use Prim.Native.Nat.{ℕ}
use Rattle.table.specs.Rows.{Forest}
use Rattle.table.proofs.Fold.{related_at}
use Rattle.reads.specs.Iffs.{iff_quiet}
use Rattle.paths.specs.Marks.{Mark, blank, ⊑_refl}
use Rattle.paths.specs.Commands.{PathEvent, Ending, falls, Command, Runs}
use Rattle.paths.specs.Semantics.{Order, row_order, free_order, not_asked, is_met, under}
use Rattle.paths.specs.Written.{Written, ReadsWritten}
use Rattle.paths.proofs.Rules.{good_never}
use Rattle.paths.proofs.Meaning.{reads_written, fall_is_written}
use Rattle.stmt_paths.specs.Execution.{no_execution, executed, IsPath}
use Rattle.stmt_paths.specs.Premises.{nowhere, first_failing, Premises}
use Rattle.stmt_paths.proofs.PremiseTest.{all_hold, premises_iff, premises_nonblocking}
use Rattle.stmt_paths.proofs.WithinFree.{row_among_free}
use Rattle.da.specs.declared.DaOut.TheVariants.{Falls, Jumps}
use Rattle.std.specs.Prelude.{Ok}
use Rattle.da.specs.Outcome.{DaResult, State, unwritten, written, Accepted}
use Rattle.da.specs.Walk.{DaCtx, da_ctx, no_walk, da_stmt}
use Rattle.soundness.specs.Demand3.{OrderPremise, FallsWritten, NeverFalls, Demand3, Demand3FromIff, WalkMeans}
use Rattle.soundness.proofs.Known.{known, known_unwritten, known_written}
use Rattle.soundness.proofs.Sound.{Sound, sound_falls, sound_jumps, sound_stop}
use Rattle.soundness.proofs.Law.{no_law}
use Rattle.soundness.proofs.Rows.{stmt_laws}

-- the answer for row 0 is sound
first_sound : (o : Order) (ctx : DaCtx) (f : Forest) (start : State) → iff_quiet ctx.local f ≡ true → OrderPremise o ctx.local f
    → Sound (known start) (executed (under o) ctx.local ctx.marks f) (da_stmt ctx f start)
first_sound o ctx f start q h = (related_at no_walk no_execution 0 no_law (stmt_laws (under o) ctx f q h)).sound start

accepted_reads : {c : Command} {r : DaResult} {t : List PathEvent} {o : Ending} → Sound blank c r → Accepted r → Runs c t o → ReadsWritten t
accepted_reads (sound_falls h) a x = reads_written h x
accepted_reads (sound_jumps h) a x = reads_written h x
accepted_reads sound_stop a x = absurd a

pub demand_3_from_iff : Demand3FromIff
demand_3_from_iff x marks sole f a q o h t p = accepted_reads (rw known_unwritten at (first_sound o (da_ctx x marks sole) f unwritten q h)) a p.runs

order_premise : (o : Order) (x : ℕ) (marks : ℕ → Bool) (f : Forest) → Premises x marks f → OrderPremise o x f
order_premise row_order x marks f h = not_asked
order_premise free_order x marks f h = is_met (premises_nonblocking x marks f h)

-- the demand in its own words, whatever order a tool takes
pub demand_3 : Demand3
demand_3 x marks sole f a h o t p = demand_3_from_iff x marks sole f a (premises_iff x marks f h) o (order_premise o x marks f h) t p

-- in document 01's order, whose paths are among those of free order
pub demand_3_in_row_order : (x : ℕ) (marks : ℕ → Bool) (sole : Bool) (f : Forest) → Accepted (da_stmt (da_ctx x marks sole) f unwritten) → Premises x marks f → (t : List PathEvent) → IsPath (under row_order) x marks f t → ReadsWritten t
demand_3_in_row_order x marks sole f a h t p = demand_3 x marks sole f a h free_order t (row_among_free x marks f t p)

-- and where the computed test finds no row at which a premise fails
pub demand_3_tested : (x : ℕ) (marks : ℕ → Bool) (sole : Bool) (f : Forest) → Accepted (da_stmt (da_ctx x marks sole) f unwritten) → first_failing x marks f ≡ nowhere → (o : Order) (t : List PathEvent) → IsPath (under o) x marks f t → ReadsWritten t
demand_3_tested x marks sole f a e o t p = demand_3 x marks sole f a (all_hold x marks f e) o t p

written_falls : {c : Command} {t : List PathEvent} → Sound blank c (Ok (Falls written)) → Runs c t falls → Written t
written_falls {t = t} (sound_falls h) x = fall_is_written t (rw known_written at h) x

jumps_never : {a : Mark} {c : Command} {t : List PathEvent} → Sound a c (Ok Jumps) → Runs c t falls → ⊥
jumps_never {a} {t = t} (sound_jumps h) x = good_never t a (h.go a ⊑_refl t falls x)

-- what an answer of the walk means
module _ (x : ℕ) (marks : ℕ → Bool) (sole : Bool) (f : Forest) (start : State) where
  falls_written_lem : da_stmt (da_ctx x marks sole) f start ≡ Ok (Falls written) → start ≡ unwritten → FallsWritten x marks f
  falls_written_lem e z q o h t x' = written_falls (rw (z, known_unwritten) at (subst (Sound (known start) (executed (under o) x marks f)) e (first_sound o (da_ctx x marks sole) f start q h))) x'

  never_falls : da_stmt (da_ctx x marks sole) f start ≡ Ok Jumps → NeverFalls x marks f
  never_falls e q o h t x' = jumps_never (subst (Sound (known start) (executed (under o) x marks f)) e (first_sound o (da_ctx x marks sole) f start q h)) x'

  pub walk_means : WalkMeans x marks f start (da_stmt (da_ctx x marks sole) f start)
  walk_means = record { safe = λ a z. demand_3 x marks sole f (rw z at a); written = falls_written_lem; away = never_falls }
