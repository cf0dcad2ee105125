-- A loop keeps what its answer claims: that what is known before the first round is known after the last, and where a round always runs,
-- nothing leaves the body and the body writes, that all is written. However many rounds there are, the rule of rounds asks what one
-- keeps.
use mathlib.Core.Path.{◌≡◌, refl}
use mathlib.Core.Bool.{Bool, true, false, cond, ◌&&◌}
use Prim.Native.Nat.{ℕ}
use lib.Dec.{eqb}
use Rattle.kinds.proofs.Below.{both_true}
use Rattle.paths.specs.Marks.{Mark, full, blank, ◌⊑◌, ⊑_refl, ⊑_trans}
use Rattle.paths.specs.Commands.{out_of_loop, out_of_round, Command, seq, star}
use Rattle.paths.specs.Triples.{at, never, Triple}
use Rattle.paths.proofs.Rules.{less, nowhere, full_any, weaken, still, rule_seq, rule_star, rule_catch, rule_catch_never}
use Rattle.stmt_paths.specs.Execution.{round, loop}
use Rattle.loops.proofs.Staying.{NeverJumps}
use Rattle.da.specs.declared.DaOut.TheVariants.{Falls}
use Rattle.std.specs.Prelude.{Ok}
use Rattle.da.specs.Outcome.{DaResult, State, gains, ◌▷◌}
use Rattle.da.specs.Walk.{StmtRow, falls_written, loop_body_assigns}
use Rattle.soundness.proofs.Known.{known, known_all, known_gained, gains_nothing}
use Rattle.soundness.proofs.Sound.{Sound, sound_falls, sound_jumps, sound_stop, loose, sound_kept}

-- a: before the condition; after: what the loop's end knows; m: where the body and the step start
module _ {a after m : Mark} {head end : Command} (body step : Command) (up : a ⊑ after) (inside : after ⊑ m)
    (head-so : Triple a head (at m) never) (end-so : Triple a end (at after) never) where
  module _ (body-so : Triple m body (at m) (at m)) (step_so : Triple m step (at m) (at m)) where
    round_keeps : Triple a (round head body step) (at a) (at after)
    round_keeps =
        rule_seq (weaken ⊑_refl (less ⊑_refl) nowhere head-so)
        (weaken ⊑_refl (less (⊑_trans up inside)) (less inside) (rule_seq (rule_catch out_of_round body-so) step_so))

    rest_keeps : Triple a (seq (star (round head body step)) end) (at after) (at after)
    rest_keeps = rule_seq (rule_star round_keeps) (weaken ⊑_refl (less ⊑_refl) nowhere end-so)

    -- any number of rounds
    loop_keeps : (s : ℕ) → Triple a (loop s head body step end) (at after) (at blank)
    loop_keeps s = loose (rule_catch out_of_loop (go (eqb s 1)))
      where
        go : (b : Bool) → Triple a (cond b (seq (round head body step) (seq (star (round head body step)) end)) (seq (star (round head body step)) end)) (at after) (at after)
        go true = rule_seq round_keeps rest_keeps
        go false = rest_keeps

  -- at least one round, that writes
  loop_writes : (s : ℕ) → eqb s 1 ≡ true → Triple m body (at full) never → Triple a (loop s head body step end) (at full) (at blank)
  loop_writes s q body-so = loose (rule_catch out_of_loop (rw q (rule_seq first full_any)))
    where
      first : Triple a (round head body step) (at full) (at full)
      first =
          rule_seq (weaken ⊑_refl (less ⊑_refl) nowhere head-so)
          (rule_seq (weaken ⊑_refl (less ⊑_refl) nowhere (rule_catch_never out_of_round body-so)) full_any)

-- a body that falls written, and from which nothing jumps
body_writes : {m : Mark} {body : Command} (b : State) → falls_written (Falls b) ≡ true → NeverJumps body → Sound m body (Ok (Falls b)) → Triple m body (at full) never
body_writes b q n (sound_falls h) = still n (rw (known_all b q) at h)

-- the walk of the body and the step, both from where the body starts
module _ {a : Mark} {head end : Command} (body step : Command) (r : StmtRow) (cannot_escape : Bool) (after in_body : State)
    (up : a ⊑ known after) (inside : known after ⊑ known in_body)
    (head-so : Triple a head (at (known in_body)) never) (end-so : Triple a end (at (known after)) never)
    (stays : cannot_escape ≡ true → NeverJumps body) where
  -- no write is claimed
  unclaimed : Triple (known in_body) body (at (known in_body)) (at (known in_body)) → Triple (known in_body) step (at (known in_body)) (at (known in_body))
      → Triple a (loop r.side head body step end) (at (known (gains false after))) (at blank)
  unclaimed h g = rw (gains_nothing false after refl) (loop_keeps body step up inside head-so end-so h g r.side)

  claimed : (b : State) → Sound (known in_body) body (Ok (Falls b)) → Triple (known in_body) step (at (known in_body)) (at (known in_body))
      → (w : Bool)
      → loop_body_assigns r cannot_escape (Falls b) ≡ w
      → Triple a (loop r.side head body step end) (at (known (gains w after))) (at blank)
  claimed b h g true q =
      let p = both_true (falls_written (Falls b)) (cannot_escape && eqb r.side 1) q in
      let s = both_true cannot_escape (eqb r.side 1) p.1 in
      rw (known_gained true after refl) (loop_writes body step up inside head-so end-so r.side s.1 (body_writes b p.0 (stays s.0) h))
  claimed b h g false q = unclaimed (sound_kept h) g

  pub rounds_so : {body_out step_out : DaResult} → Sound (known in_body) body body_out → Sound (known in_body) step step_out
      → Sound a (loop r.side head body step end) (body_out ▷ λ out. step_out ▷ λ ignored. Ok (Falls (gains (loop_body_assigns r cannot_escape out) after)))
  rounds_so sound_stop k = sound_stop
  rounds_so (sound_falls h) sound_stop = sound_stop
  rounds_so (sound_jumps h) sound_stop = sound_stop
  rounds_so (sound_falls {b = b} h) (sound_falls k) = sound_falls (claimed b (sound_falls h) (sound_kept (sound_falls k)) _ refl)
  rounds_so (sound_falls {b = b} h) (sound_jumps k) = sound_falls (claimed b (sound_falls h) (sound_kept (sound_jumps k)) _ refl)
  rounds_so (sound_jumps h) (sound_falls k) = sound_falls (unclaimed (sound_kept (sound_jumps h)) (sound_kept (sound_falls k)))
  rounds_so (sound_jumps h) (sound_jumps k) = sound_falls (unclaimed (sound_kept (sound_jumps h)) (sound_kept (sound_jumps k)))
