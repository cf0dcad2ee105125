-- What an answer of the walk claims of a command, and how the claims of parts make that of the whole, by cases over the answers. Nothing
-- here knows a kind of row.
use mathlib.Core.Path.{◌≡◌, refl}
use mathlib.Core.Bool.{Bool, true, false, cond}
use Rattle.paths.specs.Marks.{Mark, blank, ⊑_refl, blank_⊑}
use Rattle.paths.specs.Commands.{stops, Command, exit, seq, alt}
use Rattle.paths.specs.Triples.{Claim, at, never, Triple}
use Rattle.paths.proofs.Rules.{◌≽◌, less, nowhere, ≽_refl, weaken, keep, rule_stops, rule_seq, rule_seq_never, rule_alt}
use Rattle.da.specs.declared.DaOut.{DaOut}
use Rattle.da.specs.declared.DaOut.TheVariants.{Falls, Jumps}
use Rattle.da.specs.declared.DaGiveUp.{DaGiveUp}
use Rattle.std.specs.Prelude.{Ok, Err}
use Rattle.da.specs.Outcome.{DaResult, State, written, state, merge, go_on, ◌▷◌}
use Rattle.soundness.proofs.Known.{known, known_meet_first, known_meet_second}

-- from a mark on: falls means that so much is written next, jumps that nothing is run next; a give-up claims nothing. Of loop
-- jumps nothing is claimed.
pub data Sound (a : Mark) (c : Command) : DaResult → Type 0 where
  sound_falls : {b : State} → Triple a c (at (known b)) (at blank) → Sound a c (Ok (Falls b))
  sound_jumps : Triple a c never (at blank) → Sound a c (Ok Jumps)
  sound_stop : {stop : DaGiveUp} → Sound a c (Err stop)

says_nothing : (claim : Claim) → claim ≽ at blank
says_nothing (at b) = less blank_⊑
says_nothing never = nowhere

-- of jumps nothing is claimed
pub loose : {a : Mark} {c : Command} {next jump : Claim} → Triple a c next jump → Triple a c next (at blank)
loose {next = next} {jump = jump} h = weaken ⊑_refl (≽_refl next) (says_nothing jump) h

-- a give-up, or what follows where its test is false
pub unless : (P : DaResult → Type 0) {stop next : DaResult} (b : Bool) → P stop → (b ≡ false → P next) → P (cond b stop next)
unless P true h k = h
unless P false h k = k refl

-- either answer, by the test
pub by_test : (P : DaResult → Type 0) {yes-so no-so : DaResult} (b : Bool) → (b ≡ true → P yes-so) → (b ≡ false → P no-so) → P (cond b yes-so no-so)
by_test P true h k = h refl
by_test P false h k = k refl

module _ {a b : Mark} {c d : Command} where
  -- one after the other
  pub sound_then : {r : DaResult} → Triple a c (at b) (at blank) → Sound b d r → Sound a (seq c d) r
  sound_then h (sound_falls g) = sound_falls (rule_seq h g)
  sound_then h (sound_jumps g) = sound_jumps (rule_seq h g)
  sound_then h sound_stop = sound_stop

  -- a path that stops may be claimed anything of
  pub sound_or_stop : {r : DaResult} → Sound a c r → Triple a d (at b) never → Sound a (alt c (seq d (exit stops))) r
  sound_or_stop (sound_falls g) h = sound_falls (rule_alt g (rule_seq (loose h) rule_stops))
  sound_or_stop (sound_jumps g) h = sound_jumps (rule_alt g (rule_seq (loose h) rule_stops))
  sound_or_stop sound_stop h = sound_stop

module _ {a : Mark} {c d : Command} where
  -- what is never run may be claimed anything of
  pub sound_never : (r : DaResult) → Triple a c never (at blank) → Sound a (seq c d) r
  sound_never (Ok (Falls b)) h = sound_falls (rule_seq_never h)
  sound_never (Ok Jumps) h = sound_jumps (rule_seq_never h)
  sound_never (Err stop) h = sound_stop

  -- the next statement of a block
  pub sound_next : {r : DaResult} (next : State → DaResult) → Sound a c r → ((b : State) → Sound (known b) d (next b)) → Sound a (seq c d) (r ▷ go_on next)
  sound_next next (sound_falls {b = b} h) k = sound_then h (k b)
  sound_next next (sound_jumps h) k = sound_jumps (rule_seq_never h)
  sound_next next sound_stop k = sound_stop

  -- a loop after its init: "A `Jumps` path never reaches it"
  pub sound_state : {r : DaResult} (next : State → DaResult) → Sound a c r → ((b : State) → Sound (known b) d (next b)) → Sound a (seq c d) (r ▷ λ out. next (state out))
  sound_state next (sound_falls {b = b} h) k = sound_then h (k b)
  sound_state next (sound_jumps h) k = sound_never (next written) h
  sound_state next sound_stop k = sound_stop

  -- two arms where they meet
  pub sound_merge : {r s : DaResult} → Sound a c r → Sound a d s → Sound a (alt c d) (r ▷ λ first. s ▷ λ second. Ok (merge first second))
  sound_merge sound_stop k = sound_stop
  sound_merge (sound_falls h) sound_stop = sound_stop
  sound_merge (sound_jumps h) sound_stop = sound_stop
  sound_merge (sound_jumps h) (sound_jumps k) = sound_jumps (rule_alt h k)
  sound_merge (sound_jumps h) (sound_falls k) = sound_falls (rule_alt (weaken ⊑_refl nowhere (less ⊑_refl) h) k)
  sound_merge (sound_falls h) (sound_jumps k) = sound_falls (rule_alt h (weaken ⊑_refl nowhere (less ⊑_refl) k))
  sound_merge (sound_falls {b = a'} h) (sound_falls {b = b'} k) =
      sound_falls (rule_alt (weaken ⊑_refl (less (known_meet_first a' b')) (less ⊑_refl) h) (weaken ⊑_refl (less (known_meet_second a' b')) (less ⊑_refl) k))

-- what is written stays written
pub sound_kept : {a : Mark} {c : Command} {out : DaOut} → Sound a c (Ok out) → Triple a c (at a) (at a)
sound_kept (sound_falls h) = keep h
sound_kept (sound_jumps h) = keep h
