-- The arms of a case: what the walk claims of them holds whichever is chosen. By induction over the arms: what they came to together is
-- the merge of what each did (Merging).
use mathlib.Core.Path.{◌≡◌, refl, sym}
use mathlib.Core.Bool.{Bool, true, false, cond, ◌&&◌, not}
use mathlib.Core.List.{List, [], ◌∷◌}
use Prim.Native.Nat.{ℕ, suc}
use Rattle.table.specs.Fold.{Pairwise, no_pair, pair}
use Rattle.kinds.specs.Named.{has_default}
use Rattle.paths.specs.Marks.{Mark, blank}
use Rattle.paths.specs.Commands.{Command, skip}
use Rattle.paths.specs.Triples.{at, never, Triple}
use Rattle.paths.proofs.Rules.{rule_skip, rule_choice, rule_stops, rule_seq, rule_alt}
use Rattle.paths.specs.Semantics.{Order}
use Rattle.paths.specs.Evaluates.{AllEvaluate}
use Rattle.paths.proofs.Evaluating.{in_order_lem}
use Rattle.stmt_paths.proofs.UnderOrder.{chosen_labels_so}
use Rattle.stmt_paths.specs.Execution.{Execution, all_labels, chosen_arm}
use Rattle.da.specs.declared.DaOut.{DaOut}
use Rattle.da.specs.declared.DaOut.TheVariants.{Falls, Jumps}
use Rattle.da.specs.declared.DaGiveUp.{DaGiveUp}
use Rattle.std.specs.Prelude.{Ok, Err}
use Rattle.da.specs.Outcome.{DaResult, State, is_written, merge, ◌▷◌}
use Rattle.da.specs.Walk.{Walk, arms}
use Rattle.soundness.proofs.Known.{known}
use Rattle.soundness.proofs.Asking.{unless_one_read_lem}
use Rattle.da.proofs.Merging.{merge_assoc}
use Rattle.soundness.proofs.Sound.{Sound, sound_falls, sound_jumps, sound_stop, loose, by_test, sound_then, sound_merge, sound_kept}
use Rattle.soundness.proofs.Law.{StmtLaw}

-- arms that were walked, and what they came to together: the labels of each read nothing too soon, and each arm is sound
pub data Walked (after : State) : List Execution → DaOut → Type 0 where
  no_arms : Walked after [] Jumps
  one_arm : {r : Execution} {rs : List Execution} {arm others : DaOut} → AllEvaluate (known after) r.labels
      → Sound (known after) r.run (Ok arm)
      → Walked after rs others
      → Walked after (r ∷ rs) (merge arm others)

-- so, or the walk gave up
pub data ArmsSound (after : State) (before : DaOut) (rs : List Execution) : DaResult → Type 0 where
  walked : {others : DaOut} → Walked after rs others → ArmsSound after before rs (Ok (merge before others))
  stopped : {stop : DaGiveUp} → ArmsSound after before rs (Err stop)

add_arm : {after : State} {before arm : DaOut} {r : Execution} {rs : List Execution} {s : DaResult} → AllEvaluate (known after) r.labels
    → Sound (known after) r.run (Ok arm)
    → ArmsSound after (merge before arm) rs s
    → ArmsSound after before (r ∷ rs) s
add_arm {before = before} {arm = arm} h k (walked {others = others} l) = rw (merge_assoc before arm others) (walked (one_arm h k l))
add_arm h k stopped = stopped

arm_then : {after : State} {before : DaOut} {r : Execution} {rs : List Execution} {t : DaResult} (next : DaOut → DaResult) → AllEvaluate (known after) r.labels
    → Sound (known after) r.run t
    → ((arm : DaOut) → ArmsSound after (merge before arm) rs (next arm))
    → ArmsSound after before (r ∷ rs) (t ▷ next)
arm_then next h (sound_falls {b = b} k) l = add_arm h (sound_falls k) (l (Falls b))
arm_then next h (sound_jumps k) l = add_arm h (sound_jumps k) (l Jumps)
arm_then next h sound_stop l = stopped

arms_sound : {ws : List Walk} {rs : List Execution} → Pairwise StmtLaw ws rs → (after : State) (before : DaOut) → ArmsSound after before rs (arms ws after before)
arms_sound no_pair after before = walked_none before
  where
    walked_none : (out : DaOut) → ArmsSound after out [] (Ok out)
    walked_none (Falls b) = walked no_arms
    walked_none Jumps = walked no_arms
arms_sound (pair {x = w} {y = r} {xs = ws} {ys = rs} l ls) after before =
    unless_one_read_lem (ArmsSound after before (r ∷ rs)) (λ g. stopped) l.labels after
    (λ h. arm_then (λ arm. arms ws after (merge before arm)) h (l.sound after) (λ arm. arms_sound ls after (merge before arm)))

same_defaults : {ws : List Walk} {rs : List Execution} → Pairwise StmtLaw ws rs → has_default (λ w. w.is_default) ws ≡ has_default (λ r. r.is_default) rs
same_defaults no_pair = refl
same_defaults (pair l ls) = rw (l.default, same_defaults ls)

either_labels : {m : Mark} {c d : Command} (b : Bool) → Triple m c (at m) never → Triple m d (at m) never → Triple m (cond b c d) (at m) never
either_labels true h k = h
either_labels false h k = k

-- the commands of arms, from what is known where they start
module _ {after : State} where
  all_labels_lem : {rs : List Execution} {out : DaOut} → Walked after rs out → Triple (known after) (all_labels rs) (at (known after)) never
  all_labels_lem no_arms = rule_skip
  all_labels_lem (one_arm h k l) = rule_seq (in_order_lem h) (all_labels_lem l)

  module _ (o : Order) {all : Command} (all_so : Triple (known after) all (at (known after)) never) where
    -- whichever is chosen, or none: what was known is known
    kept : {rs : List Execution} {out : DaOut} (n : ℕ) (default : Bool) {before : Command} → Triple (known after) before (at (known after)) never → Walked after rs out
        → Triple (known after) (chosen_arm o n before all default rs) (at (known after)) (at blank)
    kept n true b no_arms = rule_stops
    kept n false b no_arms = loose (rule_seq (rule_choice n) all_so)
    kept n default b (one_arm {r = r} h k l) =
        let labelled = either_labels r.is_default all_so (rule_seq b (chosen_labels_so o h)) in
        rule_alt (rule_seq (rule_choice n) (rule_seq (loose labelled) (loose (sound_kept k)))) (kept (suc n) default (rule_seq b (in_order_lem h)) l)

    -- where a default stands, one of the arms is run
    chosen : {rs : List Execution} {out : DaOut} (n : ℕ) {before : Command} → Triple (known after) before (at (known after)) never → Walked after rs out
        → Sound (known after) (chosen_arm o n before all true rs) (Ok out)
    chosen n b no_arms = sound_jumps rule_stops
    chosen n b (one_arm {r = r} h k l) =
        let labelled = either_labels r.is_default all_so (rule_seq b (chosen_labels_so o h)) in
        sound_merge (sound_then (rule_choice n) (sound_then (loose labelled) k)) (chosen (suc n) (rule_seq b (in_order_lem h)) l)

  -- a case after its scrutinee
  pub case_so : (o : Order) {rs : List Execution} {r : DaResult} (default : Bool) → ArmsSound after Jumps rs r → has_default (λ r. r.is_default) rs ≡ default
      → Sound (known after) (chosen_arm o 0 skip (all_labels rs) (has_default (λ r. r.is_default) rs) rs) (r ▷ λ all. cond (default && not (is_written after)) (Ok all) (Ok (Falls after)))
  case_so o true (walked l) q = rw q (by_test (Sound _ _) (not (is_written after)) (λ p. chosen o (all_labels_lem l) 0 rule_skip l) (λ p. sound_falls (kept o (all_labels_lem l) 0 true rule_skip l)))
  case_so o false (walked l) q = rw q (sound_falls (kept o (all_labels_lem l) 0 false rule_skip l))
  case_so o default stopped q = sound_stop

-- the arms of a case, walked one after the other
pub arms_so : (o : Order) {ws : List Walk} {rs : List Execution} → Pairwise StmtLaw ws rs → (after : State)
    → Sound (known after) (chosen_arm o 0 skip (all_labels rs) (has_default (λ r. r.is_default) rs) rs) (arms ws after Jumps ▷ λ all. cond (has_default (λ w. w.is_default) ws && not (is_written after)) (Ok all) (Ok (Falls after)))
arms_so o {ws} ls after = case_so o (has_default (λ w. w.is_default) ws) (arms_sound ls after Jumps) (sym (same_defaults ls))
