-- Document 01's sentences know two truths. On a run without an unknown choice they are what happens, of operands that come out unknown by
-- such a choice only, as every row does (proofs/Unknown); and what they say can happen. By cases over how the whole comes out; nothing
-- recurses.
use mathlib.Core.Logic.{⊎_elim}
use mathlib.Core.List.{List}
use Rattle.paths.specs.Commands.{PathEvent, falls, Runs, run_seq, run_left, run_right}
use Rattle.paths.specs.Semantics.{Order}
use Rattle.paths.specs.AnyOrder.{either_first}
use Rattle.paths.specs.Evaluation.{Truth, is_true, is_false, is_unknown, opposite, Evaluation, asked, not_false, not_true, both, either, conditional}
use Rattle.paths.specs.Each.{Each}
use Rattle.paths.specs.Unknown.{NotUnknown, UnknownLaw, ShortCircuits, by_left, by_right, TakesOneArm, first_arm, second_arm}
use Rattle.paths.proofs.Listed.{each_parts}
use Rattle.paths.proofs.Unknown.{BothFall, fell, both_fall, one_falls, unknown_not, unknown_and}

-- the else side is taken, a loop ends and a wait does not go on after false
pub not_true_is_false : {e : Evaluation} → UnknownLaw e → (t : List PathEvent) → Each NotUnknown t → Runs (not_true e) t falls → Runs (e.truth is_false) t falls
not_true_is_false h t q x = ⊎_elim (λ y. y) (λ y. absurd (h.by_choice t q y)) (one_falls t x)

not_false_is_true : {e : Evaluation} → UnknownLaw e → (t : List PathEvent) → Each NotUnknown t → Runs (not_false e) t falls → Runs (e.truth is_true) t falls
not_false_is_true h t q x = ⊎_elim (λ y. y) (λ y. absurd (h.by_choice t q y)) (one_falls t x)

-- &&

module _ {l r : Evaluation} (h : UnknownLaw l) (k : UnknownLaw r) where
  pub and_short_circuits : (o : Truth) (t : List PathEvent) → Each NotUnknown t → Runs (both l r o) t falls → ShortCircuits is_false l r o t
  and_short_circuits is_true t q x = go t (both_fall t x)
    where
      go : (t : List PathEvent) → BothFall (l.truth is_true) (r.truth is_true) t → ShortCircuits is_false l r is_true t
      go _ (fell y z) = by_right y z
  and_short_circuits is_false t q x = ⊎_elim by_left (λ y. go t q (both_fall t y)) (one_falls t x)
    where
      go : (t : List PathEvent) → Each NotUnknown t → BothFall (not_false l) (r.truth is_false) t → ShortCircuits is_false l r is_false t
      go _ q (fell {s = s} {t = u} y z) = by_right (not_false_is_true h s (each_parts NotUnknown s u q).0 y) z
  and_short_circuits is_unknown t q x = absurd ((unknown_and h k).by_choice t q x)

module _ {l r : Evaluation} where
  pub short_circuit_and : {o : Truth} {t : List PathEvent} → ShortCircuits is_false l r o t → Runs (both l r o) t falls
  short_circuit_and (by_left x) = run_left x
  short_circuit_and (by_right {t = is_true} x y) = run_seq x y
  short_circuit_and (by_right {t = is_false} x y) = run_right (run_seq (run_left x) y)
  short_circuit_and (by_right {t = is_unknown} x y) = run_left (run_seq x y)

-- || is && of the opposites

abbrev inverted : Evaluation → Evaluation
inverted e = asked (λ t. e.truth (opposite t))

module _ {l r : Evaluation} where
  uninvert : {o : Truth} {t : List PathEvent} → ShortCircuits is_false (inverted l) (inverted r) o t → ShortCircuits is_true l r (opposite o) t
  uninvert (by_left x) = by_left x
  uninvert (by_right x y) = by_right x y

  pub or_short_circuits : UnknownLaw l → UnknownLaw r → (o : Truth) (t : List PathEvent) → Each NotUnknown t → Runs (either l r o) t falls → ShortCircuits is_true l r o t
  or_short_circuits h k is_true t q x = uninvert (and_short_circuits (unknown_not h) (unknown_not k) is_false t q x)
  or_short_circuits h k is_false t q x = uninvert (and_short_circuits (unknown_not h) (unknown_not k) is_true t q x)
  or_short_circuits h k is_unknown t q x = uninvert (and_short_circuits (unknown_not h) (unknown_not k) is_unknown t q x)

  pub short_circuit_or : {o : Truth} {t : List PathEvent} → ShortCircuits is_true l r o t → Runs (either l r o) t falls
  short_circuit_or (by_left x) = run_left x
  short_circuit_or (by_right {t = is_true} x y) = run_right (run_seq (run_left x) y)
  short_circuit_or (by_right {t = is_false} x y) = run_seq x y
  short_circuit_or (by_right {t = is_unknown} x y) = run_left (run_seq x y)

-- a conditional expression

module _ (order : Order) {c a b : Evaluation} where
  pub conditional_takes_one_arm : UnknownLaw c → (t : List PathEvent) → Each NotUnknown t → Runs (conditional order c a b) t falls → TakesOneArm c a b t
  conditional_takes_one_arm h t q x = ⊎_elim (λ y. first t (both_fall t y)) (λ y. ⊎_elim (λ z. second t (both_fall t z)) (λ z. neither t q (both_fall t z)) (one_falls t y)) (one_falls t x)
    where
      first : (t : List PathEvent) → BothFall (c.truth is_true) a.value t → TakesOneArm c a b t
      first _ (fell y z) = first_arm y z

      second : (t : List PathEvent) → BothFall (c.truth is_false) b.value t → TakesOneArm c a b t
      second _ (fell y z) = second_arm y z

      neither : (t : List PathEvent) → Each NotUnknown t → BothFall (c.truth is_unknown) (either_first order a.value b.value) t → TakesOneArm c a b t
      neither _ q (fell {s = s} {t = u} y z) = absurd (h.by_choice s (each_parts NotUnknown s u q).0 y)

  pub one_arm_taken : {t : List PathEvent} → TakesOneArm c a b t → Runs (conditional order c a b) t falls
  one_arm_taken (first_arm x y) = run_left (run_seq x y)
  one_arm_taken (second_arm x y) = run_right (run_left (run_seq x y))
