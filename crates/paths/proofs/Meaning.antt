-- What a triple says of a run: a read, and what counts as one, has a whole write before it. By induction over the events before it:
-- nothing was written at first and all is at the read, so one of them is a write.
use mathlib.Core.Path.{◌≡◌, refl, ap, subst}
use mathlib.Core.List.{List, [], ◌∷◌, ◌++◌, append-nil}
use Rattle.paths.specs.Marks.{Mark, full, blank, ◌⊑◌, ⊑_refl, blank_not_full}
use Rattle.paths.specs.Commands.{PathEvent, read, write, outside, choice, Ending, falls, Command, Runs}
use Rattle.paths.specs.Triples.{Good, Claim, at, Ends, Triple}
use Rattle.paths.specs.Silence.{NotRead}
use Rattle.paths.specs.Written.{Written, IsRead, ReadsWritten}

-- where what follows s can be good only if all is written, s holds a write
good_written : (s u : List PathEvent) (P : Mark → Type 0) (w : Mark) → ((v : Mark) → Good u P v → full ⊑ v) → (full ⊑ w → ⊥) → Good (s ++ u) P w → Written s
good_written [] u P w f n g = n (f w g)
good_written (read ∷ s) u P w f n g = good_written s u P w f n g.1
good_written (outside ∷ s) u P w f n g = good_written s u P w f n g.1
good_written (write ∷ s) u P w f n g = tt
good_written (choice m ∷ s) u P w f n g = good_written s u P w f n g.1

read_needs : (e : PathEvent) (u : List PathEvent) (P : Mark → Type 0) → (NotRead e → ⊥) → (v : Mark) → Good (e ∷ u) P v → full ⊑ v
read_needs read u P r v g = g.0
read_needs outside u P r v g = g.0
read_needs write u P r v g = absurd (r tt)
read_needs (choice n) u P r v g = absurd (r tt)

-- from nothing written: every read of every run has a write before it
pub read_is_written : {c : Command} {next jump : Claim} (s u : List PathEvent) (e : PathEvent) (o : Ending) → Triple blank c next jump → (NotRead e → ⊥) → Runs c (s ++ (e ∷ u)) o → Written s
read_is_written {next = next} {jump = jump} s u e o h r x =
    good_written s (e ∷ u) (Ends next jump o) blank (read_needs e u (Ends next jump o) r) blank_not_full (h.go blank ⊑_refl (s ++ (e ∷ u)) o x)

-- so has what counts as a read
pub outside_is_written : {c : Command} {next jump : Claim} (s u : List PathEvent) (o : Ending) → Triple blank c next jump → Runs c (s ++ (outside ∷ u)) o → Written s
outside_is_written s u o h x = read_is_written s u outside o h (λ n. n) x

-- and where all is claimed to be written next, a run that goes on has written
pub fall_is_written : {c : Command} {jump : Claim} (s : List PathEvent) → Triple blank c (at full) jump → Runs c s falls → Written s
fall_is_written {jump = jump} s h x = good_written s [] (Ends (at full) jump falls) blank (λ v g. g) blank_not_full (rw (append-nil s) (h.go blank ⊑_refl s falls x))

is_read : (e : PathEvent) → IsRead e → NotRead e → ⊥
is_read read r n = n
is_read outside r n = n
is_read write r n = r
is_read (choice m) r n = r

-- so of every run from nothing written on
pub reads_written : {c : Command} {next jump : Claim} {t : List PathEvent} {o : Ending} → Triple blank c next jump → Runs c t o → ReadsWritten t
reads_written {c} {o = o} h x = record { before = λ s u e q r. read_is_written s u e o h (is_read e r) (subst (λ t. Runs c t o) q x) }

-- What the claim says of a list in terms of its events alone, so that neither "a read" nor "a whole write before it" says less

pub record HoldsWrite (t : List PathEvent) : Type 0 where
  pub before : List PathEvent
  pub after : List PathEvent
  pub is : t ≡ before ++ (write ∷ after)

one_more : (e : PathEvent) {t : List PathEvent} → HoldsWrite t → HoldsWrite (e ∷ t)
one_more e h = record { before = e ∷ h.before; after = h.after; is = ap (λ t. e ∷ t) h.is }

pub holds_write : (t : List PathEvent) → Written t → HoldsWrite t
holds_write [] h = absurd h
holds_write (read ∷ t) h = one_more read (holds_write t h)
holds_write (outside ∷ t) h = one_more outside (holds_write t h)
holds_write (write ∷ t) h = record { before = []; after = t; is = refl }
holds_write (choice n ∷ t) h = one_more (choice n) (holds_write t h)

-- wherever a read stands in it, a write stands before
pub read_after_write : (s u : List PathEvent) → ReadsWritten (s ++ (read ∷ u)) → HoldsWrite s
read_after_write s u h = holds_write s (h.before s u read refl tt)

-- so it does before a fork or a form that is not modelled
pub outside_after_write : (s u : List PathEvent) → ReadsWritten (s ++ (outside ∷ u)) → HoldsWrite s
outside_after_write s u h = holds_write s (h.before s u outside refl tt)
