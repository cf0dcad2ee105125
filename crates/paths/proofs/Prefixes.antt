-- A path "may stop anywhere": whatever a run has done up to some event, a run that stops there has done. By induction over the run.
use mathlib.Core.List.{List, [], ◌∷◌, ◌++◌}
use Rattle.paths.specs.Commands.{PathEvent, Ending, stops, Jump, out_of_loop, out_of_round, Command, seq, catch, Runs, run_stop, run_skip, run_emit, run_emit_stop, run_exit, run_seq, run_off, run_left, run_right, run_none, run_more, run_catch}

-- the first events of a list
data Prefix : List PathEvent → List PathEvent → Type 0 where
  none_yet : {t : List PathEvent} → Prefix [] t
  one_more : {e : PathEvent} {s t : List PathEvent} → Prefix s t → Prefix (e ∷ s) (e ∷ t)

prefix_append : (s t : List PathEvent) → Prefix s (s ++ t)
prefix_append [] t = none_yet
prefix_append (e ∷ s) t = one_more (prefix_append s t)

-- where a prefix of two lists ends: in the first, or in the second
data Seam (s t : List PathEvent) : List PathEvent → Type 0 where
  in_first : {p : List PathEvent} → Prefix p s → Seam s t p
  in_second : {p : List PathEvent} → Prefix p t → Seam s t (s ++ p)

seam : {p : List PathEvent} (s t : List PathEvent) → Prefix p (s ++ t) → Seam s t p
seam [] t p = in_second p
seam (e ∷ s) t none_yet = in_first none_yet
seam (e ∷ s) t (one_more p) = next (seam s t p)
  where
    next : {q : List PathEvent} → Seam s t q → Seam (e ∷ s) t (e ∷ q)
    next (in_first i) = in_first (one_more i)
    next (in_second i) = in_second i

catch_stops : (j : Jump) {c : Command} {s : List PathEvent} → Runs c s stops → Runs (catch j c) s stops
catch_stops out_of_loop x = run_catch x
catch_stops out_of_round x = run_catch x

stopped : {c : Command} {s t : List PathEvent} {o : Ending} → Runs c t o → Prefix s t → Runs c s stops
stopped run_stop none_yet = run_stop
stopped run_skip none_yet = run_stop
stopped run_emit none_yet = run_stop
stopped run_emit (one_more none_yet) = run_emit_stop
stopped run_emit_stop none_yet = run_stop
stopped run_emit_stop (one_more none_yet) = run_emit_stop
stopped run_exit none_yet = run_stop
stopped (run_seq {c = c} {d = d} {s = s} {t = t} x y) p = go (λ r i. stopped x i) (λ r i. stopped y i) (seam s t p)
  where
    go : {q : List PathEvent} → ((r : List PathEvent) → Prefix r s → Runs c r stops) → ((r : List PathEvent) → Prefix r t → Runs d r stops) → Seam s t q → Runs (seq c d) q stops
    go {q} f g (in_first i) = run_off tt (f q i)
    go f g (in_second {p = r} i) = run_seq x (g r i)
stopped (run_off i x) p = run_off tt (stopped x p)
stopped (run_left x) p = run_left (stopped x p)
stopped (run_right x) p = run_right (stopped x p)
stopped run_none none_yet = run_stop
stopped (run_more x) p = run_more (stopped x p)
stopped (run_catch {j = j} x) p = catch_stops j (stopped x p)

pub prefix : {c : Command} {o : Ending} (s t : List PathEvent) → Runs c (s ++ t) o → Runs c s stops
prefix s t x = stopped x (prefix_append s t)
