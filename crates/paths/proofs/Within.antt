-- Every run of one command is a run of another, and the same both ways: rules for what stands in a command, and for regrouping. A run is
-- taken apart and put together anew; of rounds by induction over the run.
use mathlib.Core.List.{List, [], append-nil, append_assoc}
use mathlib.Core.Path.{subst, sym}
use Rattle.paths.specs.Commands.{PathEvent, Ending, falls, stops, leaves, again, Jump, Command, skip, seq, alt, star, catch, Runs, run_stop, run_skip, run_seq, run_off, run_left, run_right, run_none, run_more, run_catch}

-- every run of the first is one of the second
pub record Within (c d : Command) : Type 0 where
  pub go : (t : List PathEvent) (o : Ending) → Runs c t o → Runs d t o

pub within_refl : {c : Command} → Within c c
within_refl = record { go = λ t o x. x }

pub within_trans : {c d e : Command} → Within c d → Within d e → Within c e
within_trans p q = record { go = λ t o x. q.go t o (p.go t o x) }

pub within_seq : {c d c' d' : Command} → Within c c' → Within d d' → Within (seq c d) (seq c' d')
within_seq {c} {d} {c'} {d'} p q = record { go = go }
  where
    go : (t : List PathEvent) (o : Ending) → Runs (seq c d) t o → Runs (seq c' d') t o
    go _ _ run_stop = run_stop
    go _ _ (run_seq {s = s} {t = t} {o = o} x y) = run_seq (p.go s falls x) (q.go t o y)
    go _ _ (run_off {s = s} {o = o} i x) = run_off i (p.go s o x)

pub within_alt : {c d c' d' : Command} → Within c c' → Within d d' → Within (alt c d) (alt c' d')
within_alt {c} {d} {c'} {d'} p q = record { go = go }
  where
    go : (t : List PathEvent) (o : Ending) → Runs (alt c d) t o → Runs (alt c' d') t o
    go _ _ run_stop = run_stop
    go _ _ (run_left {s = s} {o = o} x) = run_left (p.go s o x)
    go _ _ (run_right {s = s} {o = o} x) = run_right (q.go s o x)

pub within_left : {c d e : Command} → Within c d → Within c (alt d e)
within_left p = record { go = λ t o x. run_left (p.go t o x) }

pub within_right : {c d e : Command} → Within c e → Within c (alt d e)
within_right p = record { go = λ t o x. run_right (p.go t o x) }

star_go : {c d : Command} → Within c d → (t : List PathEvent) (o : Ending) → Runs (star c) t o → Runs (star d) t o
star_go p _ _ run_stop = run_stop
star_go p _ _ run_none = run_none
star_go p _ _ (run_more run_stop) = run_stop
star_go p _ _ (run_more (run_seq {s = s} {t = t} {o = o} x y)) = run_more (run_seq (p.go s falls x) (star_go p t o y))
star_go p _ _ (run_more (run_off {s = s} {o = o} i x)) = run_more (run_off i (p.go s o x))

pub within_star : {c d : Command} → Within c d → Within (star c) (star d)
within_star p = record { go = star_go p }

pub within_catch : (j : Jump) {c d : Command} → Within c d → Within (catch j c) (catch j d)
within_catch j {c} {d} p = record { go = go }
  where
    go : (t : List PathEvent) (o : Ending) → Runs (catch j c) t o → Runs (catch j d) t o
    go _ _ run_stop = run_stop
    go _ _ (run_catch {s = s} {o = o} x) = run_catch (p.go s o x)

-- what can fall without an event may stand after
pub within_then : {c d e : Command} → Runs e [] falls → Within c d → Within c (seq d e)
within_then {c} {d} {e} n p = record { go = go }
  where
    go : (t : List PathEvent) (o : Ending) → Runs c t o → Runs (seq d e) t o
    go t falls x = subst (λ u. Runs (seq d e) u falls) (append-nil t) (run_seq (p.go t falls x) n)
    go t stops x = run_off tt (p.go t stops x)
    go t leaves x = run_off tt (p.go t leaves x)
    go t again x = run_off tt (p.go t again x)

-- the two have the same runs
pub record Same (c d : Command) : Type 0 where
  pub forth : Within c d
  pub back : Within d c

pub same_refl : {c : Command} → Same c c
same_refl = record { forth = within_refl; back = within_refl }

pub same_trans : {c d e : Command} → Same c d → Same d e → Same c e
same_trans p q = record { forth = within_trans p.forth q.forth; back = within_trans q.back p.back }

pub same_seq : {c d c' d' : Command} → Same c c' → Same d d' → Same (seq c d) (seq c' d')
same_seq p q = record { forth = within_seq p.forth q.forth; back = within_seq p.back q.back }

pub same_sym : {c d : Command} → Same c d → Same d c
same_sym p = record { forth = p.back; back = p.forth }

-- what does nothing may stand before
pub same_skip : {c : Command} → Same c (seq skip c)
same_skip {c} = record { forth = record { go = λ t o x. run_seq run_skip x }; back = record { go = go } }
  where
    go : (t : List PathEvent) (o : Ending) → Runs (seq skip c) t o → Runs c t o
    go _ _ run_stop = run_stop
    go _ _ (run_seq run_skip y) = y
    go _ _ (run_off i run_stop) = run_stop
    go _ _ (run_off i run_skip) = absurd i

pub same_assoc : {c d e : Command} → Same (seq c (seq d e)) (seq (seq c d) e)
same_assoc {c} {d} {e} = record { forth = record { go = forth }; back = record { go = back } }
  where
    forth : (t : List PathEvent) (o : Ending) → Runs (seq c (seq d e)) t o → Runs (seq (seq c d) e) t o
    forth _ _ run_stop = run_stop
    forth _ _ (run_off i x) = run_off i (run_off i x)
    forth _ _ (run_seq {s = s} x run_stop) = run_off tt (run_seq x run_stop)
    forth _ _ (run_seq {s = s} x (run_seq {s = t} {t = u} {o = o} y z)) = subst (λ v. Runs (seq (seq c d) e) v o) (append_assoc s t u) (run_seq (run_seq x y) z)
    forth _ _ (run_seq {s = s} x (run_off i y)) = run_off i (run_seq x y)

    back : (t : List PathEvent) (o : Ending) → Runs (seq (seq c d) e) t o → Runs (seq c (seq d e)) t o
    back _ _ run_stop = run_stop
    back _ _ (run_seq {t = u} {o = o} (run_seq {s = s} {t = t} x y) z) = subst (λ v. Runs (seq c (seq d e)) v o) (sym (append_assoc s t u)) (run_seq x (run_seq y z))
    back _ _ (run_seq (run_off i x) z) = absurd i
    back _ _ (run_off i run_stop) = run_stop
    back _ _ (run_off i (run_seq x y)) = run_seq x (run_off i y)
    back _ _ (run_off i (run_off j x)) = run_off j x
