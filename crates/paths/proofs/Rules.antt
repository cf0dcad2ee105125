-- The rules of triples: one for each constructor of a command, and those that change a triple. Runs are taken apart here only; every
-- other proof about paths cites these rules. Nothing here knows a kind of row. By induction over events, and for rounds over the run.
use mathlib.Core.List.{List, [], ◌∷◌, ◌++◌}
use Prim.Native.Nat.{ℕ}
use Rattle.paths.specs.Marks.{Mark, full, ◌⊑◌, ⊑_refl, ⊑_trans, ⊑_full}
use Rattle.paths.specs.Commands.{PathEvent, read, write, outside, choice, Ending, falls, stops, leaves, again, Jump, out_of_loop, out_of_round, Command, skip, emit, exit, seq, alt, star, catch, caught, Elsewhere, Runs, run_stop, run_skip, run_emit, run_emit_stop, run_exit, run_seq, run_off, run_left, run_right, run_none, run_more, run_catch}
use Rattle.paths.specs.Silence.{NotRead, Silent}
use Rattle.paths.specs.Triples.{SafeEvent, written_after, Good, Claim, at, never, Holds, Ends, Triple}

-- Lists of events

grows : (e : PathEvent) (w : Mark) → w ⊑ written_after e w
grows read w = ⊑_refl
grows outside w = ⊑_refl
grows write w = ⊑_full
grows (choice n) w = ⊑_refl

-- what is written stays written, so the claim at the end may use it
good_map : (a : Mark) (t : List PathEvent) (P Q : Mark → Type 0) (w : Mark) → a ⊑ w → ((v : Mark) → a ⊑ v → P v → Q v) → Good t P w → Good t Q w
good_map a [] P Q w p f g = f w p g
good_map a (e ∷ t) P Q w p f g = (g.0, good_map a t P Q (written_after e w) (⊑_trans p (grows e w)) f g.1)

good_append : (s t : List PathEvent) (P Q : Mark → Type 0) (w : Mark) → ((v : Mark) → P v → Good t Q v) → Good s P w → Good (s ++ t) Q w
good_append [] t P Q w f g = f w g
good_append (e ∷ s) t P Q w f g = (g.0, good_append s t P Q (written_after e w) f g.1)

fine_full : (e : PathEvent) (w : Mark) → full ⊑ w → SafeEvent e w
fine_full read w p = p
fine_full outside w p = p
fine_full write w p = tt
fine_full (choice n) w p = tt

pub good_full : (t : List PathEvent) (P : Mark → Type 0) (w : Mark) → full ⊑ w → ((v : Mark) → full ⊑ v → P v) → Good t P w
good_full [] P w p f = f w p
good_full (e ∷ t) P w p f = (fine_full e w p, good_full t P (written_after e w) (⊑_trans p (grows e w)) f)

-- without a read, every list is good
fine_silent : (e : PathEvent) (w : Mark) → NotRead e → SafeEvent e w
fine_silent read w n = absurd n
fine_silent outside w n = absurd n
fine_silent write w n = tt
fine_silent (choice m) w n = tt

pub good_silent : (a : Mark) (t : List PathEvent) (P : Mark → Type 0) (w : Mark) → a ⊑ w → Silent t → ((v : Mark) → a ⊑ v → P v) → Good t P w
good_silent a [] P w p h f = f w p
good_silent a (e ∷ t) P w p h f = (fine_silent e w h.0, good_silent a t P (written_after e w) (⊑_trans p (grows e w)) h.1 f)

pub good_never : (t : List PathEvent) (w : Mark) → Good t (λ v. ⊥) w → ⊥
good_never [] w g = g
good_never (e ∷ t) w g = good_never t (written_after e w) g.1

-- Claims

-- a claim, and one that says less
infix 40 ◌≽◌
pub data ◌≽◌ : Claim → Claim → Type 0 where
  less : {a b : Mark} → a ⊑ b → at b ≽ at a
  nowhere : {claim : Claim} → never ≽ claim

pub ≽_refl : (claim : Claim) → claim ≽ claim
≽_refl (at b) = less ⊑_refl
≽_refl never = nowhere

says_less : {r s : Claim} → r ≽ s → (v : Mark) → Holds r v → Holds s v
says_less (less p) v h = ⊑_trans p h
says_less nowhere v h = absurd h

ends_map : (r j s k : Claim) (v : Mark) → (Holds r v → Holds s v) → (Holds j v → Holds k v) → (o : Ending) → Ends r j o v → Ends s k o v
ends_map r j s k v f g falls h = f h
ends_map r j s k v f g stops h = tt
ends_map r j s k v f g leaves h = g h
ends_map r j s k v f g again h = g h

ends_everywhere : (a v : Mark) → a ⊑ v → (o : Ending) → Ends (at a) (at a) o v
ends_everywhere a v p falls = p
ends_everywhere a v p stops = tt
ends_everywhere a v p leaves = p
ends_everywhere a v p again = p

ends_elsewhere : (r s j : Claim) (v : Mark) (o : Ending) → Elsewhere o → Ends r j o v → Ends s j o v
ends_elsewhere r s j v falls i h = absurd i
ends_elsewhere r s j v stops i h = h
ends_elsewhere r s j v leaves i h = h
ends_elsewhere r s j v again i h = h

ends_caught : (i : Jump) (next jump : Claim) → jump ≽ next → (v : Mark) (o : Ending) → Ends next jump o v → Ends next jump (caught i o) v
ends_caught out_of_loop next jump q v falls h = h
ends_caught out_of_loop next jump q v stops h = h
ends_caught out_of_loop next jump q v leaves h = says_less q v h
ends_caught out_of_loop next jump q v again h = h
ends_caught out_of_round next jump q v falls h = h
ends_caught out_of_round next jump q v stops h = h
ends_caught out_of_round next jump q v leaves h = h
ends_caught out_of_round next jump q v again h = says_less q v h

-- To change a triple

change : {a b : Mark} {c : Command} (r j s k : Claim) → a ⊑ b
    → ((v : Mark) → b ⊑ v → Holds r v → Holds s v) → ((v : Mark) → b ⊑ v → Holds j v → Holds k v)
    → Triple a c r j → Triple b c s k
change {b = b} r j s k p f g h = record {
  go = λ w q t o x. good_map b t (Ends r j o) (Ends s k o) w q (λ v i. ends_map r j s k v (f v i) (g v i) o) (h.go w (⊑_trans p q) t o x);
}

-- where all is written, anything is fine
pub full_any : {c : Command} → Triple full c (at full) (at full)
full_any = record { go = λ w p t o x. good_full t (Ends (at full) (at full) o) w p (λ v i. ends_everywhere full v i o) }

-- from more, and with claims that say less
pub weaken : {a b : Mark} {c : Command} {r s j k : Claim} → a ⊑ b → r ≽ s → j ≽ k → Triple a c r j → Triple b c s k
weaken {r = r} {s = s} {j = j} {k = k} p q i = change r j s k p (λ v x. says_less q v) (λ v x. says_less i v)

-- what is written stays written, wherever control goes on
pub keep : {a : Mark} {c : Command} {next jump : Claim} → Triple a c next jump → Triple a c (at a) (at a)
keep {a} {next = next} {jump = jump} = change next jump (at a) (at a) ⊑_refl (λ v p h. p) (λ v p h. p)

-- what is fine from less is fine from more, and keeps it
pub lift : {a b : Mark} {c : Command} {next jump : Claim} → a ⊑ b → Triple a c next jump → Triple b c (at b) jump
lift {b = b} {next = next} {jump = jump} p = change next jump (at b) jump p (λ v q h. q) (λ v q h. h)

ends_still : (r j : Claim) (t : List PathEvent) (w : Mark) (o : Ending) → Good t (Ends (at full) never o) w → (v : Mark) → Ends r j o v → Ends r never o v
ends_still r j t w falls g v h = h
ends_still r j t w stops g v h = h
ends_still r j t w leaves g v h = absurd (good_never t w g)
ends_still r j t w again g v h = absurd (good_never t w g)

-- what never jumps where all is written never jumps
pub still : {a : Mark} {c : Command} {next jump : Claim} → Triple full c (at full) never → Triple a c next jump → Triple a c next never
still {a} {next = next} {jump = jump} n h = record {
  go = λ w p t o x. good_map a t (Ends next jump o) (Ends next never o) w p (λ v i. ends_still next jump t full o (n.go full ⊑_refl t o x) v) (h.go w p t o x);
}

-- One rule for each command

pub rule_skip : {a : Mark} {jump : Claim} → Triple a skip (at a) jump
rule_skip {a} {jump} = record { go = go }
  where
    go : (w : Mark) → a ⊑ w → (t : List PathEvent) (o : Ending) → Runs skip t o → Good t (Ends (at a) jump o) w
    go w p _ _ run_stop = tt
    go w p _ _ run_skip = p

rule_emit : (e : PathEvent) {a b : Mark} {jump : Claim} → ((w : Mark) → a ⊑ w → SafeEvent e w × (b ⊑ written_after e w)) → Triple a (emit e) (at b) jump
rule_emit e {a} {b} {jump} f = record { go = go }
  where
    go : (w : Mark) → a ⊑ w → (t : List PathEvent) (o : Ending) → Runs (emit e) t o → Good t (Ends (at b) jump o) w
    go w p _ _ run_stop = tt
    go w p _ _ run_emit = f w p
    go w p _ _ run_emit_stop = ((f w p).0, tt)

pub rule_write : {a : Mark} {jump : Claim} → Triple a (emit write) (at full) jump
rule_write = rule_emit write (λ w p. (tt, ⊑_refl))

pub rule_read : {a : Mark} {jump : Claim} → full ⊑ a → Triple a (emit read) (at a) jump
rule_read q = rule_emit read (λ w p. (⊑_trans q p, p))

pub rule_outside : {a : Mark} {jump : Claim} → full ⊑ a → Triple a (emit outside) (at a) jump
rule_outside q = rule_emit outside (λ w p. (⊑_trans q p, p))

pub rule_choice : (n : ℕ) {a : Mark} {jump : Claim} → Triple a (emit (choice n)) (at a) jump
rule_choice n = rule_emit (choice n) (λ w p. (tt, p))

rule_exit : (o : Ending) {a : Mark} (next jump : Claim) → ((w : Mark) → a ⊑ w → Ends next jump o w) → Triple a (exit o) next jump
rule_exit o {a} next jump f = record { go = go }
  where
    go : (w : Mark) → a ⊑ w → (t : List PathEvent) (o' : Ending) → Runs (exit o) t o' → Good t (Ends next jump o') w
    go w p _ _ run_stop = tt
    go w p _ _ run_exit = f w p

pub rule_stops : {a : Mark} {next jump : Claim} → Triple a (exit stops) next jump
rule_stops {next = next} {jump = jump} = rule_exit stops next jump (λ w p. tt)

pub rule_leaves : {a : Mark} {next : Claim} → Triple a (exit leaves) next (at a)
rule_leaves {a} {next} = rule_exit leaves next (at a) (λ w p. p)

pub rule_again : {a : Mark} {next : Claim} → Triple a (exit again) next (at a)
rule_again {a} {next} = rule_exit again next (at a) (λ w p. p)

-- one after the other, where the second keeps to its claims from wherever the first falls to
rule_then : {a : Mark} {c d : Command} (mid next jump : Claim) → Triple a c mid jump
    → ((v : Mark) → Holds mid v → (t : List PathEvent) (o : Ending) → Runs d t o → Good t (Ends next jump o) v)
    → Triple a (seq c d) next jump
rule_then {a} {c} {d} mid next jump h k = record { go = go }
  where
    go : (w : Mark) → a ⊑ w → (t : List PathEvent) (o : Ending) → Runs (seq c d) t o → Good t (Ends next jump o) w
    go w p _ _ run_stop = tt
    go w p _ _ (run_seq {s = s} {t = t} {o = o} x y) = good_append s t (Holds mid) (Ends next jump o) w (λ v i. k v i t o y) (h.go w p s falls x)
    go w p _ _ (run_off {s = s} {o = o} i x) = good_map a s (Ends mid jump o) (Ends next jump o) w p (λ v q. ends_elsewhere mid next jump v o i) (h.go w p s o x)

pub rule_seq : {a b : Mark} {c d : Command} {next jump : Claim} → Triple a c (at b) jump → Triple b d next jump → Triple a (seq c d) next jump
rule_seq {b = b} {next = next} {jump = jump} h k = rule_then (at b) next jump h k.go

-- what stands after a command that never falls is not run
pub rule_seq_never : {a : Mark} {c d : Command} {next jump : Claim} → Triple a c never jump → Triple a (seq c d) next jump
rule_seq_never {next = next} {jump = jump} h = rule_then never next jump h (λ v i. absurd i)

pub rule_alt : {a : Mark} {c d : Command} {next jump : Claim} → Triple a c next jump → Triple a d next jump → Triple a (alt c d) next jump
rule_alt {a} {c} {d} {next} {jump} h k = record { go = go }
  where
    go : (w : Mark) → a ⊑ w → (t : List PathEvent) (o : Ending) → Runs (alt c d) t o → Good t (Ends next jump o) w
    go w p _ _ run_stop = tt
    go w p _ _ (run_left {s = s} {o = o} x) = h.go w p s o x
    go w p _ _ (run_right {s = s} {o = o} x) = k.go w p s o x

star_go : {a : Mark} {c : Command} {jump : Claim} → Triple a c (at a) jump → (w : Mark) → a ⊑ w → (t : List PathEvent) (o : Ending) → Runs (star c) t o → Good t (Ends (at a) jump o) w
star_go h w p _ _ run_stop = tt
star_go h w p _ _ run_none = p
star_go h w p _ _ (run_more run_stop) = tt
star_go {a} {jump = jump} h w p _ _ (run_more (run_seq {s = s} {t = t} {o = o} x y)) =
    good_append s t (Holds (at a)) (Ends (at a) jump o) w (λ v q. star_go h v q t o y) (h.go w p s falls x)
star_go h w p _ _ (run_more (run_off {s = s} {o = o} i x)) = h.go w p s o x

-- what a round keeps, any number of rounds keeps
pub rule_star : {a : Mark} {c : Command} {jump : Claim} → Triple a c (at a) jump → Triple a (star c) (at a) jump
rule_star h = record { go = star_go h }

-- a jump that ends here must bring what is claimed of what stands next
rule_caught : (i : Jump) {a : Mark} {c : Command} {next jump : Claim} → jump ≽ next → Triple a c next jump → Triple a (catch i c) next jump
rule_caught i {a} {c} {next} {jump} q h = record { go = go }
  where
    go : (w : Mark) → a ⊑ w → (t : List PathEvent) (o : Ending) → Runs (catch i c) t o → Good t (Ends next jump o) w
    go w p _ _ run_stop = tt
    go w p _ _ (run_catch {s = s} {o = o} x) = good_map a s (Ends next jump o) (Ends next jump (caught i o)) w p (λ v y. ends_caught i next jump q v o) (h.go w p s o x)

-- where the same is claimed of what stands next and of jumps
pub rule_catch : (i : Jump) {a : Mark} {c : Command} {claim : Claim} → Triple a c claim claim → Triple a (catch i c) claim claim
rule_catch i {claim = claim} = rule_caught i (≽_refl claim)

-- where nothing jumps, a catch changes nothing
pub rule_catch_never : (i : Jump) {a : Mark} {c : Command} {next : Claim} → Triple a c next never → Triple a (catch i c) next never
rule_catch_never i = rule_caught i nowhere
