-- The complete runs of a command, listed: what a theorem about all runs cannot notice is missing, a list of runs shows. Each that is
-- listed is a run, by induction over the command; each run of a command without loops is listed, by induction over the run.
use mathlib.Core.Path.{◌≡◌, refl, sym, ap, subst, ◌∙◌}
use mathlib.Core.Logic.{◌⊎◌, inl, inr, ⊎_elim}
use mathlib.Core.Bool.{Bool, true, false, ◌&&◌, ◌||◌}
use mathlib.Core.List.{List, [], ◌∷◌, ◌++◌, map}
use lib.Dec.{eqb}
use borrow.Author.Tests.{eqb-true}
use Rattle.table.specs.Fold.{nth, tail}
use Rattle.kinds.proofs.Below.{both_true, true_not_false}
use Prim.Native.Nat.{ℕ, zero, suc}
use Rattle.paths.specs.Each.{Each}
use Rattle.paths.specs.Commands.{PathEvent, read, write, outside, choice, Ending, falls, stops, leaves, again, Jump, out_of_loop, out_of_round, Command, skip, emit, exit, seq, alt, star, catch, caught, Elsewhere, Runs, run_stop, run_skip, run_emit, run_emit_stop, run_exit, run_seq, run_off, run_left, run_right, run_none, run_more, run_catch}

-- what happens, and how it ends
abbrev pub Run : Type 0
Run = List PathEvent × Ending

abbrev pub IsRun : Command → Run → Type 0
IsRun c r = Runs c r.0 r.1

-- what stands next is run after a run that falls
unfoldable pub followed : List PathEvent → Ending → List Run → List Run
followed s falls next = map (λ r. (s ++ r.0, r.1)) next
followed s stops next = (s, stops) ∷ []
followed s leaves next = (s, leaves) ∷ []
followed s again next = (s, again) ∷ []

unfoldable pub each_followed : List Run → List Run → List Run
each_followed [] next = []
each_followed (r ∷ rs) next = followed r.0 r.1 next ++ each_followed rs next

-- at most n rounds
unfoldable pub rounds : ℕ → List Run → List Run
rounds zero rs = ([], falls) ∷ []
rounds (suc n) rs = ([], falls) ∷ each_followed rs (rounds n rs)

-- The runs of a command that were not cut short, with at most n rounds of each loop; of alternatives, those of the first
-- come first.
unfoldable pub listed : ℕ → Command → List Run
listed n skip = ([], falls) ∷ []
listed n (emit e) = (e ∷ [], falls) ∷ []
listed n (exit o) = ([], o) ∷ []
listed n (seq c d) = each_followed (listed n c) (listed n d)
listed n (alt c d) = listed n c ++ listed n d
listed n (star c) = rounds n (listed n c)
listed n (catch j c) = map (λ r. (r.0, caught j r.1)) (listed n c)

-- Each is a run

module _ {A : Type 0} where
  pub each_append : (P : A → Type 0) (xs ys : List A) → Each P xs → Each P ys → Each P (xs ++ ys)
  each_append P [] ys h k = k
  each_append P (x ∷ xs) ys h k = (h.0, each_append P xs ys h.1 k)

  pub each_parts : (P : A → Type 0) (xs ys : List A) → Each P (xs ++ ys) → Each P xs × Each P ys
  each_parts P [] ys h = (tt, h)
  each_parts P (x ∷ xs) ys h = let k = each_parts P xs ys h.1 in ((h.0, k.0), k.1)

  pub each_imply : (P Q : A → Type 0) → ((x : A) → P x → Q x) → (xs : List A) → Each P xs → Each Q xs
  each_imply P Q f [] h = tt
  each_imply P Q f (x ∷ xs) h = (f x h.0, each_imply P Q f xs h.1)

  pub each_map : {B : Type 0} (P : A → Type 0) (Q : B → Type 0) (g : A → B) → ((x : A) → P x → Q (g x)) → (xs : List A) → Each P xs → Each Q (map g xs)
  each_map P Q g f [] h = tt
  each_map P Q g f (x ∷ xs) h = (f x h.0, each_map P Q g f xs h.1)

-- what is so of each list that is shown is so of each that is expected, where the two are the same
pub each_expected : {A : Type 0} (P : A → List Run → Type 0) (shown expected : A → List Run) → ((a : A) → P a (shown a)) → (cs : List A) → map shown cs ≡ map expected cs → Each (λ c. P c (expected c)) cs
each_expected P shown expected h [] e = tt
each_expected P shown expected h (c ∷ cs) e = (subst (P c) (ap (nth [] 0) e) (h c), each_expected P shown expected h cs (ap tail e))

module _ (c d : Command) (next : List Run) (k : Each (IsRun d) next) where
  followed_run : (s : List PathEvent) (o : Ending) → Runs c s o → Each (IsRun (seq c d)) (followed s o next)
  unfolding followed
  followed_run s falls x = each_map (IsRun d) (IsRun (seq c d)) (λ r. (s ++ r.0, r.1)) (λ r y. run_seq x y) next k
  followed_run s stops x = (run_off tt x, tt)
  followed_run s leaves x = (run_off tt x, tt)
  followed_run s again x = (run_off tt x, tt)

  each_followed_run : (rs : List Run) → Each (IsRun c) rs → Each (IsRun (seq c d)) (each_followed rs next)
  unfolding each_followed
  each_followed_run [] h = tt
  each_followed_run (r ∷ rs) h = each_append (IsRun (seq c d)) (followed r.0 r.1 next) (each_followed rs next) (followed_run r.0 r.1 h.0) (each_followed_run rs h.1)

rounds_run : (c : Command) (n : ℕ) (rs : List Run) → Each (IsRun c) rs → Each (IsRun (star c)) (rounds n rs)
unfolding rounds
rounds_run c zero rs h = (run_none, tt)
rounds_run c (suc n) rs h = (
  run_none,
  each_imply (IsRun (seq c (star c))) (IsRun (star c)) (λ r. run_more) (each_followed rs (rounds n rs))
      (each_followed_run c (star c) (rounds n rs) (rounds_run c n rs h) rs h),
)

-- everything that is listed is a run
pub listed_run : (n : ℕ) (c : Command) → Each (IsRun c) (listed n c)
unfolding listed
listed_run n skip = (run_skip, tt)
listed_run n (emit e) = (run_emit, tt)
listed_run n (exit o) = (run_exit, tt)
listed_run n (seq c d) = each_followed_run c d (listed n d) (listed_run n d) (listed n c) (listed_run n c)
listed_run n (alt c d) =
    each_append (IsRun (alt c d)) (listed n c) (listed n d)
    (each_imply (IsRun c) (IsRun (alt c d)) (λ r. run_left) (listed n c) (listed_run n c))
    (each_imply (IsRun d) (IsRun (alt c d)) (λ r. run_right) (listed n d) (listed_run n d))
listed_run n (star c) = rounds_run c n (listed n c) (listed_run n c)
listed_run n (catch j c) = each_map (IsRun c) (IsRun (catch j c)) (λ r. (r.0, caught j r.1)) (λ r. run_catch) (listed n c) (listed_run n c)

-- Each run is listed

-- commands without loops
unfoldable pub loopless : Command → Bool
loopless skip = true
loopless (emit e) = true
loopless (exit o) = true
loopless (seq c d) = loopless c && loopless d
loopless (alt c d) = loopless c && loopless d
loopless (catch j c) = loopless c
loopless (star c) = false

-- an ending that no run has that was cut short
abbrev pub Settled : Ending → Type 0
Settled falls = Unit
Settled stops = ⊥
Settled leaves = Unit
Settled again = Unit

pub data Among {A : Type 0} (a : A) : List A → Type 0 where
  at_first : {xs : List A} → Among a (a ∷ xs)
  at_later : {x : A} {xs : List A} → Among a xs → Among a (x ∷ xs)

module _ {A : Type 0} {a : A} where
  among_left : {xs : List A} (ys : List A) → Among a xs → Among a (xs ++ ys)
  among_left ys at_first = at_first
  among_left ys (at_later h) = at_later (among_left ys h)

  among_right : (xs : List A) {ys : List A} → Among a ys → Among a (xs ++ ys)
  among_right [] h = h
  among_right (x ∷ xs) h = at_later (among_right xs h)

  among_map : {B : Type 0} (g : A → B) {xs : List A} → Among a xs → Among (g a) (map g xs)
  among_map g at_first = at_first
  among_map g (at_later h) = at_later (among_map g h)

among_followed : (s t : List PathEvent) (o : Ending) {rs next : List Run} → Among (s, falls) rs → Among (t, o) next → Among (s ++ t, o) (each_followed rs next)
unfolding each_followed followed
among_followed s t o {next = next} (at_first {xs = rs}) k = among_left (each_followed rs next) (among_map (λ r. (s ++ r.0, r.1)) k)
among_followed s t o {next = next} (at_later {x = r} h) k = among_right (followed r.0 r.1 next) (among_followed s t o h k)

followed_off : (s : List PathEvent) (o : Ending) (next : List Run) → Elsewhere o → Among (s, o) (followed s o next)
unfolding followed
followed_off s falls next i = absurd i
followed_off s stops next i = at_first
followed_off s leaves next i = at_first
followed_off s again next i = at_first

among_off : (s : List PathEvent) (o : Ending) (next : List Run) {rs : List Run} → Elsewhere o → Among (s, o) rs → Among (s, o) (each_followed rs next)
unfolding each_followed
among_off s o next i (at_first {xs = rs}) = among_left (each_followed rs next) (followed_off s o next i)
among_off s o next i (at_later {x = r} h) = among_right (followed r.0 r.1 next) (among_off s o next i h)

-- a catch settles nothing
settled_inside : (j : Jump) (o : Ending) → Settled (caught j o) → Settled o
settled_inside out_of_loop falls h = tt
settled_inside out_of_loop stops h = h
settled_inside out_of_loop leaves h = tt
settled_inside out_of_loop again h = tt
settled_inside out_of_round falls h = tt
settled_inside out_of_round stops h = h
settled_inside out_of_round leaves h = tt
settled_inside out_of_round again h = tt

-- every run of such a command that was not cut short is listed
pub all_listed : (n : ℕ) {c : Command} {t : List PathEvent} {o : Ending} → loopless c ≡ true → Settled o → Runs c t o → Among (t, o) (listed n c)
unfolding listed loopless
all_listed n q e run_stop = absurd e
all_listed n q e run_skip = at_first
all_listed n q e run_emit = at_first
all_listed n q e run_emit_stop = absurd e
all_listed n q e run_exit = at_first
all_listed n q e (run_seq {c = c} {d = d} {s = s} {t = t} {o = o} x y) =
    let b = both_true (loopless c) (loopless d) q in
    among_followed s t o (all_listed n b.0 tt x) (all_listed n b.1 e y)
all_listed n q e (run_off {c = c} {d = d} {s = s} {o = o} i x) = among_off s o (listed n d) i (all_listed n (both_true (loopless c) (loopless d) q).0 e x)
all_listed n q e (run_left {c = c} {d = d} x) = among_left (listed n d) (all_listed n (both_true (loopless c) (loopless d) q).0 e x)
all_listed n q e (run_right {c = c} {d = d} x) = among_right (listed n c) (all_listed n (both_true (loopless c) (loopless d) q).1 e x)
all_listed n q e run_none = true_not_false (sym q)
all_listed n q e (run_more x) = true_not_false (sym q)
all_listed n q e (run_catch {j = j} {o = o} x) = among_map (λ r. (r.0, caught j r.1)) (all_listed n q (settled_inside j o e) x)

-- Lists with the same members, whatever their order and however often each

-- an event and an ending as numbers, and back
abbrev event_number : PathEvent → ℕ
event_number read = 0
event_number write = 1
event_number outside = 2
event_number (choice n) = suc (suc (suc n))

abbrev event_of : ℕ → PathEvent
event_of zero = read
event_of (suc zero) = write
event_of (suc (suc zero)) = outside
event_of (suc (suc (suc n))) = choice n

event_back : (e : PathEvent) → event_of (event_number e) ≡ e
event_back read = refl
event_back write = refl
event_back outside = refl
event_back (choice n) = refl

abbrev ending_number : Ending → ℕ
ending_number falls = 0
ending_number stops = 1
ending_number leaves = 2
ending_number again = 3

abbrev ending_of : ℕ → Ending
ending_of n = nth again n (falls ∷ stops ∷ leaves ∷ [])

ending_back : (o : Ending) → ending_of (ending_number o) ≡ o
ending_back falls = refl
ending_back stops = refl
ending_back leaves = refl
ending_back again = refl

-- the two runs are the same
unfoldable pub same_events : List PathEvent → List PathEvent → Bool
same_events [] [] = true
same_events [] (e ∷ t) = false
same_events (d ∷ s) [] = false
same_events (d ∷ s) (e ∷ t) = eqb (event_number d) (event_number e) && same_events s t

unfoldable pub same_run : Run → Run → Bool
same_run r q = eqb (ending_number r.1) (ending_number q.1) && same_events r.0 q.0

-- one of these is; all of the first are among the second; and the other way round
unfoldable pub is_among : Run → List Run → Bool
is_among r [] = false
is_among r (q ∷ qs) = same_run q r || is_among r qs

unfoldable pub all_among : List Run → List Run → Bool
all_among [] qs = true
all_among (r ∷ rs) qs = is_among r qs && all_among rs qs

unfoldable pub same_runs : List Run → List Run → Bool
same_runs rs qs = all_among rs qs && all_among qs rs

same_number : (d e : PathEvent) → eqb (event_number d) (event_number e) ≡ true → d ≡ e
same_number d e h = sym (event_back d) ∙ ap event_of (eqb-true (event_number d) (event_number e) h) ∙ event_back e

same_events_lem : (s t : List PathEvent) → same_events s t ≡ true → s ≡ t
unfolding same_events
same_events_lem [] [] h = refl
same_events_lem [] (e ∷ t) h = true_not_false (sym h)
same_events_lem (d ∷ s) [] h = true_not_false (sym h)
same_events_lem (d ∷ s) (e ∷ t) h = let b = both_true (eqb (event_number d) (event_number e)) (same_events s t) h in rw (same_number d e b.0, same_events_lem s t b.1)

same_run_lem : (r q : Run) → same_run r q ≡ true → r ≡ q
unfolding same_run
same_run_lem r q h =
    let b = both_true (eqb (ending_number r.1) (ending_number q.1)) (same_events r.0 q.0) h in
    let o : r.1 ≡ q.1 = sym (ending_back r.1) ∙ ap ending_of (eqb-true (ending_number r.1) (ending_number q.1) b.0) ∙ ending_back q.1 in
    ap (λ t. (t, r.1)) (same_events_lem r.0 q.0 b.1) ∙ ap (λ o. (q.0, o)) o

either_true : (b c : Bool) → b || c ≡ true → (b ≡ true) ⊎ (c ≡ true)
either_true true c h = inl refl
either_true false c h = inr h

is_among_lem : (r : Run) (qs : List Run) → is_among r qs ≡ true → Among r qs
unfolding is_among
is_among_lem r [] h = true_not_false (sym h)
is_among_lem r (q ∷ qs) h = ⊎_elim (λ e. subst (λ p. Among p (q ∷ qs)) (same_run_lem q r e) at_first) (λ e. at_later (is_among_lem r qs e)) (either_true (same_run q r) (is_among r qs) h)

all_among_lem : (rs qs : List Run) → all_among rs qs ≡ true → Each (λ r. Among r qs) rs
unfolding all_among
all_among_lem [] qs h = tt
all_among_lem (r ∷ rs) qs h = let b = both_true (is_among r qs) (all_among rs qs) h in (is_among_lem r qs b.0, all_among_lem rs qs b.1)

-- what is so of each member of the one is so of each of the other
each_among : {A : Type 0} (P : A → Type 0) {a : A} (xs : List A) → Among a xs → Each P xs → P a
each_among P (x ∷ xs) at_first h = h.0
each_among P (x ∷ xs) (at_later k) h = each_among P xs k h.1
each_among {A = A} P {a = a} [] x'' h = elim x'' [ ]

module _ (rs qs : List Run) (e : same_runs rs qs ≡ true) where
  same_parts : (all_among rs qs ≡ true) × (all_among qs rs ≡ true)
  unfolding same_runs
  same_parts = both_true (all_among rs qs) (all_among qs rs) e

  pub same_each : (P : Run → Type 0) → Each P rs → Each P qs
  same_each P h = each_imply (λ r. Among r rs) P (λ r k. each_among P rs k h) qs (all_among_lem qs rs same_parts.1)

  pub same_among : (r : Run) → Among r rs → Among r qs
  same_among r k = each_among (λ q. Among q qs) rs k (all_among_lem rs qs same_parts.0)

-- of lists that are compared one by one
pub each_same : {A : Type 0} (P : A → List Run → Type 0) (shown expected : A → List Run) → ((a : A) → same_runs (shown a) (expected a) ≡ true → P a (expected a)) → (cs : List A) → map (λ c. same_runs (shown c) (expected c)) cs ≡ map (λ c. true) cs → Each (λ c. P c (expected c)) cs
each_same P shown expected f [] e = tt
each_same P shown expected f (c ∷ cs) e = (f c (ap (nth true 0) e), each_same P shown expected f cs (ap tail e))
