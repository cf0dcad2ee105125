-- In any order: the runs are those of every permutation and no others, however many there are; what is so of commands however they are
-- put together is so of them in any order; and the rules of triples. None of some commands needs what another leaves, which is why no
-- order does. By induction over how many are left to pick.
use mathlib.Core.Path.{◌≡◌, refl, sym, ap, ◌∙◌}
use mathlib.Core.Logic.{◌⊎◌, inl, inr, ⊎_elim}
use mathlib.Core.List.{List, [], ◌∷◌, ◌++◌}
use Prim.Native.Nat.{ℕ, zero, suc}
use native.Mathlib.Nat.{suc_inj, suc-ne-zero}
use lib.ListN.{length}
use Rattle.paths.specs.Each.{Each}
use Rattle.paths.specs.Marks.{Mark, ◌⊑◌}
use Rattle.paths.specs.Commands.{PathEvent, Ending, falls, Command, skip, seq, alt, Elsewhere, Runs, run_stop, run_seq, run_off, run_left, run_right}
use Rattle.paths.specs.Triples.{Claim, at, never, Ends, Good, Triple}
use Rattle.paths.specs.Semantics.{Order, row_order, free_order, InFreeOrder, not_asked, is_met}
use Rattle.paths.specs.AnyOrder.{in_turn, one_picked, picked, any_order, either_first}
use Rattle.paths.proofs.Rules.{lift, rule_skip, rule_seq, rule_alt}
use Rattle.paths.proofs.Listed.{each_imply}
use Rattle.paths.proofs.Within.{Within, within_refl, within_seq, within_left, within_right}

-- Permutations

-- one of a list, and the others
pub data Picked {A : Type 0} (c : A) : List A → List A → Type 0 where
  this_one : {cs : List A} → Picked c (c ∷ cs) cs
  a_later : {b d : A} {ds others : List A} → Picked c (d ∷ ds) others → Picked c (b ∷ d ∷ ds) (b ∷ others)

-- the second list is the first in some order
pub data Permuted {A : Type 0} : List A → List A → Type 0 where
  all_picked : Permuted [] []
  then_one : {c : A} {cs others ds : List A} → Picked c cs others → Permuted others ds → Permuted cs (c ∷ ds)

module _ {A : Type 0} where
  pub as_they_stand : (cs : List A) → Permuted cs cs
  as_they_stand [] = all_picked
  as_they_stand (c ∷ cs) = then_one this_one (as_they_stand cs)

  one_fewer : {c : A} {cs others : List A} → Picked c cs others → length cs ≡ suc (length others)
  one_fewer this_one = refl
  one_fewer (a_later p) = ap suc (one_fewer p)

-- Every permutation is run

pick_within : {c d b : Command} {cs others : List Command} (go_on : List Command → Command) → Picked d (b ∷ cs) others → Within c (go_on others) → Within (seq d c) (one_picked go_on b cs)
pick_within {cs = []} go_on this_one w = within_seq within_refl w
pick_within {cs = e ∷ cs} go_on this_one w = within_left (within_seq within_refl w)
pick_within {b} go_on (a_later p) w = within_right (pick_within (λ others. go_on (b ∷ others)) p w)

picked_within : (n : ℕ) {cs ds : List Command} → length cs ≡ n → Permuted cs ds → Within (in_turn ds) (picked n cs)
picked_within zero e all_picked = within_refl
picked_within zero e (then_one p q) = absurd (suc-ne-zero _ (sym (one_fewer p) ∙ e))
picked_within (suc n) e all_picked = within_refl
picked_within (suc n) {cs = b ∷ cs} e (then_one p q) = pick_within (λ others. picked n others) p (picked_within n (suc_inj (sym (one_fewer p) ∙ e)) q)
picked_within (suc n) {cs = []} e (then_one {c = c} {others = others} {ds = ds} p q) = elim p [ ]

pub every_order : {cs ds : List Command} → Permuted cs ds → Within (in_turn ds) (any_order cs)
unfolding any_order
every_order {cs} p = picked_within (length cs) refl p

-- and nothing else

data PickedRun (go_on : List Command → Command) (cs : List Command) (t : List PathEvent) (o : Ending) : Type 0 where
  picks : {c : Command} {others : List Command} → Picked c cs others → Runs (seq c (go_on others)) t o → PickedRun go_on cs t o

picked_run : (go_on : List Command → Command) (c : Command) (cs : List Command) (t : List PathEvent) (o : Ending) → Runs (one_picked go_on c cs) t o → PickedRun go_on (c ∷ cs) t o
picked_run go_on c [] t o r = picks this_one r
picked_run go_on c (d ∷ ds) _ _ run_stop = picks this_one run_stop
picked_run go_on c (d ∷ ds) t o (run_left r) = picks this_one r
picked_run go_on c (d ∷ ds) t o (run_right r) = later (picked_run (λ others. go_on (c ∷ others)) d ds t o r)
  where
    later : PickedRun (λ others. go_on (c ∷ others)) (d ∷ ds) t o → PickedRun go_on (c ∷ d ∷ ds) t o
    later (picks p r) = picks (a_later p) r

-- a run of these in some order
pub data InSomeOrder (cs : List Command) (t : List PathEvent) (o : Ending) : Type 0 where
  in_order_of : (ds : List Command) → Permuted cs ds → Runs (in_turn ds) t o → InSomeOrder cs t o

-- one first, then the others in some order
first_then : {c d : Command} {cs others : List Command} → Picked d (c ∷ cs) others → (next : Command) → ((t : List PathEvent) (o : Ending) → Runs next t o → InSomeOrder others t o) → (t : List PathEvent) (o : Ending) → Runs (seq d next) t o → InSomeOrder (c ∷ cs) t o
first_then {c} {cs = cs} p next f _ _ run_stop = in_order_of (c ∷ cs) (as_they_stand (c ∷ cs)) run_stop
first_then {d = d} {others = others} p next f t o (run_off i x) = in_order_of (d ∷ others) (then_one p (as_they_stand others)) (run_off i x)
first_then {c} {d} {cs} {others} p next f _ _ (run_seq {s = s} {t = t} {o = o} x y) = joined (f t o y)
  where
    joined : InSomeOrder others t o → InSomeOrder (c ∷ cs) (s ++ t) o
    joined (in_order_of ds q z) = in_order_of (d ∷ ds) (then_one p q) (run_seq x z)

some_order : (n : ℕ) (cs : List Command) (t : List PathEvent) (o : Ending) → Runs (picked n cs) t o → InSomeOrder cs t o
some_order zero cs t o r = in_order_of cs (as_they_stand cs) r
some_order (suc n) [] t o r = in_order_of [] all_picked r
some_order (suc n) (c ∷ cs) t o r = chosen (some_order n) (picked_run (λ others. picked n others) c cs t o r)
  where
    chosen : ((ds : List Command) (u : List PathEvent) (e : Ending) → Runs (picked n ds) u e → InSomeOrder ds u e) → PickedRun (λ others. picked n others) (c ∷ cs) t o → InSomeOrder (c ∷ cs) t o
    chosen f (picks {others = others} p x) = first_then p (picked n others) (f others) t o x

pub only_orders : (cs : List Command) (t : List PathEvent) (o : Ending) → Runs (any_order cs) t o → InSomeOrder cs t o
unfolding any_order
only_orders cs t o r = some_order (length cs) cs t o r

-- the runs of a command are those of these commands, each once and whole, in whatever order
pub record InAnyOrder (cs : List Command) (c : Command) : Type 0 where
  pub each : (ds : List Command) → Permuted cs ds → Within (in_turn ds) c
  pub only : (t : List PathEvent) (o : Ending) → Runs c t o → InSomeOrder cs t o

pub in_any_order : (cs : List Command) → InAnyOrder cs (any_order cs)
in_any_order cs = record { each = λ ds p. every_order p; only = only_orders cs }

-- and then another
pub data InSomeOrderThen (cs : List Command) (d : Command) (t : List PathEvent) (o : Ending) : Type 0 where
  in_order_then : (ds : List Command) → Permuted cs ds → Runs (seq (in_turn ds) d) t o → InSomeOrderThen cs d t o

pub record InAnyOrderThen (cs : List Command) (d c : Command) : Type 0 where
  pub each : (ds : List Command) → Permuted cs ds → Within (seq (in_turn ds) d) c
  pub only : (t : List PathEvent) (o : Ending) → Runs c t o → InSomeOrderThen cs d t o

pub in_any_order_then : (cs : List Command) (d : Command) → InAnyOrderThen cs d (seq (any_order cs) d)
in_any_order_then cs d = record { each = λ ds p. within_seq (every_order p) within_refl; only = only }
  where
    off : {s : List PathEvent} {o : Ending} → Elsewhere o → InSomeOrder cs s o → InSomeOrderThen cs d s o
    off i (in_order_of ds p y) = in_order_then ds p (run_off i y)

    next : {s t : List PathEvent} {o : Ending} → InSomeOrder cs s falls → Runs d t o → InSomeOrderThen cs d (s ++ t) o
    next (in_order_of ds p y) z = in_order_then ds p (run_seq y z)

    only : (t : List PathEvent) (o : Ending) → Runs (seq (any_order cs) d) t o → InSomeOrderThen cs d t o
    only _ _ run_stop = in_order_then cs (as_they_stand cs) run_stop
    only _ _ (run_off {s = s} {o = o} i x) = off i (only_orders cs s o x)
    only _ _ (run_seq {s = s} x y) = next (only_orders cs s falls x) y

-- However commands are put together

-- what is so of commands is so of them one after the other and as alternatives
pub record Composes (P : Command → Type 0) : Type 0 where
  pub none : P skip
  pub both : {c d : Command} → P c → P d → P (seq c d)
  pub one_of : {c d : Command} → P c → P d → P (alt c d)

module _ (P : Command → Type 0) (of : Composes P) where
  in_turn_of : (cs : List Command) → Each P cs → P (in_turn cs)
  in_turn_of [] h = of.none
  in_turn_of (c ∷ cs) h = of.both h.0 (in_turn_of cs h.1)

  one_picked_of : (go_on : List Command → Command) → ((ds : List Command) → Each P ds → P (go_on ds)) → (c : Command) (cs : List Command) → P c → Each P cs → P (one_picked go_on c cs)
  one_picked_of go_on f c [] h hs = of.both h (f [] tt)
  one_picked_of go_on f c (d ∷ ds) h hs = of.one_of (of.both h (f (d ∷ ds) hs)) (one_picked_of (λ others. go_on (c ∷ others)) (λ es ks. f (c ∷ es) (h, ks)) d ds hs.0 hs.1)

  picked_of : (n : ℕ) (cs : List Command) → Each P cs → P (picked n cs)
  picked_of zero cs h = in_turn_of cs h
  picked_of (suc n) [] h = of.none
  picked_of (suc n) (c ∷ cs) h = one_picked_of (λ others. picked n others) (picked_of n) c cs h.0 h.1

  pub any_order_of : (cs : List Command) → Each P cs → P (any_order cs)
  unfolding any_order
  any_order_of cs h = picked_of (length cs) cs h

-- what is asked in free order alone
pub in_free : {P Q : Type 0} {o : Order} → (P → Q) → InFreeOrder P o → InFreeOrder Q o
in_free f not_asked = not_asked
in_free f (is_met p) = is_met (f p)

-- Triples

-- each keeps what is written
abbrev pub Keeps : Mark → Command → Type 0
Keeps a c = Triple a c (at a) never

keeps_composes : (a : Mark) → Composes (Keeps a)
keeps_composes a = record { none = rule_skip; both = rule_seq; one_of = rule_alt }

pub rule_any_order : {a : Mark} (cs : List Command) → Each (Keeps a) cs → Keeps a (any_order cs)
rule_any_order {a} cs h = any_order_of (Keeps a) (keeps_composes a) cs h

-- from the orders one by one
any_order_by : {a : Mark} {next jump : Claim} (cs : List Command) → ((ds : List Command) → Permuted cs ds → Triple a (in_turn ds) next jump) → Triple a (any_order cs) next jump
any_order_by {a} {next} {jump} cs f = record { go = λ w h t o x. of w h t o (only_orders cs t o x) }
  where
    of : (w : Mark) → a ⊑ w → (t : List PathEvent) (o : Ending) → InSomeOrder cs t o → Good t (Ends next jump o) w
    of w h t o (in_order_of ds p x) = (f ds p).go w h t o x

module _ {A : Type 0} (P : A → Type 0) where
  -- one of a list
  pub data OneOf : List A → Type 0 where
    the_first : {c : A} {cs : List A} → P c → OneOf (c ∷ cs)
    one_later : {c : A} {cs : List A} → OneOf cs → OneOf (c ∷ cs)

  each_picked : {c : A} {cs others : List A} → Picked c cs others → Each P cs → P c × Each P others
  each_picked this_one h = h
  each_picked (a_later p) h = let k = each_picked p h.1 in (k.0, (h.0, k.1))

  each_permuted : {cs ds : List A} → Permuted cs ds → Each P cs → Each P ds
  each_permuted all_picked h = tt
  each_permuted (then_one p q) h = let k = each_picked p h in (k.0, each_permuted q k.1)

  -- it is the picked one, or one of the others
  one_picked_lem : {c : A} {cs others : List A} → Picked c cs others → OneOf cs → P c ⊎ OneOf others
  one_picked_lem this_one (the_first h) = inl h
  one_picked_lem this_one (one_later h) = inr h
  one_picked_lem (a_later p) (the_first h) = inr (the_first h)
  one_picked_lem (a_later p) (one_later h) = ⊎_elim inl (λ k. inr (one_later k)) (one_picked_lem p h)

module _ {a b : Mark} (p : a ⊑ b) where
  abbrev Gains : Command → Type 0
  Gains c = Triple a c (at b) never

  gains_in_turn : {cs ds : List Command} → Permuted cs ds → Each (Keeps a) cs → OneOf Gains cs → Gains (in_turn ds)
  gains_in_turn (then_one {c = c} {others = others} {ds = ds} q r) h g =
      let k = each_picked (Keeps a) q h in
      ⊎_elim (λ i. rule_seq i (in_turn_of (Keeps b) (keeps_composes b) ds (each_imply (Keeps a) (Keeps b) (λ d. lift p) ds (each_permuted (Keeps a) r k.1)))) (λ i. rule_seq k.0 (gains_in_turn r k.1 i))
      (one_picked_lem Gains q g)
  gains_in_turn all_picked h g = elim g [ ]

  pub rule_any_gains : (cs : List Command) → Each (Keeps a) cs → OneOf Gains cs → Gains (any_order cs)
  rule_any_gains cs h g = any_order_by cs (λ ds q. gains_in_turn q h g)

-- Two

module _ {a : Mark} {c d : Command} where
  pub rule_either_first : (o : Order) → Keeps a c → Keeps a d → Keeps a (either_first o c d)
  rule_either_first row_order h k = rule_seq h k
  rule_either_first free_order h k = rule_alt (rule_seq h k) (rule_seq k h)

  pub rule_first_gains : (o : Order) {b : Mark} → a ⊑ b → Triple a c (at b) never → Keeps a d → Triple a (either_first o c d) (at b) never
  rule_first_gains row_order p h k = rule_seq h (lift p k)
  rule_first_gains free_order p h k = rule_alt (rule_seq h (lift p k)) (rule_seq k h)

  pub rule_second_gains : (o : Order) {b : Mark} → a ⊑ b → Keeps a c → Triple a d (at b) never → Triple a (either_first o c d) (at b) never
  rule_second_gains row_order p h k = rule_seq h k
  rule_second_gains free_order p h k = rule_alt (rule_seq h k) (rule_seq k (lift p h))
