-- Whatever comes out unknown by choices alone can come out true so, and false, and some choice of it was unknown: by induction over
-- the forms of a row. A free truth is chosen anew; of && the operand that was unknown is. || is && of the opposites.
use mathlib.Core.Path.{refl}
use mathlib.Core.Logic.{◌⊎◌, inl, inr, ⊎_elim}
use mathlib.Core.Bool.{Bool, true, false, cond}
use mathlib.Core.List.{List, [], ◌∷◌, ◌++◌}
use Prim.Native.Nat.{ℕ, zero, suc}
use lib.Dec.{eqb}
use Rattle.table.specs.Rows.{Forest, nil, node}
use Rattle.table.specs.Fold.{fold, nth}
use Rattle.kinds.specs.declared.ExprClass.{ExprClass}
use Rattle.kinds.specs.declared.ExprClass.TheVariants.{Ident, Call, Lident, Opaque, Event, Unary, Binary, Ternary, Paren, Other}
use Rattle.kinds.specs.Named.{expr_class}
use Rattle.paths.specs.Commands.{PathEvent, choice, falls, Command, emit, seq, alt, Runs, run_emit, run_seq, run_off, run_left, run_right}
use Rattle.paths.specs.Semantics.{Semantics}
use Rattle.paths.specs.Evaluation.{is_true, is_unknown, opposite, Evaluation, free, asked, not_false, both, either, no_evaluation, evaluation_of, evaluation_at, evaluations}
use Rattle.paths.specs.Each.{Each}
use Rattle.paths.specs.Unknown.{IsChoice, NotUnknown, Idles, UnknownLaw}
use Rattle.paths.proofs.Listed.{each_append, each_parts}

-- Runs that fall

-- of two commands one after the other both have fallen
pub data BothFall (c d : Command) : List PathEvent → Type 0 where
  fell : {s t : List PathEvent} → Runs c s falls → Runs d t falls → BothFall c d (s ++ t)

pub both_fall : {c d : Command} (t : List PathEvent) → Runs (seq c d) t falls → BothFall c d t
both_fall _ (run_seq x y) = fell x y
both_fall _ (run_off e x) = absurd e

-- of two alternatives one has
pub one_falls : {c d : Command} (t : List PathEvent) → Runs (alt c d) t falls → Runs c t falls ⊎ Runs d t falls
one_falls t (run_left x) = inl x
one_falls t (run_right x) = inr x

-- Choices alone

module _ {c d : Command} where
  idles_then : Idles c → Idles d → Idles (seq c d)
  idles_then p q = record { events = p.events ++ q.events; idle = each_append IsChoice p.events q.events p.idle q.idle; runs = run_seq p.runs q.runs }

  idles_left : Idles c → Idles (alt c d)
  idles_left p = record { events = p.events; idle = p.idle; runs = run_left p.runs }

  idles_right : Idles d → Idles (alt c d)
  idles_right p = record { events = p.events; idle = p.idle; runs = run_right p.runs }

  idle_parts : Idles (seq c d) → Idles c × Idles d
  idle_parts p = go p.events p.idle (both_fall p.events p.runs)
    where
      go : (t : List PathEvent) → Each IsChoice t → BothFall c d t → Idles c × Idles d
      go _ i (fell {s = s} {t = t} x y) =
          let h = each_parts IsChoice s t i in
          (record { events = s; idle = h.0; runs = x }, record { events = t; idle = h.1; runs = y })

  one_idles : Idles (alt c d) → Idles c ⊎ Idles d
  one_idles p =
      ⊎_elim (λ x. inl (record { events = p.events; idle = p.idle; runs = x })) (λ x. inr (record { events = p.events; idle = p.idle; runs = x }))
      (one_falls p.events p.runs)

-- a choice of any number
chosen : (n : ℕ) → Idles (emit (choice n))
chosen n = record { events = choice n ∷ []; idle = (tt, tt); runs = run_emit }

-- The forms

unknown_free : {c : Command} → UnknownLaw (free c)
unknown_free {c} = record { as_true = λ p. idles_then (idle_parts p).0 (chosen 1); as_false = λ p. idles_then (idle_parts p).0 (chosen 0); by_choice = λ t k x. go t k (both_fall t x) }
  where
    go : (t : List PathEvent) → Each NotUnknown t → BothFall c (emit (choice 2)) t → ⊥
    go _ k (fell {s = s} x run_emit) = (each_parts NotUnknown s (choice 2 ∷ []) k).1.0 refl

pub unknown_not : {e : Evaluation} → UnknownLaw e → UnknownLaw (asked (λ t. e.truth (opposite t)))
unknown_not h = record { as_true = h.as_false; as_false = h.as_true; by_choice = h.by_choice }

module _ {l r : Evaluation} (h : UnknownLaw l) (k : UnknownLaw r) where
  right_true : Idles (not_false r) → Idles (r.truth is_true)
  right_true q = ⊎_elim (λ p. p) k.as_true (one_idles q)

  and_by_choice : (t : List PathEvent) → Each NotUnknown t → Runs (both l r is_unknown) t falls → ⊥
  and_by_choice t q x = ⊎_elim (λ y. in_right t q (both_fall t y)) (λ y. in_left t q (both_fall t y)) (one_falls t x)
    where
      in_right : (t : List PathEvent) → Each NotUnknown t → BothFall (l.truth is_true) (r.truth is_unknown) t → ⊥
      in_right _ q (fell {s = s} {t = t} x y) = k.by_choice t (each_parts NotUnknown s t q).1 y

      in_left : (t : List PathEvent) → Each NotUnknown t → BothFall (l.truth is_unknown) (not_false r) t → ⊥
      in_left _ q (fell {s = s} {t = t} x y) = h.by_choice s (each_parts NotUnknown s t q).0 x

  pub unknown_and : UnknownLaw (asked (both l r))
  unknown_and = record {
    as_true = λ p.
        ⊎_elim (λ q. idles_then (idle_parts q).0 (k.as_true (idle_parts q).1)) (λ q. idles_then (h.as_true (idle_parts q).0) (right_true (idle_parts q).1))
        (one_idles p);
    as_false = λ p.
        ⊎_elim (λ q. idles_right (idles_then (idles_left (idle_parts q).0) (k.as_false (idle_parts q).1))) (λ q. idles_left (h.as_false (idle_parts q).0))
        (one_idles p);
    by_choice = and_by_choice;
  }

unknown_or : {l r : Evaluation} → UnknownLaw l → UnknownLaw r → UnknownLaw (asked (either l r))
unknown_or h k = let n = unknown_and (unknown_not h) (unknown_not k) in record { as_true = n.as_false; as_false = n.as_true; by_choice = n.by_choice }

-- Each row

data AllUnknownLaw : List Evaluation → Type 0 where
  no_further_row : AllUnknownLaw []
  row_more : {e : Evaluation} {es : List Evaluation} → UnknownLaw e → AllUnknownLaw es → AllUnknownLaw (e ∷ es)

unknown_nth : {es : List Evaluation} (n : ℕ) → AllUnknownLaw es → UnknownLaw (nth no_evaluation n es)
unknown_nth n no_further_row = unknown_free
unknown_nth zero (row_more h hs) = h
unknown_nth (suc n) (row_more h hs) = unknown_nth n hs

unknown_cond : (b : Bool) {d e : Evaluation} → UnknownLaw d → UnknownLaw e → UnknownLaw (cond b d e)
unknown_cond true h k = h
unknown_cond false h k = k

module _ (sem : Semantics) (x s : ℕ) (cs : Forest) {es : List Evaluation} (hs : AllUnknownLaw es) where
  unknown_class : (k : ExprClass) → UnknownLaw (evaluation_of sem x k s cs es)
  unknown_class Ident = unknown_free
  unknown_class Opaque = unknown_free
  unknown_class Unary = unknown_cond (eqb s 1) (unknown_not (unknown_nth 0 hs)) unknown_free
  unknown_class Binary =
      unknown_cond (eqb s 1) (unknown_and (unknown_nth 0 hs) (unknown_nth 1 hs))
      (unknown_cond (eqb s 2) (unknown_or (unknown_nth 0 hs) (unknown_nth 1 hs)) unknown_free)
  unknown_class Ternary = unknown_free
  unknown_class Call = unknown_cond (eqb s 1) unknown_free unknown_free
  unknown_class Paren = unknown_nth 0 hs
  unknown_class Lident = let h = unknown_free in record { as_true = h.as_true; as_false = h.as_false; by_choice = h.by_choice }
  unknown_class Event = unknown_free
  unknown_class Other = unknown_free

unknown_each : (sem : Semantics) (x : ℕ) (f : Forest) → AllUnknownLaw (evaluations sem x f)
unfolding fold evaluation_at
unknown_each sem x nil = no_further_row
unknown_each sem x (node k s lo hi cs others) = row_more (unknown_class sem x s cs (unknown_each sem x cs) (expr_class k)) (unknown_each sem x others)

-- of each of these siblings
pub unknown_law : (sem : Semantics) (x : ℕ) (f : Forest) (n : ℕ) → UnknownLaw (nth no_evaluation n (evaluations sem x f))
unknown_law sem x f n = unknown_nth n (unknown_each sem x f)
