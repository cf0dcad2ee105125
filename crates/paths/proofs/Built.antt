-- What every evaluation is built of: events one after the other and alternatives, a read only where the row refers. From this the laws
-- that hold for every row: where the local is written any evaluation is fine, and a row that does not refer reads nothing. By induction
-- over the tree, and over what a command is built of.
use mathlib.Core.Path.{◌≡◌, refl, sym, ◌∙◌}
use mathlib.Core.Bool.{Bool, true, false, cond, ◌||◌}
use mathlib.Core.List.{List, [], ◌∷◌}
use Prim.Native.Nat.{ℕ, zero, suc}
use lib.Dec.{eqb}
use Rattle.table.specs.Rows.{Forest, nil, node}
use Rattle.table.specs.Fold.{fold, nth}
use Rattle.kinds.specs.declared.ExprClass.{ExprClass}
use Rattle.kinds.specs.declared.ExprClass.TheVariants.{Ident, Call, Lident, Opaque, Event, Unary, Binary, Ternary, Paren, Other}
use Rattle.kinds.specs.Named.{expr_class}
use Rattle.kinds.proofs.Below.{true_not_false}
use Rattle.reads.specs.declared.Iff.TheVariants.{Included}
use Rattle.reads.specs.Mentions.{mentions, refers}
use Rattle.reads.proofs.Trees.{refers_node, refers_row}
use Rattle.paths.specs.Marks.{Mark, full, blank, ◌⊑◌}
use Rattle.paths.specs.Commands.{PathEvent, read, write, choice, Ending, falls, stops, leaves, again, NoJump, Command, skip, emit, seq, alt, Runs, run_stop, run_skip, run_emit, run_emit_stop, run_seq, run_off, run_left, run_right, run_exit, run_none, run_more, run_catch}
use Rattle.paths.specs.Semantics.{Order, row_order, free_order, Semantics}
use Rattle.paths.specs.AnyOrder.{either_first}
use Rattle.paths.specs.Triples.{at, never, Ends, Triple}
use Rattle.paths.specs.Evaluation.{Truth, is_true, is_false, is_unknown, choice_of, Evaluation, free, asked, both, either, in_order, values, together, called, read_if, write_if, no_evaluation, evaluation_of, evaluation_at, evaluations}
use Rattle.paths.specs.Evaluates.{Evaluates, AllEvaluate, no_more, one_more}
use Rattle.paths.specs.Silence.{NotRead, Silent, ReadsNothing}
use Rattle.paths.proofs.Rules.{good_full, good_silent}
use Rattle.paths.specs.Each.{Each}
use Rattle.paths.proofs.Listed.{each_append}
use Rattle.paths.proofs.AnyOrder.{Composes, any_order_of}

-- Commands

-- of events that are P, one after the other and in alternatives: no loop and no jump
pub data Built (P : PathEvent → Type 0) : Command → Type 0 where
  of_skip : Built P skip
  of_emit : {e : PathEvent} → P e → Built P (emit e)
  of_seq : {c d : Command} → Built P c → Built P d → Built P (seq c d)
  of_alt : {c d : Command} → Built P c → Built P d → Built P (alt c d)

composes : (P : PathEvent → Type 0) → Composes (Built P)
composes P = record { none = of_skip; both = of_seq; one_of = of_alt }

built_first : {P : PathEvent → Type 0} (o : Order) {c d : Command} → Built P c → Built P d → Built P (either_first o c d)
built_first row_order h k = of_seq h k
built_first free_order h k = of_alt (of_seq h k) (of_seq k h)

never_jumps : {P : PathEvent → Type 0} {c : Command} {t : List PathEvent} {o : Ending} → Built P c → Runs c t o → NoJump o
never_jumps b run_stop = tt
never_jumps of_skip run_skip = tt
never_jumps (of_emit p) run_emit = tt
never_jumps (of_emit p) run_emit_stop = tt
never_jumps (of_seq b d) (run_seq x y) = never_jumps d y
never_jumps (of_seq b d) (run_off i x) = never_jumps b x
never_jumps (of_alt b d) (run_left x) = never_jumps b x
never_jumps (of_alt b d) (run_right x) = never_jumps d x
never_jumps {P = P} b (run_exit {o = o}) = elim b [ ]
never_jumps {P = P} b (run_none {c = c}) = elim b [ ]
never_jumps {P = P} b (run_more {c = c} {s = s} {o = o} _) = elim b [ ]
never_jumps {P = P} b (run_catch {j = j} {c = c} {s = s} {o = o} _) = elim b [ ]

silent_run : {c : Command} {t : List PathEvent} {o : Ending} → Built NotRead c → Runs c t o → Silent t
silent_run b run_stop = tt
silent_run of_skip run_skip = tt
silent_run (of_emit p) run_emit = (p, tt)
silent_run (of_emit p) run_emit_stop = (p, tt)
silent_run (of_seq b d) (run_seq {s = s} {t = t} x y) = each_append NotRead s t (silent_run b x) (silent_run d y)
silent_run (of_seq b d) (run_off i x) = silent_run b x
silent_run (of_alt b d) (run_left x) = silent_run b x
silent_run (of_alt b d) (run_right x) = silent_run d x
silent_run b (run_exit {o = o}) = elim b [ ]
silent_run b (run_none {c = c}) = elim b [ ]
silent_run b (run_more {c = c} {s = s} {o = o} _) = elim b [ ]
silent_run b (run_catch {j = j} {c = c} {s = s} {o = o} _) = elim b [ ]

ends_at : (a v : Mark) → a ⊑ v → (o : Ending) → NoJump o → Ends (at a) never o v
ends_at a v p falls j = p
ends_at a v p stops j = tt
ends_at a v p leaves j = absurd j
ends_at a v p again j = absurd j

built_calm : {P : PathEvent → Type 0} {c : Command} → Built P c → Triple full c (at full) never
built_calm b = record { go = λ w p t o x. good_full t (Ends (at full) never o) w p (λ v q. ends_at full v q o (never_jumps b x)) }

built_quiet : {a : Mark} {c : Command} → Built NotRead c → Triple a c (at a) never
built_quiet {a} b = record { go = λ w p t o x. good_silent a t (Ends (at a) never o) w p (silent_run b x) (λ v q. ends_at a v q o (never_jumps b x)) }

-- Evaluations

or_left : (p q : Bool) → p ≡ true → p || q ≡ true
or_left p q e = rw e

or_right : (p q : Bool) → q ≡ true → p || q ≡ true
or_right true q e = refl
or_right false q e = e

record EachBuilt (P : PathEvent → Type 0) (e : Evaluation) : Type 0 where
  value : Built P e.value
  truth : (t : Truth) → Built P (e.truth t)
  store : Built P e.store

data AllBuilt (P : PathEvent → Type 0) : List Evaluation → Type 0 where
  none_left : AllBuilt P []
  and_more : {e : Evaluation} {es : List Evaluation} → EachBuilt P e → AllBuilt P es → AllBuilt P (e ∷ es)

-- events that rows may give: writes and choices, and reads where q says so
module _ (P : PathEvent → Type 0) (pw : P write) (pc : (n : ℕ) → P (choice n)) where
  built_free : {c : Command} → Built P c → EachBuilt P (free c)
  built_free h = record { value = h; truth = λ t. of_seq h (of_emit (pc (choice_of t))); store = h }

  built_asked : {f : Truth → Command} → ((t : Truth) → Built P (f t)) → EachBuilt P (asked f)
  built_asked h =
      let any = of_alt (h is_true) (of_alt (h is_false) (h is_unknown)) in
      record { value = any; truth = h; store = any }

  built_read : (b : Bool) → (b ≡ true → P read) → Built P (read_if b)
  built_read true q = of_emit (q refl)
  built_read false q = of_skip

  built_write : (b : Bool) → Built P (write_if b)
  built_write true = of_emit pw
  built_write false = of_skip

  built_either : {d e : Evaluation} (b : Bool) → EachBuilt P d → EachBuilt P e → EachBuilt P (cond b d e)
  built_either true h k = h
  built_either false h k = k

  truth_built : {e : Evaluation} → EachBuilt P e → (t : Truth) → Built P (e.truth t)
  truth_built h = h.truth

  built_in_order : {es : List Evaluation} → AllBuilt P es → Built P (in_order es)
  built_in_order none_left = of_skip
  built_in_order (and_more h hs) = let k = built_in_order hs in search (of_seq)

  built_values : {es : List Evaluation} → AllBuilt P es → Each (Built P) (values es)
  built_values none_left = tt
  built_values (and_more h hs) = (h.value, built_values hs)

  built_together : (o : Order) {es : List Evaluation} → AllBuilt P es → Built P (together o es)
  built_together row_order hs = built_in_order hs
  built_together free_order {es} hs = any_order_of (Built P) (composes P) (values es) (built_values hs)

  built_called : (o : Order) (b : Bool) {es : List Evaluation} → (b ≡ true → P read) → AllBuilt P es → Built P (called o b es)
  built_called row_order b q hs = of_seq (built_read b q) (built_in_order hs)
  built_called free_order b {es} q hs = any_order_of (Built P) (composes P) (read_if b ∷ values es) (built_read b q, built_values hs)

  built_nth : {es : List Evaluation} (n : ℕ) → AllBuilt P es → EachBuilt P (nth no_evaluation n es)
  built_nth n none_left = built_free of_skip
  built_nth zero (and_more h hs) = h
  built_nth (suc n) (and_more h hs) = built_nth n hs

  -- a command from its parts
  ruleset parts = (of_skip, of_emit, of_seq, of_alt, built_read, built_write, built_first, built_together, built_called, truth_built)

  module _ {l r : Evaluation} (h : EachBuilt P l) (k : EachBuilt P r) where
    built_and : (t : Truth) → Built P (both l r t)
    built_and is_true = search parts
    built_and is_false = search parts
    built_and is_unknown = search parts

    built_or : (t : Truth) → Built P (either l r t)
    built_or is_true = search parts
    built_or is_false = search parts
    built_or is_unknown = search parts

  module _ {es : List Evaluation} (sem : Semantics) (x s : ℕ) (cs : Forest) (hs : AllBuilt P es) where
    abbrev operand : (n : ℕ) → EachBuilt P (nth no_evaluation n es)
    operand n = built_nth n hs

    built_class : (k : ExprClass) → (mentions x k cs ≡ true → P read) → EachBuilt P (evaluation_of sem x k s cs es)
    built_class Ident q = built_free (search parts)
    built_class Opaque q = let r = q refl in built_free (search parts)
    built_class Unary q = built_either (eqb s 1) (built_asked (λ t. search (parts, operand 0))) (built_free (search (parts, operand 0)))
    built_class Binary q =
        built_either (eqb s 1) (built_asked (built_and (operand 0) (operand 1)))
        (built_either (eqb s 2) (built_asked (built_or (operand 0) (operand 1))) (built_free (search (parts, operand 0, operand 1))))
    built_class Ternary q = built_free (search (parts, operand 0, operand 1, operand 2))
    built_class Call q = built_either (eqb s 1) (built_free (search parts)) (built_free (search parts))
    built_class Paren q = operand 0
    built_class Lident q = record { value = search parts; truth = λ t. search parts; store = search parts }
    built_class Event q = built_free (search parts)
    built_class Other q = built_free (search parts)

  built : (sem : Semantics) (x : ℕ) (f : Forest) → (refers Included x f ≡ true → P read) → AllBuilt P (evaluations sem x f)
  unfolding fold evaluation_at
  built sem x nil q = none_left
  built sem x (node k s lo hi cs others) q =
      and_more
      (built_class sem x s cs (built sem x cs (λ e. here (or_right (mentions x (expr_class k) cs) (refers Included x cs) e))) (expr_class k) (λ e. here (or_left (mentions x (expr_class k) cs) (refers Included x cs) e)))
      (built sem x others (λ e. q (refers_node Included x k s lo hi cs others ∙ or_right (refers Included x (node k s lo hi cs nil)) (refers Included x others) e)))
    where
      here : mentions x (expr_class k) cs || refers Included x cs ≡ true → P read
      here e = q (refers_node Included x k s lo hi cs others ∙ or_left (refers Included x (node k s lo hi cs nil)) (refers Included x others) (refers_row x k s lo hi cs ∙ e))

built_silent : {e : Evaluation} → EachBuilt NotRead e → ReadsNothing e
built_silent h = record {
  value = record { go = λ t o. silent_run h.value };
  truth = λ b. record { go = λ t o. silent_run (h.truth b) };
  store = record { go = λ t o. silent_run h.store };
}

-- The laws of every row, and of what stands where a child is missing

pub silent_none : ReadsNothing no_evaluation
silent_none = built_silent (built_free NotRead tt (λ n. tt) of_skip)

first : {P : PathEvent → Type 0} {e : Evaluation} {es : List Evaluation} → AllBuilt P (e ∷ es) → EachBuilt P e
first (and_more h hs) = h

module _ (sem : Semantics) (x k s lo hi : ℕ) (cs : Forest) where
  -- where all is written, every evaluation is fine
  pub calm_row : Evaluates full full (evaluation_at sem x k s lo hi cs (evaluations sem x cs))
  unfolding fold
  calm_row =
      let h = first (built (λ e. Unit) tt (λ n. tt) sem x (node k s lo hi cs nil) (λ e. tt)) in
      record { value = built_calm h.value; truth = λ t. built_calm (h.truth t); store = built_calm h.store }

  module _ (r : refers Included x (node k s lo hi cs nil) ≡ false) where
    quiet_built : EachBuilt NotRead (evaluation_at sem x k s lo hi cs (evaluations sem x cs))
    unfolding fold
    quiet_built = first (built NotRead tt (λ n. tt) sem x (node k s lo hi cs nil) (λ e. true_not_false (sym e ∙ r)))

    -- a row that does not refer is fine from nothing written on
    pub quiet_row : Evaluates blank blank (evaluation_at sem x k s lo hi cs (evaluations sem x cs))
    quiet_row = record { value = built_quiet quiet_built.value; truth = λ t. built_quiet (quiet_built.truth t); store = built_quiet quiet_built.store }

    -- and reads nothing
    pub silent_row : ReadsNothing (evaluation_at sem x k s lo hi cs (evaluations sem x cs))
    silent_row = built_silent quiet_built

-- where all is written, every evaluation of every row is fine
pub calm_all : (sem : Semantics) (x : ℕ) (f : Forest) → AllEvaluate full (evaluations sem x f)
unfolding fold
calm_all sem x nil = no_more
calm_all sem x (node k s lo hi cs others) = one_more (calm_row sem x k s lo hi cs) (calm_all sem x others)
