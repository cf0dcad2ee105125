-- The rules of triples at the forms of specs/Evaluation: each is put together by a search from the rules of its parts. Lists by induction
-- over them.
use mathlib.Core.Bool.{Bool, true, false}
use mathlib.Core.List.{List}
use Prim.Native.Nat.{ℕ, zero, suc}
use Rattle.table.specs.Fold.{nth, tail}
use Rattle.paths.specs.Marks.{Mark, ◌⊑◌, blank, ⊑_refl, ⊑_full, blank_⊑}
use Rattle.paths.specs.Commands.{Command}
use Rattle.paths.specs.Semantics.{Order, row_order, free_order}
use Rattle.paths.specs.Triples.{Triple, at, never}
use Rattle.paths.specs.Evaluation.{Truth, is_true, is_false, is_unknown, choice_of, Evaluation, free, of_any, asked, not_false, not_true, both, either, conditional, in_order, values, together, write_if, no_evaluation}
use Rattle.paths.specs.Each.{Each}
use Rattle.paths.specs.Evaluates.{Meets, Evaluates, AllEvaluate, no_more, one_more}
use Rattle.paths.proofs.Rules.{less, nowhere, weaken, lift, rule_skip, rule_write, rule_choice, rule_seq, rule_alt}
use Rattle.paths.proofs.AnyOrder.{Keeps, rule_any_order, rule_either_first}

-- nothing is known at the end
pub evaluates_forget : {a b : Mark} {e : Evaluation} → Evaluates a b e → Evaluates a blank e
evaluates_forget h = record {
  value = weaken ⊑_refl (less blank_⊑) nowhere h.value;
  truth = λ t. weaken ⊑_refl (less blank_⊑) nowhere (h.truth t);
  store = weaken ⊑_refl (less blank_⊑) nowhere h.store;
}

pub evaluates_free : {a b : Mark} {c : Command} → Triple a c (at b) never → Evaluates a b (free c)
evaluates_free h = record { value = h; truth = λ t. rule_seq h (rule_choice (choice_of t)); store = h }

pub evaluates_asked : {a b : Mark} {f : Truth → Command} → ((t : Truth) → Triple a (f t) (at b) never) → Evaluates a b (asked f)
evaluates_asked {a} {b} {f} h = record { value = any; truth = h; store = any }
  where
    any : Triple a (of_any f) (at b) never
    any = rule_alt (h is_true) (rule_alt (h is_false) (h is_unknown))

truth_of : {a b : Mark} {e : Evaluation} → Evaluates a b e → (t : Truth) → Triple a (e.truth t) (at b) never
truth_of h = h.truth

-- a command's triple from those of its parts
ruleset composed = (rule_seq, rule_alt, truth_of)

-- && and ||: the right starts from what the left leaves where it lets it be evaluated. That is a premise for each truth and for both
-- together, so that every case is a search.
module _ {a b c : Mark} {l r : Evaluation} (h : Evaluates a c l) (i : Evaluates b c r) where
  both_triple : Triple a (l.truth is_true) (at b) never → Triple a (not_false l) (at b) never → Triple a (l.truth is_unknown) (at b) never → (t : Truth) → Triple a (both l r t) (at c) never
  both_triple k g u is_true = search composed
  both_triple k g u is_false = search composed
  both_triple k g u is_unknown = search composed

  either_triple : Triple a (l.truth is_false) (at b) never → Triple a (not_true l) (at b) never → Triple a (l.truth is_unknown) (at b) never → (t : Truth) → Triple a (either l r t) (at c) never
  either_triple k g u is_true = search composed
  either_triple k g u is_false = search composed
  either_triple k g u is_unknown = search composed

-- either of them, by the outcome of the left whose opposite alone keeps the right from being evaluated
abbrev pub chain : Bool → Evaluation → Evaluation → Truth → Command
chain true l r t = both l r t
chain false l r t = either l r t

pub chain_triple : (want : Bool) {a b c : Mark} {l r : Evaluation} → Evaluates a c l → ((t : Truth) → Meets want t → Triple a (l.truth t) (at b) never) → Evaluates b c r → (t : Truth) → Triple a (chain want l r t) (at c) never
chain_triple true h k i = both_triple h i (k is_true tt) (rule_alt (k is_true tt) (k is_unknown tt)) (k is_unknown tt)
chain_triple false h k i = either_triple h i (k is_false tt) (rule_alt (k is_false tt) (k is_unknown tt)) (k is_unknown tt)

-- the arms keep what the condition leaves
pub conditional_triple : (o : Order) {a b : Mark} {e l r : Evaluation} → Evaluates a b e → Evaluates b b l → Evaluates b b r → Triple a (conditional o e l r) (at b) never
conditional_triple o h i k = let arms = rule_either_first o i.value k.value in search composed

-- what is fine from less is fine from more, and keeps it
pub evaluates_lift : {a b m : Mark} {e : Evaluation} → a ⊑ m → Evaluates a b e → Evaluates m m e
evaluates_lift p h = record { value = lift p h.value; truth = λ t. lift p (h.truth t); store = lift p h.store }

-- what ends with more is fine from more as well
pub evaluates_from : {a b m : Mark} {e : Evaluation} → a ⊑ m → Evaluates a b e → Evaluates m b e
evaluates_from p h = record {
  value = weaken p (less ⊑_refl) nowhere h.value;
  truth = λ t. weaken p (less ⊑_refl) nowhere (h.truth t);
  store = weaken p (less ⊑_refl) nowhere h.store;
}

-- rows one after the other, and one of them
module _ {m : Mark} where
  pub in_order_lem : {es : List Evaluation} → AllEvaluate m es → Triple m (in_order es) (at m) never
  in_order_lem no_more = rule_skip
  in_order_lem (one_more h hs) = rule_seq h.value (in_order_lem hs)

  pub values_keep : {es : List Evaluation} → AllEvaluate m es → Each (Keeps m) (values es)
  values_keep no_more = tt
  values_keep (one_more h hs) = (h.value, values_keep hs)

  pub all_together : (o : Order) {es : List Evaluation} → AllEvaluate m es → Keeps m (together o es)
  all_together row_order h = in_order_lem h
  all_together free_order {es} h = rule_any_order (values es) (values_keep h)

  -- the write of a target keeps what is written
  pub write_keeps : (b : Bool) → Keeps m (write_if b)
  write_keeps true = weaken ⊑_refl (less ⊑_full) nowhere rule_write
  write_keeps false = rule_skip

  pub evaluates_none : Evaluates m m no_evaluation
  evaluates_none = evaluates_free rule_skip

  pub evaluates_place : {es : List Evaluation} (n : ℕ) → AllEvaluate m es → Evaluates m m (nth no_evaluation n es)
  evaluates_place n no_more = evaluates_none
  evaluates_place zero (one_more h hs) = h
  evaluates_place (suc n) (one_more h hs) = evaluates_place n hs

  pub evaluate_tail : {es : List Evaluation} → AllEvaluate m es → AllEvaluate m (tail es)
  evaluate_tail no_more = no_more
  evaluate_tail (one_more h hs) = hs
