-- The law of an expression, for every row: by induction over the tree, each form from the laws of its operands. Of evaluation it cites
-- the rules of triples and the laws of every row, of the reference test that iff makes no difference where none refers.
use Prim.Native.Nat.{ℕ, zero, suc, ◌≤◌}
use lib.Dec.{eqb}
use mathlib.Core.Path.{◌≡◌, refl, sym, ap, subst, ◌∙◌}
use mathlib.Core.Bool.{Bool, true, false, cond, ◌||◌, not}
use mathlib.Core.List.{List, ◌∷◌}
use Rattle.table.specs.declared.Siblings.{Siblings}
use Rattle.table.specs.Siblings.{forest}
use Rattle.table.specs.Rows.{Forest, nil, node, tree}
use Rattle.table.specs.Fold.{fold, nth, Pairwise, no_pair, pair}
use Rattle.table.proofs.Fold.{related_at}
use Rattle.kinds.specs.declared.ExprClass.{ExprClass}
use Rattle.kinds.specs.declared.ExprClass.TheVariants.{Ident, Call, Lident, Opaque, Event, Unary, Binary, Ternary, Paren, Other}
use Rattle.kinds.specs.Named.{expr_class}
use Rattle.kinds.proofs.Below.{true_not_false, neither}
use Rattle.reads.specs.declared.Iff.TheVariants.{Skipped, Included}
use Rattle.reads.specs.PathRows.{is_local}
use Rattle.reads.specs.Mentions.{refers}
use Rattle.reads.specs.Iffs.{iff_quiet}
use Rattle.reads.proofs.Trees.{refers_node, quiet_children, quiet_others, quiet_alone, refers_quiet}
use Rattle.paths.specs.Marks.{full, blank, blank_⊑}
use Rattle.paths.specs.Commands.{Command, write, emit, seq, alt}
use Rattle.paths.specs.Triples.{Triple, at, never}
use Rattle.paths.specs.Evaluation.{Evaluation, Truth, is_true, is_false, is_unknown, opposite, free, asked, both, either, conditional, write_if, target, no_evaluation, evaluation_of, evaluation_at, evaluations}
use Rattle.paths.specs.Semantics.{Order, Semantics}
use Rattle.paths.specs.AnyOrder.{either_first}
use Rattle.paths.specs.Evaluates.{Meets, Evaluates}
use Rattle.paths.proofs.Rules.{rule_skip, rule_write, rule_seq, rule_alt}
use Rattle.paths.proofs.AnyOrder.{rule_either_first, rule_first_gains, rule_second_gains}
use Rattle.paths.proofs.Evaluating.{evaluates_forget, evaluates_free, evaluates_asked, chain, chain_triple, conditional_triple, write_keeps}
use Rattle.paths.proofs.Built.{calm_row, quiet_row, silent_row, silent_none}
use Rattle.effect_rules.specs.declared.ExprDa.{ExprDa}
use Rattle.effect_rules.specs.declared.ExprDa.TheVariants.{Clean, Writes, Reads}
use Rattle.effect_rules.specs.declared.ExprEffect.{ExprEffect}
use Rattle.effect_rules.specs.declared.RowEffect.{RowEffect}
use Rattle.effect_rules.specs.declared.Form.{Form}
use Rattle.effect_rules.specs.declared.Form.TheVariants.{Inner, LogNot, Operand, LogAnd, LogOr, Operands, Arms, CallWrites, Vetted}
use Rattle.effect_rules.specs.Rules.{unary_form, binary_form, call_form, form_of, join, short_circuit, one_arm, after_cond, writes_when, effect_of, operands_write, self_guarded, combined, guarded, no_effect}
use Rattle.effect_rules.specs.Steps.{no_row_effect}
use Rattle.expr_effect.specs.Effect.{expr_effect_at, expr_effects, expr_effect_of, expr_da}
use Rattle.expr_effect.specs.Steps.{unguarded}
use Rattle.expr_effect.proofs.Operands.{unguarded_none, effect_first}
use Rattle.expr_effect.specs.Law.{EffectLaw, WhenLaw, is_plain, facts_at, expr_facts, no_facts, NoneRefer, none_left, and_more, PlainLaw, ExprLaw, EffectTold, DaTold}

-- what the effect and the writing on an outcome say of an evaluation
record Sound (o : ExprEffect) (e : Evaluation) : Type 0 where
  calm : Evaluates full full e
  effect : EffectLaw o.effect e
  when : (want : Bool) (t : Truth) → Meets want t → WhenLaw (writes_when o want) (e.truth t)

-- the writing of a row that guards itself

abbrev IsClean : ExprDa → Type 0
IsClean Clean = Unit
IsClean Writes = ⊥
IsClean Reads = ⊥

guard_when : (d : ExprDa) (w : Bool) (e : Evaluation) (t : Truth) → EffectLaw d e → (IsClean d → WhenLaw w (e.truth t)) → WhenLaw (self_guarded d w) (e.truth t)
guard_when Clean w e t l h = h tt
guard_when Writes w e t l h = l.truth t
guard_when Reads w e t l h = tt

module _ (m : Form) (n : Bool) (a b c : ExprEffect) (e : Evaluation) where
  row_when : EffectLaw (effect_of m n a b c) e
      → ((want : Bool) (t : Truth) → Meets want t → IsClean (effect_of m n a b c) → WhenLaw (operands_write m want a b) (e.truth t))
      → (want : Bool) (t : Truth) → Meets want t → WhenLaw (writes_when (guarded (combined m n a b c)) want) (e.truth t)
  row_when l h true t q = guard_when (effect_of m n a b c) (operands_write m true a b) e t l (h true t q)
  row_when l h false t q = guard_when (effect_of m n a b c) (operands_write m false a b) e t l (h false t q)

  row_sound : Evaluates full full e
      → EffectLaw (effect_of m n a b c) e
      → ((want : Bool) (t : Truth) → Meets want t → IsClean (effect_of m n a b c) → WhenLaw (operands_write m want a b) (e.truth t))
      → Sound (guarded (combined m n a b c)) e
  row_sound k l h = record { calm = k; effect = l; when = row_when l h }

-- the reference test decides

vetted_effect_lem : (n : Bool) (e : Evaluation) → (n ≡ false → Evaluates blank blank e) → EffectLaw (cond n Reads Clean) e
vetted_effect_lem true e q = tt
vetted_effect_lem false e q = q refl

vetted_sound : (n : Bool) (e : Evaluation) → Evaluates full full e → (n ≡ false → Evaluates blank blank e) → Sound (guarded (combined Vetted n no_effect no_effect no_effect)) e
vetted_sound n e k q = row_sound Vetted n no_effect no_effect no_effect e k (vetted_effect_lem n e q) (λ want t p i. tt)

-- the operand of a unary operator

free_effect : (d : ExprDa) (e : Evaluation) → EffectLaw d e → EffectLaw d (free e.value)
free_effect Clean e l = evaluates_free l.value
free_effect Writes e l = evaluates_free l.value
free_effect Reads e l = tt

flip_effect : (d : ExprDa) (e : Evaluation) → EffectLaw d e → EffectLaw d (asked (λ t. e.truth (opposite t)))
flip_effect Clean e l = evaluates_asked (λ t. l.truth (opposite t))
flip_effect Writes e l = evaluates_asked (λ t. l.truth (opposite t))
flip_effect Reads e l = tt

flip_meets : (want : Bool) (t : Truth) → Meets want t → Meets (not want) (opposite t)
flip_meets true is_true q = q
flip_meets true is_false q = q
flip_meets true is_unknown q = q
flip_meets false is_true q = q
flip_meets false is_false q = q
flip_meets false is_unknown q = q

-- both operands of a binary operator

join_effect : (o : Order) (d e : ExprDa) (l r : Evaluation) → EffectLaw d l → EffectLaw e r → EffectLaw (join d e) (free (either_first o l.value r.value))
join_effect o Reads e l r p q = tt
join_effect o Writes Reads l r p q = tt
join_effect o Writes Writes l r p q = evaluates_free (rule_first_gains o blank_⊑ p.value (evaluates_forget q).value)
join_effect o Writes Clean l r p q = evaluates_free (rule_first_gains o blank_⊑ p.value q.value)
join_effect o Clean Reads l r p q = tt
join_effect o Clean Writes l r p q = evaluates_free (rule_second_gains o blank_⊑ p.value q.value)
join_effect o Clean Clean l r p q = evaluates_free (rule_either_first o p.value q.value)

-- && and ||: `want` is the outcome of the left whose opposite alone keeps the right from being evaluated

when_alt : (w : Bool) (c d : Command) → WhenLaw w c → WhenLaw w d → WhenLaw w (alt c d)
when_alt true c d h k = rule_alt h k
when_alt false c d h k = tt

module _ (want : Bool) (l r : Evaluation) (k : Evaluates full full r) where
  short_effect : (d e : ExprDa) (wrote : Bool) → EffectLaw d l → EffectLaw e r → ((t : Truth) → Meets want t → WhenLaw wrote (l.truth t)) → EffectLaw (short_circuit d e wrote) (asked (chain want l r))
  short_effect Writes e wrote p q w = evaluates_asked (chain_triple want p (λ t m. p.truth t) k)
  short_effect Reads e wrote p q w = tt
  short_effect Clean Clean wrote p q w = evaluates_asked (chain_triple want p (λ t m. p.truth t) q)
  short_effect Clean Writes wrote p q w = evaluates_asked (chain_triple want p (λ t m. p.truth t) (evaluates_forget q))
  short_effect Clean Reads true p q w = evaluates_asked (chain_triple want p w (evaluates_forget k))
  short_effect Clean Reads false p q w = tt

-- both were evaluated: the left wrote, or the right did
both_when : (u v : Bool) {c d : Command} → Triple blank c (at blank) never → Triple full d (at full) never → WhenLaw u c → WhenLaw v d → WhenLaw (u || v) (seq c d)
both_when true v h k a b = rule_seq a k
both_when false true h k a b = rule_seq h b
both_when false false h k a b = tt

-- where the whole is clean, the left is
short_left : (d e : ExprDa) (wrote : Bool) {l : Evaluation} → IsClean (short_circuit d e wrote) → EffectLaw d l → Evaluates blank blank l
short_left Clean e wrote i p = p
short_left Writes e wrote i p = absurd i
short_left Reads e wrote i p = absurd i

module _ (u v : Bool) {l r : Evaluation} (p : Evaluates blank blank l) (k : Evaluates full full r) where
  pair_when : (s t : Truth) → WhenLaw u (l.truth s) → WhenLaw v (r.truth t) → WhenLaw (u || v) (seq (l.truth s) (r.truth t))
  pair_when s t a b = both_when u v (p.truth s) (k.truth t) a b

  -- one of them came out unknown, and the other not as what settles
  unknown_when : (on : Truth) → WhenLaw u (l.truth on) → WhenLaw u (l.truth is_unknown) → WhenLaw v (r.truth on) → WhenLaw v (r.truth is_unknown)
      → WhenLaw (u || v) (alt (seq (l.truth on) (r.truth is_unknown)) (seq (l.truth is_unknown) (alt (r.truth on) (r.truth is_unknown))))
  unknown_when on a c b d =
      when_alt (u || v) _ _ (pair_when on is_unknown a d)
      (both_when u v (p.truth is_unknown) (rule_alt (k.truth on) (k.truth is_unknown)) c (when_alt v _ _ b d))

  -- the whole does not come out as the opposite of `want`
  chain_when : (want : Bool) → ((t : Truth) → Meets want t → WhenLaw u (l.truth t)) → ((t : Truth) → Meets want t → WhenLaw v (r.truth t)) → (t : Truth) → Meets want t → WhenLaw (u || v) (chain want l r t)
  chain_when true a b is_true m = pair_when is_true is_true (a is_true tt) (b is_true tt)
  chain_when true a b is_false m = absurd m
  chain_when true a b is_unknown m = unknown_when is_true (a is_true tt) (a is_unknown tt) (b is_true tt) (b is_unknown tt)
  chain_when false a b is_true m = absurd m
  chain_when false a b is_false m = pair_when is_false is_false (a is_false tt) (b is_false tt)
  chain_when false a b is_unknown m = unknown_when is_false (a is_false tt) (a is_unknown tt) (b is_false tt) (b is_unknown tt)

-- a conditional

module _ (o : Order) (l r : Evaluation) (kl : Evaluates full full l) (kr : Evaluates full full r) (c : Evaluation) where
  arms_effect : (d e : ExprDa) → Evaluates blank blank c → EffectLaw d l → EffectLaw e r → EffectLaw (one_arm d e) (free (conditional o c l r))
  arms_effect Reads e h p q = tt
  arms_effect Writes Reads h p q = tt
  arms_effect Writes Writes h p q = evaluates_free (conditional_triple o h (evaluates_forget p) (evaluates_forget q))
  arms_effect Writes Clean h p q = evaluates_free (conditional_triple o h (evaluates_forget p) q)
  arms_effect Clean Reads h p q = tt
  arms_effect Clean Writes h p q = evaluates_free (conditional_triple o h p (evaluates_forget q))
  arms_effect Clean Clean h p q = evaluates_free (conditional_triple o h p q)

  conditional_effect : (f d e : ExprDa) → EffectLaw f c → EffectLaw d l → EffectLaw e r → EffectLaw (after_cond f (one_arm d e)) (free (conditional o c l r))
  conditional_effect Writes d e h p q = evaluates_free (conditional_triple o h kl kr)
  conditional_effect Reads d e h p q = tt
  conditional_effect Clean d e h p q = arms_effect d e h p q

-- each form of a row, from its operands

module _ (n : Bool) (a b c : ExprEffect) (d e f : Evaluation) (p : Sound a d) (q : Sound b e) (r : Sound c f) where
  inner_sound : Sound (guarded (combined Inner n a b c)) d
  inner_sound = row_sound Inner n a b c d p.calm p.effect (λ want t m i. p.when want t m)

  operand_sound : Sound (guarded (combined Operand n a b c)) (free d.value)
  operand_sound = row_sound Operand n a b c (free d.value) (evaluates_free p.calm.value) (free_effect a.effect d p.effect) (λ want t m i. tt)

  not_sound : Sound (guarded (combined LogNot n a b c)) (asked (λ t. d.truth (opposite t)))
  not_sound =
      row_sound LogNot n a b c (asked (λ t. d.truth (opposite t)))
      (evaluates_asked (λ t. p.calm.truth (opposite t)))
      (flip_effect a.effect d p.effect)
      (λ want t m i. p.when (not want) (opposite t) (flip_meets want t m))

  operands_sound : (o : Order) → Sound (guarded (combined Operands n a b c)) (free (either_first o d.value e.value))
  operands_sound o =
      row_sound Operands n a b c (free (either_first o d.value e.value))
      (evaluates_free (rule_either_first o p.calm.value q.calm.value))
      (join_effect o a.effect b.effect d e p.effect q.effect)
      (λ want t m i. tt)

  arms_sound : (o : Order) → Sound (guarded (combined Arms n a b c)) (free (conditional o d e f))
  arms_sound o =
      row_sound Arms n a b c (free (conditional o d e f))
      (evaluates_free (conditional_triple o p.calm q.calm r.calm))
      (conditional_effect o e f q.calm r.calm d a.effect b.effect c.effect p.effect q.effect r.effect)
      (λ want t m i. tt)

  chain_calm : (want : Bool) → Evaluates full full (asked (chain want d e))
  chain_calm want = evaluates_asked (chain_triple want p.calm (λ t m. p.calm.truth t) q.calm)

  and_sound : Sound (guarded (combined LogAnd n a b c)) (asked (both d e))
  and_sound =
      row_sound LogAnd n a b c (asked (both d e))
      (chain_calm true)
      (short_effect true d e q.calm a.effect b.effect a.when_true p.effect q.effect (p.when true))
      and_when
    where
      and_when : (want : Bool) (t : Truth) → Meets want t → IsClean (effect_of LogAnd n a b c) → WhenLaw (operands_write LogAnd want a b) (both d e t)
      and_when true t m i = chain_when a.when_true b.when_true (short_left a.effect b.effect a.when_true i p.effect) q.calm true (p.when true) (q.when true) t m
      and_when false t m i = tt

  or_sound : Sound (guarded (combined LogOr n a b c)) (asked (either d e))
  or_sound =
      row_sound LogOr n a b c (asked (either d e))
      (chain_calm false)
      (short_effect false d e q.calm a.effect b.effect a.when_false p.effect q.effect (p.when false))
      or_when
    where
      or_when : (want : Bool) (t : Truth) → Meets want t → IsClean (effect_of LogOr n a b c) → WhenLaw (operands_write LogOr want a b) (either d e t)
      or_when true t m i = tt
      or_when false t m i = chain_when a.when_false b.when_false (short_left a.effect b.effect a.when_false i p.effect) q.calm false (p.when false) (q.when false) t m

writes_sound : (n : Bool) → Sound (guarded (combined CallWrites n no_effect no_effect no_effect)) (free (emit write))
writes_sound n =
    row_sound CallWrites n no_effect no_effect no_effect (free (emit write)) (evaluates_free rule_write) (evaluates_free rule_write) (λ want t m i. absurd i)

no_sound : Sound no_effect no_evaluation
no_sound = record { calm = evaluates_free rule_skip; effect = evaluates_free rule_skip; when = none_when }
  where
    none_when : (want : Bool) (t : Truth) → Meets want t → WhenLaw (writes_when no_effect want) (no_evaluation.truth t)
    none_when true t m = tt
    none_when false t m = tt

-- each kind of a row, by its side

module _ (n : Bool) (a b c : ExprEffect) (d e f : Evaluation) (p : Sound a d) (q : Sound b e) (r : Sound c f) where
  unary_sound : (i : Bool) → Sound (guarded (combined (cond i LogNot Operand) n a b c)) (cond i (asked (λ t. d.truth (opposite t))) (free d.value))
  unary_sound true = not_sound n a b c d e f p q r
  unary_sound false = operand_sound n a b c d e f p q r

  binary_sound : (o : Order) (i j : Bool) → Sound (guarded (combined (cond i LogAnd (cond j LogOr Operands)) n a b c)) (cond i (asked (both d e)) (cond j (asked (either d e)) (free (either_first o d.value e.value))))
  binary_sound o true j = and_sound n a b c d e f p q r
  binary_sound o false true = or_sound n a b c d e f p q r
  binary_sound o false false = operands_sound n a b c d e f p q r o

call_sound : (n i : Bool) (a b c : ExprEffect) (e : Evaluation)
    → Evaluates full full (cond i (free (emit write)) e)
    → (n ≡ false → Evaluates blank blank (cond i (free (emit write)) e))
    → Sound (guarded (combined (cond i CallWrites Vetted) n a b c)) (cond i (free (emit write)) e)
call_sound n true a b c e k q = writes_sound n
call_sound n false a b c e k q = vetted_sound n e k q

module _ (sem : Semantics) (x s : ℕ) (cs : Forest) (n : Bool) {os : List ExprEffect} {es : List Evaluation} (ps : Pairwise Sound os es) where
  child : (i : ℕ) → Sound (nth no_effect i os) (nth no_evaluation i es)
  child i = related_at no_effect no_evaluation i no_sound ps

  sound_kind : (k : ExprClass)
      → Evaluates full full (evaluation_of sem x k s cs es)
      → (n ≡ false → Evaluates blank blank (evaluation_of sem x k s cs es))
      → Sound (guarded (combined (form_of k s) n (nth no_effect 0 os) (nth no_effect 1 os) (nth no_effect 2 os))) (evaluation_of sem x k s cs es)
  unfolding unary_form binary_form call_form
  sound_kind Unary h v = unary_sound n _ _ _ _ _ _ (child 0) (child 1) (child 2) (eqb s 1)
  sound_kind Binary h v = binary_sound n _ _ _ _ _ _ (child 0) (child 1) (child 2) sem.order (eqb s 1) (eqb s 2)
  sound_kind Ternary h v = arms_sound n _ _ _ _ _ _ (child 0) (child 1) (child 2) sem.order
  sound_kind Call h v = call_sound n (eqb s 1) _ _ _ _ h v
  sound_kind Paren h v = inner_sound n _ _ _ _ _ _ (child 0) (child 1) (child 2)
  sound_kind Ident h v = vetted_sound n _ h v
  sound_kind Lident h v = vetted_sound n _ h v
  sound_kind Opaque h v = vetted_sound n _ h v
  sound_kind Event h v = vetted_sound n _ h v
  sound_kind Other h v = vetted_sound n _ h v

-- a row that does not refer by the walk's test does not hold a mention either, where no iff refers
row_held : (x k s lo hi : ℕ) (cs others : Forest) → iff_quiet x (node k s lo hi cs others) ≡ true → refers Skipped x (node k s lo hi cs nil) ≡ false → refers Included x (node k s lo hi cs nil) ≡ false
row_held x k s lo hi cs others q e = sym (refers_quiet x (node k s lo hi cs nil) (quiet_alone x k s lo hi cs others q)) ∙ e

sound : (sem : Semantics) (x : ℕ) (f : Forest) → iff_quiet x f ≡ true → Pairwise Sound (expr_effects x f) (evaluations sem x f)
unfolding fold expr_effect_at evaluation_at
sound sem x nil q = no_pair
sound sem x (node k s lo hi cs others) q =
    pair
    (sound_kind sem x s cs (refers Skipped x (node k s lo hi cs nil)) (sound sem x cs (quiet_children x k s lo hi cs others q)) (expr_class k) (calm_row sem x k s lo hi cs) (λ e. quiet_row sem x k s lo hi cs (row_held x k s lo hi cs others q e)))
    (sound sem x others (quiet_others x k s lo hi cs others q))

-- the law of an expression

write_plain : (plain : Bool) → plain ≡ true → Triple blank (write_if plain) (at full) never
write_plain true e = rule_write
write_plain false e = true_not_false (sym e)

-- the plain local as a target has no selects, and is written
plain_target : (plain : Bool) → plain ≡ true → PlainLaw (target plain)
plain_target plain e = record {
  plain = e;
  unread = record { value = rule_skip; truth = λ t. (evaluates_free rule_skip).truth t; store = write_keeps plain };
  stored = write_plain plain e;
}

plain_row : (sem : Semantics) (x : ℕ) (k : ExprClass) (s : ℕ) (cs : Forest) (es : List Evaluation) → is_plain x k cs ≡ true → PlainLaw (evaluation_of sem x k s cs es)
plain_row sem x Lident s cs es e = plain_target (is_local x cs) e
plain_row sem x Ident s cs es e = true_not_false (sym e)
plain_row sem x Call s cs es e = true_not_false (sym e)
plain_row sem x Opaque s cs es e = true_not_false (sym e)
plain_row sem x Event s cs es e = true_not_false (sym e)
plain_row sem x Unary s cs es e = true_not_false (sym e)
plain_row sem x Binary s cs es e = true_not_false (sym e)
plain_row sem x Ternary s cs es e = true_not_false (sym e)
plain_row sem x Paren s cs es e = true_not_false (sym e)
plain_row sem x Other s cs es e = true_not_false (sym e)

first_of : {o : ExprEffect} {e : Evaluation} {os : List ExprEffect} {es : List Evaluation} → Pairwise Sound (o ∷ os) (e ∷ es) → Sound o e
first_of (pair h hs) = h

row_law : (sem : Semantics) (x k s lo hi : ℕ) (cs others : Forest) → iff_quiet x (node k s lo hi cs others) ≡ true → Sound (expr_effect_at x k s lo hi cs (expr_effects x cs)) (evaluation_at sem x k s lo hi cs (evaluations sem x cs)) → ExprLaw (facts_at x k s lo hi cs (expr_facts x cs)) (evaluation_at sem x k s lo hi cs (evaluations sem x cs))
unfolding facts_at evaluation_at
row_law sem x k s lo hi cs others q h = record {
  calm = h.calm;
  quiet = λ e. quiet_row sem x k s lo hi cs (row_held x k s lo hi cs others q e);
  silent = λ e. silent_row sem x k s lo hi cs (row_held x k s lo hi cs others q e);
  effect = h.effect;
  when = h.when;
  plainly = plain_row sem x (expr_class k) s cs (evaluations sem x cs);
}

pub expr_laws : (sem : Semantics) (x : ℕ) (f : Forest) → iff_quiet x f ≡ true → Pairwise ExprLaw (expr_facts x f) (evaluations sem x f)
unfolding fold facts_at
expr_laws sem x nil q = no_pair
expr_laws sem x (node k s lo hi cs others) q =
    pair (row_law sem x k s lo hi cs others q (first_of (sound sem x (node k s lo hi cs others) q))) (expr_laws sem x others (quiet_others x k s lo hi cs others q))

pub no_law : ExprLaw no_facts no_evaluation
no_law = record { calm = no_sound.calm; quiet = λ e. no_sound.effect; silent = λ e. silent_none; effect = no_sound.effect; when = no_sound.when; plainly = λ e. true_not_false (sym e) }

-- the reference test of a list of rows, said of each of them

pub none_refer : (x : ℕ) (f : Forest) → refers Skipped x f ≡ false → NoneRefer (expr_facts x f)
unfolding fold facts_at
none_refer x nil e = none_left
none_refer x (node k s lo hi cs others) e =
    let h = neither (refers Skipped x (node k s lo hi cs nil)) (refers Skipped x others) (sym (refers_node Skipped x k s lo hi cs others) ∙ e) in
    and_more h.0 (none_refer x others h.1)

-- what the answers mean

-- the walk's facts hold the effects
pub facts_effects : (x : ℕ) (f : Forest) (i : ℕ) → (nth no_facts i (expr_facts x f)).effects ≡ expr_effect_of x f i
unfolding fold facts_at
facts_effects x nil i = refl
facts_effects x (node k s lo hi cs others) zero = refl
facts_effects x (node k s lo hi cs others) (suc i) = facts_effects x others i

-- and of the first row, the reference test and whether it is the plain local: what the code asks by `no_ref` and by its path
module _ (x k s lo hi : ℕ) (cs others : Forest) where
  pub facts_refers : (nth no_facts 0 (expr_facts x (node k s lo hi cs others))).refers ≡ refers Skipped x (node k s lo hi cs nil)
  unfolding fold facts_at
  facts_refers = refl

  pub facts_plain : expr_class k ≡ Lident → (nth no_facts 0 (expr_facts x (node k s lo hi cs others))).plain ≡ is_local x cs
  unfolding fold facts_at
  facts_plain e = rw e

effect_kept : (x : ℕ) (f : Forest) → (unguarded x f).effect ≡ expr_da x f 0
unfolding unguarded fold expr_effect_at
effect_kept x nil = refl
effect_kept x (node k s lo hi cs others) = refl

module _ (x : ℕ) (f : Forest) where
  first_law : (sem : Semantics) → iff_quiet x f ≡ true → ExprLaw (nth no_facts 0 (expr_facts x f)) (nth no_evaluation 0 (evaluations sem x f))
  first_law sem q = related_at no_facts no_evaluation 0 no_law (expr_laws sem x f q)

  pub effect_told : (r : ExprEffect) → r ≡ expr_effect_of x f 0 → EffectTold x f r
  effect_told r e = record { facts = facts_effects x f 0 ∙ sym e; law = first_law }

  pub da_told : (r : RowEffect) → r ≡ unguarded x f → DaTold x f r
  da_told r e =
      let d : expr_da x f 0 ≡ r.effect = sym (rw e (effect_kept x f)) in
      record { effect = d; writing = ap guarded e ∙ sym (effect_first x f); law = λ sem q. subst (λ d. EffectLaw d (nth no_evaluation 0 (evaluations sem x f))) (ap (λ o. o.effect) (facts_effects x f 0) ∙ d) (first_law sem q).effect }

-- no row
pub none_told : (x : ℕ) (rows : Siblings) → rows.to ≤ rows.from → DaTold x (forest rows) no_row_effect
none_told x rows h = da_told x (forest rows) no_row_effect (unguarded_none x rows h)
