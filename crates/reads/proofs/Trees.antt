-- The reference test over trees: siblings, a row with what it holds, an event, and what the premise on iff makes of it: where no iff
-- refers, leaving them out changes nothing. By induction over the tree.
use Prim.Native.Nat.{ℕ}
use mathlib.Core.Path.{◌≡◌, refl, sym, ap, ◌∙◌}
use mathlib.Core.Bool.{Bool, true, false, cond, ◌&&◌, ◌||◌, not, or_assoc, or-false}
use mathlib.Core.List.{List, [], ◌∷◌, ◌++◌}
use borrow.Author.Tests.{not-true}
use Rattle.table.specs.Rows.{Forest, nil, node, rest}
use Rattle.table.specs.Fold.{fold, nth, tail, Pairwise, no_pair, pair}
use Rattle.table.proofs.Fold.{related_at}
use Rattle.kinds.specs.declared.ExprClass.TheVariants.{Event}
use Rattle.kinds.specs.Named.{expr_class, stmt_class}
use lib.Dec.{eqb}
use Rattle.kinds.proofs.Below.{both_true, true_not_false}
use Rattle.reads.specs.declared.Iff.{Iff}
use Rattle.reads.specs.declared.Iff.TheVariants.{Skipped, Included}
use Rattle.reads.specs.Mentions.{role_of, has_iff, skips_iff, mentions, in_row_order, passed_over, without_iff, seen_below, seen_at, seen, some, refers}
use Rattle.reads.specs.PathRows.{begins, segments}
use Rattle.reads.specs.NoRef.{expr_no_ref, Vetting, nothing, children, two_segments, not_vetted, vetting, vetted, stmt_no_ref}
use Rattle.reads.specs.Iffs.{iff_here, every, iff_at, iff_quiet}

some_append : (a b : List Bool) → some (a ++ b) ≡ some a || some b
unfolding some
some_append [] b = refl
some_append (m ∷ ms) b = rw (some_append ms b) (sym (or_assoc m (some ms) (some b)))

some_passed_over : (a : List Bool) → some (passed_over a) ≡ false
unfolding some passed_over
some_passed_over [] = refl
some_passed_over (m ∷ ms) = some_passed_over ms

module _ (iff : Iff) (x : ℕ) where
  pub refers_nil : refers iff x nil ≡ false
  unfolding refers seen fold in_row_order some
  refers_nil = refl

  module _ (k s lo hi : ℕ) (cs others : Forest) where
    -- siblings: one of them refers
    pub refers_node : refers iff x (node k s lo hi cs others) ≡ refers iff x (node k s lo hi cs nil) || refers iff x others
    unfolding refers seen fold in_row_order some
    refers_node =
        some_append (seen_at iff x k s lo hi cs (fold (seen_at iff x) cs)) (seen iff x others)
        ∙ ap (λ b. b || refers iff x others)
        (sym (some_append (seen_at iff x k s lo hi cs (fold (seen_at iff x) cs)) [] ∙ or-false (some (seen_at iff x k s lo hi cs (fold (seen_at iff x) cs)))))

-- any row, from what is seen below it
refers_seen : (iff : Iff) (x k s lo hi : ℕ) (cs : Forest) → refers iff x (node k s lo hi cs nil) ≡ mentions x (expr_class k) cs || some (seen_below iff (expr_class k) (fold (seen_at iff x) cs))
unfolding refers seen fold in_row_order seen_at some
refers_seen iff x k s lo hi cs =
    some_append (mentions x (expr_class k) cs ∷ seen_below iff (expr_class k) (fold (seen_at iff x) cs)) []
    ∙ or-false (mentions x (expr_class k) cs || some (seen_below iff (expr_class k) (fold (seen_at iff x) cs)))

-- every arm of expr_no_ref and lvalue_no_ref: the row is a mention itself, or one that it holds refers
pub refers_held : (iff : Iff) (x k s lo hi : ℕ) (cs : Forest) → skips_iff iff (expr_class k) ≡ false → refers iff x (node k s lo hi cs nil) ≡ mentions x (expr_class k) cs || refers iff x cs
unfolding refers seen seen_below
refers_held iff x k s lo hi cs q = refers_seen iff x k s lo hi cs ∙ rw q

-- "evs.iter().all(|ev| expr_no_ref(&ev.expr, name))": of an event its expression alone
pub refers_event : (x k s lo hi : ℕ) (k' s' lo' hi' : ℕ) (cs iff : Forest)
    → expr_class k ≡ Event
    → refers Skipped x (node k s lo hi (node k' s' lo' hi' cs iff) nil) ≡ refers Skipped x (node k' s' lo' hi' cs nil)
unfolding refers seen fold in_row_order seen_below some
refers_event x k s lo hi k' s' lo' hi' cs iff e =
    let m = seen_at Skipped x k' s' lo' hi' cs (fold (seen_at Skipped x) cs) in
    refers_seen Skipped x k s lo hi (node k' s' lo' hi' cs iff)
    ∙ rw (e) (some_append m (passed_over (in_row_order (fold (seen_at Skipped x) iff))) ∙ rw (some_passed_over (in_row_order (fold (seen_at Skipped x) iff))) (or-false (some m) ∙ sym (some_append m [] ∙ or-false (some m))))

-- where iffs are included: a row refers where it is a mention itself, or holds one
pub refers_row : (x k s lo hi : ℕ) (cs : Forest) → refers Included x (node k s lo hi cs nil) ≡ mentions x (expr_class k) cs || refers Included x cs
refers_row x k s lo hi cs = refers_held Included x k s lo hi cs refl

-- the premise on iff, row by row
module _ (x k s lo hi : ℕ) (cs others : Forest) (q : iff_quiet x (node k s lo hi cs others) ≡ true) where
  quiet_parts : (iff_here x (expr_class k) cs && iff_quiet x cs ≡ true) × (iff_quiet x others ≡ true)
  unfolding iff_quiet fold every iff_at
  quiet_parts = both_true (iff_here x (expr_class k) cs && iff_quiet x cs) (iff_quiet x others) q

  pub quiet_here : iff_here x (expr_class k) cs ≡ true
  quiet_here = (both_true (iff_here x (expr_class k) cs) (iff_quiet x cs) quiet_parts.0).0

  pub quiet_children : iff_quiet x cs ≡ true
  quiet_children = (both_true (iff_here x (expr_class k) cs) (iff_quiet x cs) quiet_parts.0).1

  pub quiet_others : iff_quiet x others ≡ true
  quiet_others = quiet_parts.1

  -- the row without the siblings after it
  pub quiet_alone : iff_quiet x (node k s lo hi cs nil) ≡ true
  unfolding iff_quiet fold every iff_at
  quiet_alone = rw quiet_parts.0

-- a first sibling that there may be, and the ones after it
first_rest : (x : ℕ) (f : Forest) → refers Included x f ≡ some (nth [] 0 (fold (seen_at Included x) f)) || refers Included x (rest f)
unfolding refers seen fold in_row_order rest some
first_rest x nil = refl
first_rest x (node k s lo hi cs others) = some_append (seen_at Included x k s lo hi cs (fold (seen_at Included x) cs)) (seen Included x others)

-- two lists of which one says true somewhere exactly where the other does
record SameSome (a b : List Bool) : Type 0 where
  is : some a ≡ some b

same_all : {ms ns : List (List Bool)} → Pairwise SameSome ms ns → some (in_row_order ms) ≡ some (in_row_order ns)
unfolding in_row_order
same_all no_pair = refl
same_all (pair {x = a} {y = b} {xs = ms} {ys = ns} h hs) = some_append a (in_row_order ms) ∙ rw (h.is, same_all hs) (sym (some_append b (in_row_order ns)))

-- what is seen below a row is the same either way, where it is of its children, and no iff refers
below_same : (x : ℕ) (cs : Forest) (event : Bool) → not (event && refers Included x (rest cs)) ≡ true
    → Pairwise SameSome (fold (seen_at Skipped x) cs) (fold (seen_at Included x) cs)
    → some (cond event (without_iff (fold (seen_at Skipped x) cs)) (seen Skipped x cs)) ≡ refers Included x cs
unfolding refers seen
below_same x cs true h p =
    some_append (nth [] 0 (fold (seen_at Skipped x) cs)) (passed_over (in_row_order (tail (fold (seen_at Skipped x) cs))))
    ∙ rw (some_passed_over (in_row_order (tail (fold (seen_at Skipped x) cs))), (related_at [] [] 0 (record { is = refl }) p).is) (sym (first_rest x cs ∙ rw (not-true (refers Included x (rest cs)) h)))
below_same x cs false h p = same_all p

row_same : (x k s lo hi : ℕ) (cs : Forest) → iff_here x (expr_class k) cs ≡ true
    → Pairwise SameSome (fold (seen_at Skipped x) cs) (fold (seen_at Included x) cs)
    → SameSome (seen_at Skipped x k s lo hi cs (fold (seen_at Skipped x) cs)) (seen_at Included x k s lo hi cs (fold (seen_at Included x) cs))
unfolding seen_at some seen_below iff_here refers seen
row_same x k s lo hi cs h p = record { is = ap (λ b. mentions x (expr_class k) cs || b) (below_same x cs (has_iff (role_of (expr_class k))) h p) }

same_each : (x : ℕ) (f : Forest) → iff_quiet x f ≡ true → Pairwise SameSome (fold (seen_at Skipped x) f) (fold (seen_at Included x) f)
unfolding fold
same_each x nil q = no_pair
same_each x (node k s lo hi cs others) q =
    pair (row_same x k s lo hi cs (quiet_here x k s lo hi cs others q) (same_each x cs (quiet_children x k s lo hi cs others q)))
    (same_each x others (quiet_others x k s lo hi cs others q))

-- where no iff refers, it does not matter whether they are looked at
pub refers_quiet : (x : ℕ) (f : Forest) → iff_quiet x f ≡ true → refers Skipped x f ≡ refers Included x f
unfolding refers seen
refers_quiet x f q = same_all (same_each x f q)

-- what stmt_no_ref's yes means: a statement that is not null holds no row that refers

vetted_clear : (v : Vetting) (x : ℕ) (cs : Forest) → (v ≡ nothing → ⊥) → vetted v x cs ≡ true → refers Skipped x cs ≡ false
vetted_clear nothing x cs n e = absurd (n refl)
vetted_clear children x cs n e = not-true (refers Skipped x cs) e
vetted_clear two_segments x cs n e = not-true (refers Skipped x cs) (both_true (not (begins x cs)) (expr_no_ref x cs) (both_true (eqb (segments cs) 2) (not (begins x cs) && expr_no_ref x cs) e).1).1
vetted_clear not_vetted x cs n e = true_not_false (sym e)

pub stmt_clear : (x k s lo hi : ℕ) (cs others : Forest) → (vetting (stmt_class k) ≡ nothing → ⊥) → stmt_no_ref x (node k s lo hi cs others) ≡ true → refers Skipped x cs ≡ false
unfolding stmt_no_ref
stmt_clear x k s lo hi cs others n e = vetted_clear (vetting (stmt_class k)) x cs n e
