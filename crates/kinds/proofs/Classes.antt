-- The last arm of a match on the class of a statement, which takes the classes that no other arm names; and the word of a class that
-- one word alone has. The inductions are on the arms named, and on the list of words.
use Prim.Native.Nat.{ℕ}
use Prim.Native.String.{String}
use mathlib.Core.Path.{◌≡◌, refl, sym, ap, ◌∙◌}
use mathlib.Core.Bool.{Bool, true, false, cond, ◌||◌}
use mathlib.Core.List.{List, [], ◌∷◌, map}
use mathlib.Core.Logic.{inl, inr}
use lib.Dec.{eqb}
use lib.ListN.{get_or}
use denote.Enum.Declared.{tag_of}
use types.Run.{OneOf}
use Rattle.kinds.specs.declared.StmtClass.{StmtClass}
use Rattle.kinds.specs.declared.StmtClass.TheVariants.{Absent, Match, Default, Decl, Blocking, Nonblocking, If, Return, Case, For, While, Repeat, Forever, Block, Fork, Systask, Task, Delayctrl, Eventctrl, Wait, Disable, Null, Unmodelled, NoStmt}
use Rattle.kinds.specs.Named.{numbered, stmt_words, stmt_class_in, stmt_class}
use Rattle.kinds.proofs.Below.{true_not_false}
use Rattle.kinds.specs.contracts.StmtClass.{the_type}

-- the classes in the order of their tags
abbrev pub classes : List StmtClass
classes =
    Absent ∷ Match ∷ Default ∷ Decl ∷ Blocking ∷ Nonblocking ∷ If ∷ Return ∷ Case ∷ For ∷ While ∷ Repeat ∷
    Forever ∷ Block ∷ Fork ∷ Systask ∷ Task ∷ Delayctrl ∷ Eventctrl ∷ Wait ∷ Disable ∷ Null ∷ Unmodelled ∷ NoStmt ∷ []

class_at : (c : StmtClass) → get_or classes (tag_of the_type c) NoStmt ≡ c
class_at Absent = refl
class_at Match = refl
class_at Default = refl
class_at Decl = refl
class_at Blocking = refl
class_at Nonblocking = refl
class_at If = refl
class_at Return = refl
class_at Case = refl
class_at For = refl
class_at While = refl
class_at Repeat = refl
class_at Forever = refl
class_at Block = refl
class_at Fork = refl
class_at Systask = refl
class_at Task = refl
class_at Delayctrl = refl
class_at Eventctrl = refl
class_at Wait = refl
class_at Disable = refl
class_at Null = refl
class_at Unmodelled = refl
class_at NoStmt = refl

-- the values of a function of classes at these tags, and one value as often as there are tags
abbrev pub values_at : {A : Type 0} → (StmtClass → A) → List ℕ → List A
values_at f tags = map (λ t. f (get_or classes t NoStmt)) tags

abbrev pub times : {A : Type 0} → A → List ℕ → List A
times a tags = map (λ t. a) tags

at_tag : {A : Type 0} (f : StmtClass → A) (a : A) (t : ℕ) (tags : List ℕ) (x : ℕ)
    → values_at f (t ∷ tags) ≡ times a (t ∷ tags)
    → OneOf (t ∷ tags) x
    → f (get_or classes x NoStmt) ≡ a
at_tag f a t [] x p e = rw e (cc)
at_tag f a t (u ∷ tags) x p (inl e) = rw e (cc)
at_tag f a t (u ∷ tags) x p (inr o) = at_tag f a u tags x (cc) o

-- a function that has one value at each of these tags has it at a class with one of them
pub last_arm : {A : Type 0} (f : StmtClass → A) (a : A) (t : ℕ) (tags : List ℕ) (c : StmtClass)
    → values_at f (t ∷ tags) ≡ times a (t ∷ tags)
    → OneOf (t ∷ tags) (tag_of the_type c)
    → f c ≡ a
last_arm f a t tags c p o = sym (ap f (class_at c)) ∙ at_tag f a t tags (tag_of the_type c) p o

-- a word of these whose class passes a test has this number
abbrev is_word : (StmtClass → Bool) → List (String × StmtClass) → ℕ → Bool
is_word test [] k = false
is_word test (w ∷ more) k = cond (test w.1) (eqb k (numbered w.0) || is_word test more k) (is_word test more k)

-- where the class of a number passes, the number is such a word's
class_word : (test : StmtClass → Bool) (words : List (String × StmtClass)) (k : ℕ) → test NoStmt ≡ false → test (stmt_class_in words k) ≡ true → is_word test words k ≡ true
unfolding stmt_class_in
class_word test [] k n e = sym n ∙ e
class_word test (w ∷ more) k n e = go (eqb k (numbered w.0)) (test w.1) refl e (class_word test more k n)
  where
    go : (b c : Bool) → test w.1 ≡ c → test (cond b w.1 (stmt_class_in more k)) ≡ true → (test (stmt_class_in more k) ≡ true → is_word test more k ≡ true) → cond c (b || is_word test more k) (is_word test more k) ≡ true
    go true true p e more-so = refl
    go true false p e more-so = true_not_false (sym e ∙ p)
    go false true p e more-so = more-so e
    go false false p e more-so = more-so e

-- the class of nonblocking is no other word's
pub nonblocking_word : (k : ℕ) → stmt_class k ≡ Nonblocking → eqb k (numbered "nonblocking") ≡ true
unfolding stmt_class stmt_words
nonblocking_word k e = alone (eqb k (numbered "nonblocking")) (class_word (λ c. eqb (tag_of the_type c) 5) stmt_words k refl (ap (λ c. eqb (tag_of the_type c) 5) e))
  where
    alone : (b : Bool) → b || false ≡ true → b ≡ true
    alone true e = refl
    alone false e = e
