-- The kinds that rules speak of by name, as the numbers that the code matches on: each name is looked up in the list, and each match is computed at
-- all 66 numbers.
use Prim.Native.Nat.{ℕ, zero, suc, ◌-◌, ◌<◌}
use native.Mathlib.Omega.{arith}
use mathlib.Core.Path.{◌≡◌, refl}
use mathlib.Core.Bool.{cond}
use lib.Dec.{eqb}
use borrow.Author.Tests.{ne_eqb}
use Rattle.kinds.specs.declared.ExprClass.TheVariants.{Ident, Call, Lident, Opaque, Event, Unary, Binary, Ternary, Paren, Other}
use Rattle.kinds.specs.declared.StmtClass.{StmtClass}
use Rattle.kinds.specs.declared.StmtClass.TheVariants.{Absent, Match, Default, Decl, Blocking, Nonblocking, If, Return, Case, For, While, Repeat, Forever, Block, Fork, Systask, Task, Delayctrl, Eventctrl, Wait, Disable, Null, Unmodelled, NoStmt}
use Rattle.kinds.specs.Kinds.{kinds}
use Rattle.kinds.specs.Words.{same, place_from, kind_of}
use Rattle.kinds.specs.Named.{kind_number, numbered, expr_class, stmt_words, stmt_class_in, stmt_class}

module _ (k : ℕ) where
  -- the words' numbers
  expr_numbers : expr_class k
      ≡ cond (eqb k 41) Ident (cond (eqb k 54) Call (cond (eqb k 60) Lident (cond (eqb k 59) Opaque (cond (eqb k 7) Event
      (cond (eqb k 42) Unary (cond (eqb k 43) Binary (cond (eqb k 44) Ternary (cond (eqb k 55) Paren Other))))))))
  unfolding expr_class numbered kind_number kind_of place_from kinds same
  expr_numbers = refl

  pub event_is : k ≡ 7 → Event ≡ expr_class k
  event_is e = rw (expr_numbers, e)

  pub ident_is : k ≡ 41 → Ident ≡ expr_class k
  ident_is e = rw (expr_numbers, e)

  pub unary_is : k ≡ 42 → Unary ≡ expr_class k
  unary_is e = rw (expr_numbers, e)

  pub binary_is : k ≡ 43 → Binary ≡ expr_class k
  binary_is e = rw (expr_numbers, e)

  pub ternary_is : k ≡ 44 → Ternary ≡ expr_class k
  ternary_is e = rw (expr_numbers, e)

  pub call_is : k ≡ 54 → Call ≡ expr_class k
  call_is e = rw (expr_numbers, e)

  pub paren_is : k ≡ 55 → Paren ≡ expr_class k
  paren_is e = rw (expr_numbers, e)

  pub opaque_is : k ≡ 59 → Opaque ≡ expr_class k
  opaque_is e = rw (expr_numbers, e)

  pub lident_is : k ≡ 60 → Lident ≡ expr_class k
  lident_is e = rw (expr_numbers, e)

  pub other_is : (k ≡ 7 → ⊥) → (k ≡ 41 → ⊥) → (k ≡ 42 → ⊥) → (k ≡ 43 → ⊥) → (k ≡ 44 → ⊥) → (k ≡ 54 → ⊥) → (k ≡ 55 → ⊥) → (k ≡ 59 → ⊥) → (k ≡ 60 → ⊥) → Other ≡ expr_class k
  other_is a b c d e f g h i =
      rw (expr_numbers, ne_eqb k 7 a, ne_eqb k 41 b, ne_eqb k 42 c, ne_eqb k 43 d, ne_eqb k 44 e, ne_eqb k 54 f, ne_eqb k 55 g, ne_eqb k 59 h, ne_eqb k 60 i)

pub ruleset named = (event_is, ident_is, unary_is, binary_is, ternary_is, call_is, paren_is, opaque_is, lident_is, other_is)

-- the classes of statements, by the words' numbers
abbrev pub by_number : ℕ → StmtClass
by_number k =
    cond (eqb k 0) Absent (cond (eqb k 8) Match (cond (eqb k 9) Default (cond (eqb k 10) Decl
    (cond (eqb k 11) Blocking (cond (eqb k 12) Nonblocking (cond (eqb k 13) If (cond (eqb k 14) Return
    (cond (eqb k 15) Case (cond (eqb k 16) For (cond (eqb k 17) While (cond (eqb k 18) Repeat
    (cond (eqb k 19) Forever (cond (eqb k 20) Block (cond (eqb k 21) Fork (cond (eqb k 22) Systask
    (cond (eqb k 23) Task (cond (eqb k 24) Unmodelled (cond (eqb k 25) Delayctrl (cond (eqb k 26) Eventctrl
    (cond (eqb k 27) Unmodelled (cond (eqb k 28) Wait (cond (eqb k 29) Disable (cond (eqb k 30) Unmodelled
    (cond (eqb k 31) Unmodelled (cond (eqb k 32) Unmodelled (cond (eqb k 33) Unmodelled (cond (eqb k 34) Unmodelled
    (cond (eqb k 35) Unmodelled (cond (eqb k 36) Unmodelled (cond (eqb k 37) Unmodelled (cond (eqb k 38) Null
    (cond (eqb k 39) Unmodelled
    NoStmt))))))))))))))))))))))))))))))))

module _ (k : ℕ) where
  stmt_numbers : stmt_class k ≡ by_number k
  unfolding stmt_class stmt_class_in stmt_words numbered kind_number kind_of place_from kinds same
  stmt_numbers = refl

  pub stmt_is : (n : ℕ) (c : StmtClass) → k ≡ n → c ≡ by_number n → c ≡ stmt_class k
  stmt_is n c e v = rw (stmt_numbers, e) v

  -- "concurrent through cover"
  pub unmodelled_is : 29 < k → k < 38 → Unmodelled ≡ stmt_class k
  unmodelled_is l h = go (k - 30) refl
    where
      go : (d : ℕ) → k - 30 ≡ d → Unmodelled ≡ stmt_class k
      go zero q = stmt_is 30 Unmodelled (omega arith) refl
      go (suc zero) q = stmt_is 31 Unmodelled (omega arith) refl
      go (suc (suc zero)) q = stmt_is 32 Unmodelled (omega arith) refl
      go (suc (suc (suc zero))) q = stmt_is 33 Unmodelled (omega arith) refl
      go (suc (suc (suc (suc zero)))) q = stmt_is 34 Unmodelled (omega arith) refl
      go (suc (suc (suc (suc (suc zero))))) q = stmt_is 35 Unmodelled (omega arith) refl
      go (suc (suc (suc (suc (suc (suc zero)))))) q = stmt_is 36 Unmodelled (omega arith) refl
      go (suc (suc (suc (suc (suc (suc (suc zero))))))) q = stmt_is 37 Unmodelled (omega arith) refl
      go (suc (suc (suc (suc (suc (suc (suc (suc d)))))))) q = absurd (omega arith)

  -- every other number
  abbrev pub isnt : ℕ → Type 0
  isnt n = k ≡ n → ⊥

  pub no_stmt : isnt 0 → isnt 8 → isnt 9 → isnt 10 → isnt 11 → isnt 12 → isnt 13 → isnt 14 → isnt 15 → isnt 16 → isnt 17 →
      isnt 18 → isnt 19 → isnt 20 → isnt 21 → isnt 22 → isnt 23 → isnt 24 → isnt 25 → isnt 26 → isnt 27 → isnt 28 →
      isnt 29 → isnt 30 → isnt 31 → isnt 32 → isnt 33 → isnt 34 → isnt 35 → isnt 36 → isnt 37 → isnt 38 → isnt 39 →
      NoStmt ≡ stmt_class k
  no_stmt n0 n8 n9 n10 n11 n12 n13 n14 n15 n16 n17 n18 n19 n20 n21 n22 n23 n24 n25 n26 n27 n28 n29 n30 n31 n32 n33 n34
      n35 n36 n37 n38 n39 =
      rw stmt_numbers (simp ne_eqb)

pub ruleset stmt_named = (stmt_is, unmodelled_is, no_stmt)
