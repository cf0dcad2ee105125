-- What stands at a place: a byte, or a key. A list's bytes from a place on are its rest.
use Prim.Native.Nat.{ℕ, ◌+◌, ◌≤◌, ◌<◌}
use mathlib.Core.Path.{◌≡◌, refl, sym, ◌∙◌}
use mathlib.Core.Bool.{Bool, true, false, cond, and-false}
use mathlib.Core.List.{List, [], ◌∷◌}
use native.Mathlib.Omega.{arith}
use lib.Dec.{eqb}
use lib.Pointwise.{pointwise}
use lib.ListN.{length, take, drop}
use borrow.Author.Tests.{eq-eqb, ne_eqb, lt-ltb, le-ltb}
use Rattle.std.specs.Prelude.{Option, Some, None}
use Rattle.text.specs.Fields.{byte_at, stands, starts_with}
use Rattle.text.specs.Steps.{after_byte, after_key}

-- the byte at a place: none, this one, or another
pub byte_past : (byte : ℕ) (s : List ℕ) (at : ℕ) → length s ≤ at → after_byte byte s at ≡ None
unfolding after_byte stands
byte_past byte s at h = rw (le-ltb at (length s) h)

pub byte_is : (byte : ℕ) (s : List ℕ) (at : ℕ) → at < length s → byte_at s at ≡ byte → after_byte byte s at ≡ Some (at + 1)
unfolding after_byte stands
byte_is byte s at h e = rw (lt-ltb at (length s) h, eq-eqb (byte_at s at) byte e)

pub byte_other : (byte : ℕ) (s : List ℕ) (at : ℕ) → (byte_at s at ≡ byte → ⊥) → after_byte byte s at ≡ None
unfolding after_byte stands
byte_other byte s at n = rw (ne_eqb (byte_at s at) byte n, and-false)

-- what a caller of `after_byte` knows
module _ (byte : ℕ) (s : List ℕ) (at : ℕ) (o : Option ℕ) (q : o ≡ after_byte byte s at) where
  pub byte_found : (next : ℕ) → o ≡ Some next → (stands byte s at ≡ true) × (next ≡ at + 1)
  unfolding after_byte
  byte_found next e = go (stands byte s at) (sym q ∙ e)
    where
      go : (b : Bool) → cond b (Some (at + 1)) None ≡ Some next → (b ≡ true) × (next ≡ at + 1)
      go true p = (refl, cc)
      go false p = absurd (let z : ◌≡◌ {A = ℕ} 0 1 = cc in omega arith)

  pub byte_missed : o ≡ None → stands byte s at ≡ false
  unfolding after_byte
  byte_missed e = go (stands byte s at) (sym q ∙ e)
    where
      go : (b : Bool) → cond b (Some (at + 1)) None ≡ None → b ≡ false
      go true p = absurd (let z : ◌≡◌ {A = ℕ} 0 1 = cc in omega arith)
      go false p = refl

-- a key begins a list where the library's comparison says so
pub begins : (key t : List ℕ) → pointwise eqb key (take (length key) t) ≡ starts_with key t
unfolding starts_with
begins [] t = refl
begins (x ∷ key) [] = refl
begins (x ∷ key) (y ∷ t) = rw (begins key t)

pub key_is : (key s : List ℕ) (at : ℕ) → starts_with key (drop at s) ≡ true → after_key key s at ≡ Some (at + length key)
unfolding after_key
key_is key s at e = rw e

pub key_other : (key s : List ℕ) (at : ℕ) → starts_with key (drop at s) ≡ false → after_key key s at ≡ None
unfolding after_key
key_other key s at e = rw e
