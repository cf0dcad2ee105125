-- What is known to be written of the local. Only this file knows what a mark is; everything else cites its laws.
use Rattle.std.specs.Prelude.{Bool, true, false, T}

-- all of the local, or nothing that is known: "all writes whole"
pub Mark : Type 0
Mark = Bool

-- all is written
pub full : Mark
unfolding Mark
full = true

-- nothing is known to be written
pub blank : Mark
unfolding Mark
blank = false

-- whether all of the local is written
pub is_full : Mark → Bool
unfolding Mark
is_full a = a

-- what `a` says is written, `b` says too
infix 40 ◌⊑◌
pub record ◌⊑◌ (a b : Mark) : Type 0 where
  keeps : T (is_full a) → T (is_full b)

-- the laws

pub ⊑_refl : {a : Mark} → a ⊑ a
⊑_refl = record { keeps = λ h. h }

pub ⊑_trans : {a b c : Mark} → a ⊑ b → b ⊑ c → a ⊑ c
⊑_trans p q = record { keeps = λ h. q.keeps (p.keeps h) }

pub ⊑_full : {a : Mark} → a ⊑ full
unfolding is_full full
⊑_full = record { keeps = λ h. tt }

pub blank_⊑ : {a : Mark} → blank ⊑ a
unfolding is_full blank
blank_⊑ = record { keeps = λ h. absurd h }

-- nothing written is not all written
pub blank_not_full : full ⊑ blank → ⊥
unfolding is_full full blank
blank_not_full p = p.keeps tt
