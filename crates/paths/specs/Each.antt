-- Lists of whose members something is so.
use Rattle.std.specs.Prelude.{List, [], ◌∷◌}

-- P is so of each member
abbrev pub Each : {A : Type 0} → (A → Type 0) → List A → Type 0
Each P [] = Unit
Each P (x ∷ xs) = P x × Each P xs
