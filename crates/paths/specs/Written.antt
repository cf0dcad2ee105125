-- What demand 3 says of a path: "every read of the local on its path has a whole write before it". Definitions only.
use Rattle.std.specs.Prelude.{◌≡◌, List, [], ◌∷◌, ◌++◌}
use Rattle.paths.specs.Commands.{PathEvent, read, write, outside, choice}

-- the list holds a write; "all writes whole"
abbrev pub Written : List PathEvent → Type 0
Written [] = ⊥
Written (read ∷ s) = Written s
Written (outside ∷ s) = Written s
Written (write ∷ s) = Unit
Written (choice n ∷ s) = Written s

-- a read, or what counts as one: "Fork counts as a read, and so do the unmodelled forms"
abbrev pub IsRead : PathEvent → Type 0
IsRead read = Unit
IsRead outside = Unit
IsRead write = ⊥
IsRead (choice n) = ⊥

-- wherever a read stands in the list, what stands before it holds a write: "for demand 3 the local is unwritten at its start"
pub record ReadsWritten (t : List PathEvent) : Type 0 where
  pub before : (s u : List PathEvent) (e : PathEvent) → t ≡ s ++ (e ∷ u) → IsRead e → Written s
