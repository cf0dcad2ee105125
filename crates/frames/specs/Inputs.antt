-- What reading does to an input, as far as the bytes that it has left are known. Definitions only.
use Rattle.std.specs.Prelude.{ℕ, ◌≤◌, List, length, take, Option}
use Rattle.std.specs.Io.KnownBytes.{Consumes}

-- an input has given some bytes, and no others
pub record Advances (before after : Option (List ℕ)) : Type 0 where
  pub bytes : List ℕ
  pub given : Consumes before after bytes

-- these bytes stand at the front of a slice
abbrev pub AdvancesInto : Option (List ℕ) → Option (List ℕ) → List ℕ → Type 0
AdvancesInto before after space = (n : ℕ) × (n ≤ length space) × Consumes before after (take n space)
