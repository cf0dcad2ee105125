-- An input that gives some bytes and then more has given some.
use Rattle.std.proofs.Common.{List, ℕ, ◌++◌, Option}
use Rattle.std.proofs.KnownBytes.{Consumes-trans}
use Rattle.frames.specs.Inputs.{Advances}

pub advances_then : (a b c : Option (List ℕ)) → Advances a b → Advances b c → Advances a c
advances_then a b c p q = record { bytes = p.bytes ++ q.bytes; given = Consumes-trans a b c p.bytes q.bytes p.given q.given }
