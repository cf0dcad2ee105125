-- Commands that all are run, each once and whole, in an order that is left open (docs/DECISIONS.md, 115). Of n commands there are n! ways:
-- like all commands they are for proofs. Definitions only.
use Rattle.std.specs.Prelude.{List, [], ◌∷◌, ℕ, zero, suc, length}
use Rattle.paths.specs.Commands.{Command, skip, seq, alt}
use Rattle.paths.specs.Semantics.{Order, row_order, free_order}

-- one after the other, as they stand
abbrev pub in_turn : List Command → Command
in_turn [] = skip
in_turn (c ∷ cs) = seq c (in_turn cs)

-- one of `c` and these comes next; `go_on` says what becomes of the others
abbrev pub one_picked : (List Command → Command) → Command → List Command → Command
one_picked go_on c [] = seq c (go_on [])
one_picked go_on c (d ∷ ds) = alt (seq c (go_on (d ∷ ds))) (one_picked (λ others. go_on (c ∷ others)) d ds)

-- one of those left is picked n times, then the rest is run as it stands
abbrev pub picked : ℕ → List Command → Command
picked zero cs = in_turn cs
picked (suc n) [] = skip
picked (suc n) (c ∷ cs) = one_picked (λ others. picked n others) c cs

-- in any order
unfoldable pub any_order : List Command → Command
any_order cs = picked (length cs) cs

-- two: the first first, or either
abbrev pub either_first : Order → Command → Command → Command
either_first row_order c d = seq c d
either_first free_order c d = alt (seq c d) (seq d c)
