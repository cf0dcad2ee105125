-- Triples: what a command keeps to on each of its runs. Definitions only; the rules are in proofs/Rules.
use Rattle.std.specs.Prelude.{List, [], ◌∷◌}
use Rattle.paths.specs.Marks.{Mark, full, ◌⊑◌}
use Rattle.paths.specs.Commands.{PathEvent, read, write, outside, choice, Ending, falls, stops, leaves, again, Command, Runs}

-- demand 3, that every read of the local has a whole write before it, of one event where this much is written
abbrev pub SafeEvent : PathEvent → Mark → Type 0
SafeEvent read w = full ⊑ w
SafeEvent outside w = full ⊑ w
SafeEvent write w = Unit
SafeEvent (choice n) w = Unit

-- what is written after an event
abbrev pub written_after : PathEvent → Mark → Mark
written_after read w = w
written_after outside w = w
written_after write w = full
written_after (choice n) w = w

-- every event of the list is fine, from w on, and P is true of what is written at its end
abbrev pub Good : List PathEvent → (Mark → Type 0) → Mark → Type 0
Good [] P w = P w
Good (e ∷ t) P w = SafeEvent e w × Good t P (written_after e w)

-- what is claimed where control goes on: that so much is written there, or that it never goes there
pub data Claim : Type 0 where
  at : Mark → Claim
  never : Claim

-- a claim, where this much is written
abbrev pub Holds : Claim → Mark → Type 0
Holds (at b) w = b ⊑ w
Holds never w = ⊥

-- the claims at an ending: one for what stands next, one for loop jumps
abbrev pub Ends : Claim → Claim → Ending → Mark → Type 0
Ends next jump falls w = Holds next w
Ends next jump stops w = Unit
Ends next jump leaves w = Holds jump w
Ends next jump again w = Holds jump w

-- from any mark at least `a`, every run of `c` is fine and ends as claimed
pub record Triple (a : Mark) (c : Command) (next jump : Claim) : Type 0 where
  pub go : (w : Mark) → a ⊑ w → (t : List PathEvent) (o : Ending) → Runs c t o → Good t (Ends next jump o) w
