-- What a state of the walk says is written on a path. Only this file knows how a state is held; the proofs about the walk cite
-- these laws.
use mathlib.Core.Path.{◌≡◌, refl}
use mathlib.Core.Bool.{Bool, true, false, cond}
use Rattle.paths.specs.Marks.{Mark, full, blank, ◌⊑◌, ⊑_refl, ⊑_full, blank_⊑}
use Rattle.da.specs.Outcome.{State, unwritten, written, is_written, gains, meet}

pub known : State → Mark
known a = cond (is_written a) full blank

pub known_written : known written ≡ full
unfolding known
known_written = refl

pub known_unwritten : known unwritten ≡ blank
unfolding known
known_unwritten = refl

-- where the walk's question is answered yes, all is written
pub known_all : (a : State) → is_written a ≡ true → known a ≡ full
unfolding known
known_all a q = rw q

-- a state gains, and loses nothing
pub known_gains : (wrote : Bool) (a : State) → known a ⊑ known (gains wrote a)
unfolding known
known_gains wrote true = ⊑_refl
known_gains wrote false = blank_⊑

pub known_gained : (wrote : Bool) (a : State) → wrote ≡ true → known (gains wrote a) ≡ full
unfolding known
known_gained wrote true q = refl
known_gained wrote false q = rw q

pub gains_nothing : (wrote : Bool) (a : State) → wrote ≡ false → gains wrote a ≡ a
gains_nothing wrote true q = refl
gains_nothing wrote false q = q

-- what two states say together, each says
pub known_meet_first : (a b : State) → known (meet a b) ⊑ known a
unfolding known
known_meet_first true b = ⊑_full
known_meet_first false b = ⊑_refl

pub known_meet_second : (a b : State) → known (meet a b) ⊑ known b
unfolding known
known_meet_second true b = ⊑_refl
known_meet_second false b = blank_⊑
