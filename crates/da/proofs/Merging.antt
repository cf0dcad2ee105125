-- How arms meet: `merge` is a commutative monoid with Jumps as its identity, so that the order in which the arms of a case are merged,
-- and what they are merged into first, is free.
use mathlib.Core.Path.{◌≡◌, refl, sym}
use mathlib.Core.Bool.{Bool, true, false, ◌&&◌, and-true, and_comm, and_assoc}
use Rattle.kinds.proofs.Below.{true_not_false}
use Rattle.da.specs.declared.DaOut.{DaOut}
use Rattle.da.specs.declared.DaOut.TheVariants.{Falls, Jumps}
use Rattle.da.specs.Outcome.{State, written, meet, state, merge}

-- What both say, whatever order they are asked in; what is written says no less

pub meet_comm : (a b : State) → meet a b ≡ meet b a
meet_comm = and_comm

pub meet_assoc : (a b c : State) → meet (meet a b) c ≡ meet a (meet b c)
meet_assoc = and_assoc

pub meet_written : (a : State) → meet a written ≡ a
meet_written = and-true

pub written_meet : (a : State) → meet written a ≡ a
written_meet a = refl

-- The monoid: "A non-falling arm drops out"

pub merge_jumps : (a : DaOut) → merge a Jumps ≡ a
merge_jumps (Falls a) = refl
merge_jumps Jumps = refl

pub jumps_merge : (a : DaOut) → merge Jumps a ≡ a
jumps_merge a = refl

pub merge_comm : (a b : DaOut) → merge a b ≡ merge b a
merge_comm (Falls a) (Falls b) = rw (meet_comm a b)
merge_comm (Falls a) Jumps = refl
merge_comm Jumps b = sym (merge_jumps b)

pub merge_assoc : (a b c : DaOut) → merge (merge a b) c ≡ merge a (merge b c)
merge_assoc Jumps b c = refl
merge_assoc (Falls a) Jumps c = refl
merge_assoc (Falls a) (Falls b) Jumps = refl
merge_assoc (Falls a) (Falls b) (Falls c) = rw (meet_assoc a b c)

-- The Rust's formula

abbrev pub is_jumps : DaOut → Bool
is_jumps Jumps = true
is_jumps (Falls a) = false

-- "(DaOut::Jumps, DaOut::Jumps) => DaOut::Jumps"
pub both_jump : (a b : DaOut) → is_jumps a && is_jumps b ≡ true → merge a b ≡ Jumps
both_jump Jumps Jumps h = refl
both_jump Jumps (Falls b) h = true_not_false (sym h)
both_jump (Falls a) b h = true_not_false (sym h)

-- "_ => DaOut::Falls(self.state() && other.state())"
pub one_falls : (a b : DaOut) → is_jumps a && is_jumps b ≡ false → merge a b ≡ Falls (meet (state a) (state b))
one_falls (Falls a) (Falls b) h = refl
one_falls (Falls a) Jumps h = rw (meet_written a)
one_falls Jumps (Falls b) h = rw (written_meet b)
one_falls Jumps Jumps h = true_not_false h
