-- Where a statement, or an arm of a case, holds statements and arms: at some places among its children. What counts at these places is
-- said child by child; nothing recurses.
use Prim.Native.Nat.{ℕ, suc}
use mathlib.Core.Path.{◌≡◌, refl}
use mathlib.Core.Bool.{Bool, true, false, ◌||◌, not}
use mathlib.Core.List.{List, [], ◌∷◌}
use Rattle.table.specs.Fold.{nth, tail}
use Rattle.kinds.specs.declared.StmtClass.{StmtClass}
use Rattle.kinds.specs.declared.StmtClass.TheVariants.{Absent, Match, Default, Decl, Blocking, Nonblocking, If, Return, Case, For, While, Repeat, Forever, Block, Fork, Systask, Task, Delayctrl, Eventctrl, Wait, Disable, Null, Unmodelled, NoStmt}
use Rattle.loops.proofs.Gather.{Gather}
use Rattle.loops.proofs.Places.{Places, look}

abbrev pub places_of : StmtClass → Places
places_of Absent = record { first = []; later = false }
places_of Match = record { first = true ∷ []; later = false }
places_of Default = record { first = true ∷ []; later = false }
places_of Decl = record { first = []; later = false }
places_of Blocking = record { first = []; later = false }
places_of Nonblocking = record { first = []; later = false }
places_of If = record { first = false ∷ true ∷ true ∷ []; later = false }
places_of Return = record { first = []; later = false }
places_of Case = record { first = false ∷ []; later = true }
places_of For = record { first = true ∷ false ∷ true ∷ true ∷ []; later = false }
places_of While = record { first = false ∷ true ∷ []; later = false }
places_of Repeat = record { first = false ∷ true ∷ []; later = false }
places_of Forever = record { first = true ∷ []; later = false }
places_of Block = record { first = []; later = true }
places_of Fork = record { first = []; later = true }
places_of Systask = record { first = []; later = false }
places_of Task = record { first = []; later = false }
places_of Delayctrl = record { first = false ∷ true ∷ []; later = false }
places_of Eventctrl = record { first = false ∷ true ∷ []; later = false }
places_of Wait = record { first = false ∷ true ∷ []; later = false }
places_of Disable = record { first = []; later = false }
places_of Null = record { first = []; later = false }
places_of Unmodelled = record { first = []; later = true }
places_of NoStmt = record { first = []; later = false }

nth_tail : {A : Type 0} (d : A) (n : ℕ) (xs : List A) → nth d n (tail xs) ≡ nth d (suc n) xs
nth_tail d n [] = refl
nth_tail d n (x ∷ xs) = refl

-- what counts at these places, child by child
module _ (g : Gather) (bs : List Bool) where
  pub look_first : look g (true ∷ []) false bs ≡ nth g.unit 0 bs
  look_first = g.right (nth g.unit 0 bs)

  pub look_second : look g (false ∷ true ∷ []) false bs ≡ nth g.unit 1 bs
  look_second = simp (g.right, nth_tail)

  pub look_both : look g (false ∷ true ∷ true ∷ []) false bs ≡ g.op (nth g.unit 1 bs) (nth g.unit 2 bs)
  look_both = simp (g.right, nth_tail)

  pub look_two : look g (true ∷ true ∷ []) false bs ≡ g.op (nth g.unit 0 bs) (nth g.unit 1 bs)
  look_two = simp (g.right, nth_tail)

  pub look_three : look g (true ∷ false ∷ true ∷ true ∷ []) false bs ≡ g.op (nth g.unit 0 bs) (g.op (nth g.unit 2 bs) (nth g.unit 3 bs))
  look_three = simp (g.right, nth_tail)

-- one test where another passes
abbrev pub if_so : Bool → Bool → Bool
if_so a b = not a || b

pub so : (a b : Bool) → if_so a b ≡ true → a ≡ true → b ≡ true
so true b e h = e
so false b e h = let z : ◌≡◌ {A = Bool} true b = cc in cc
