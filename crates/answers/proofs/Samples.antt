-- The texts of small answers by the definition, that of document 01's listing first.
use Prim.Native.Nat.{ℕ}
use Prim.Native.String.{String}
use mathlib.Core.Path.{◌≡◌, refl}
use mathlib.Core.Bool.{true, false}
use mathlib.Core.List.{List, [], ◌∷◌, ◌++◌}
use Rattle.kinds.specs.Kinds.{bytes}
use Rattle.refusals.specs.declared.Refusal.TheVariants.{WrongEnd, TooLong}
use Rattle.writing.specs.Spelling.{spelled_by, spelled, field_text}
use Rattle.answers.specs.declared.Answer.{Answer}
use Rattle.answers.specs.declared.Answer.TheVariants.{Falls, Jumps, GivesUp, Refused}
use Rattle.answers.specs.Answers.{answer_text}

-- a line, ended by byte 10
abbrev line : String → List ℕ
line s = bytes s ++ (10 ∷ [])

-- the one line of an answer, its fields joined by `;`
abbrev joined : Answer → List ℕ
joined answer = answer_text 59 answer

abbrev listing : Answer
listing = GivesUp (record { reason = 2; lo = 4; hi = 5 })

pub record Samples : Type 0 where
  pub the_listing : joined listing ≡ line "answer=giveup;state=0;reason=2;lo=4;hi=5"
  pub its_lines : answer_text 10 listing ≡ line "answer=giveup" ++ line "state=0" ++ line "reason=2" ++ line "lo=4" ++ line "hi=5"
  pub falls_written_lem : joined (Falls true) ≡ line "answer=falls;state=1;reason=0;lo=0;hi=0"
  pub falls_unwritten : joined (Falls false) ≡ line "answer=falls;state=0;reason=0;lo=0;hi=0"
  pub jumps : joined Jumps ≡ line "answer=jumps;state=0;reason=0;lo=0;hi=0"
  pub wrong_end : joined (Refused WrongEnd 9) ≡ line "answer=refused;state=0;reason=7;lo=9;hi=0"
  pub too_long : joined (Refused TooLong 0) ≡ line "answer=refused;state=0;reason=10;lo=0;hi=0"
  pub large : joined (GivesUp (record { reason = 9; lo = 4294967295; hi = 18446744073709551615 })) ≡ line "answer=giveup;state=0;reason=9;lo=4294967295;hi=18446744073709551615"

pub samples : Samples
unfolding answer_text field_text spelled spelled_by
samples =
    record {
      the_listing = refl;
      its_lines = refl;
      falls_written_lem = refl;
      falls_unwritten = refl;
      jumps = refl;
      wrong_end = refl;
      too_long = refl;
      large = refl;
    }
