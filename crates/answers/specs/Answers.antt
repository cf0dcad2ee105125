-- What the caller of asking gets: document 01, "What the caller gets" and the end of "Worked statements". Definitions only.
use Rattle.std.specs.Prelude.{ℕ, ◌-◌, ◌≤◌, Bool, true, false, List, [], ◌∷◌, ◌++◌, length, get_or, replicate}
use Rattle.kinds.specs.Kinds.{bytes}
use Rattle.refusals.specs.Refusals.{refusal_number}
use Rattle.writing.specs.Spelling.{spelled, field_text}
use Rattle.answers.specs.declared.Answer.{Answer}
use Rattle.answers.specs.declared.Answer.TheVariants.{Falls, Jumps, GivesUp, Refused}
use Rattle.answers.specs.declared.Numbers.{Numbers}
use Rattle.writing.specs.declared.Text.{Text}

-- "Accepted means falls or jumps"
abbrev pub AcceptedAnswer : Answer → Type 0
AcceptedAnswer (Falls written) = Unit
AcceptedAnswer Jumps = Unit
AcceptedAnswer (GivesUp stop) = ⊥
AcceptedAnswer (Refused refusal place) = ⊥

-- the same as a test
abbrev pub is_accepted : Answer → Bool
is_accepted (Falls written) = true
is_accepted Jumps = true
is_accepted (GivesUp stop) = false
is_accepted (Refused refusal place) = false

-- "answer is falls, jumps, giveup or refused": the number of an answer is its place in this list
abbrev pub answer_words : List (List ℕ)
answer_words = bytes "falls" ∷ bytes "jumps" ∷ bytes "giveup" ∷ bytes "refused" ∷ []

-- "written 0 or 1"
abbrev pub bit_of : Bool → ℕ
bit_of true = 1
bit_of false = 0

-- the five numbers, in the order in which they are printed
abbrev pub five_numbers : ℕ → ℕ → ℕ → ℕ → ℕ → Numbers
five_numbers answer state reason lo hi = record { answer = answer; state = state; reason = reason; lo = lo; hi = hi }

-- "state is written, 0 unless falls; a refusal prints its number as reason, its place as lo. Unused is 0"
abbrev pub numbers_of : Answer → Numbers
numbers_of (Falls written) = five_numbers 0 (bit_of written) 0 0 0
numbers_of Jumps = five_numbers 1 0 0 0 0
numbers_of (GivesUp stop) = five_numbers 2 0 stop.reason stop.lo stop.hi
numbers_of (Refused refusal place) = five_numbers 3 0 (refusal_number refusal) place 0

-- the numbers of a walk's answer: "falls with written 0 or 1; jumps; give-up with reason, lo, hi"; the reasons are 1 to 9
pub data WalkNumbers : Numbers → Type 0 where
  falls : (written : Bool) → WalkNumbers (five_numbers 0 (bit_of written) 0 0 0)
  jumps : WalkNumbers (five_numbers 1 0 0 0 0)
  gives_up : (reason lo hi : ℕ) → 1 ≤ reason → reason ≤ 9 → WalkNumbers (five_numbers 2 0 reason lo hi)

-- the word of an answer
abbrev pub word_of : Answer → List ℕ
word_of answer = get_or answer_words (numbers_of answer).answer []

-- "it prints `answer=giveup;state=0;reason=2;lo=4;hi=5`": five fields, a separator between two of them and byte 10 at the end. Lines
-- are only "joined here by `;`": byte 10 as separator gives the five lines, byte 59 the one line.
unfoldable pub answer_text : ℕ → Answer → List ℕ
answer_text separator answer =
    field_text (bytes "answer=") (word_of answer) separator
    ++ (field_text (bytes "state=") (spelled (numbers_of answer).state) separator
    ++ (field_text (bytes "reason=") (spelled (numbers_of answer).reason) separator
    ++ (field_text (bytes "lo=") (spelled (numbers_of answer).lo) separator
    ++ field_text (bytes "hi=") (spelled (numbers_of answer).hi) 10)))

-- "the unused tail .. leave zeros; so does every later call": the text in front of zeros, 128 bytes in all
unfoldable pub filled_text : ℕ → Answer → Text
filled_text separator answer = record {
  bytes = answer_text separator answer ++ replicate (128 - length (answer_text separator answer)) 0;
  size = length (answer_text separator answer);
}
