-- The parts of an answer's text that the code puts by themselves.
use Rattle.std.specs.Prelude.{ℕ, List, ◌∷◌, ◌++◌}
use Rattle.kinds.specs.Kinds.{bytes}
use Rattle.writing.specs.Spelling.{spelled, field_text}
use Rattle.answers.specs.declared.Answer.{Answer}
use Rattle.answers.specs.Answers.{word_of}

-- the first key with its word
unfoldable pub word_text : Answer → List ℕ
word_text answer = bytes "answer=" ++ word_of answer

-- the first two fields
unfoldable pub outcome_text : ℕ → Answer → ℕ → List ℕ
outcome_text separator answer state = word_text answer ++ (separator ∷ field_text (bytes "state=") (spelled state) separator)

-- the last three
unfoldable pub stop_text : ℕ → ℕ → ℕ → ℕ → List ℕ
stop_text separator reason lo hi =
    field_text (bytes "reason=") (spelled reason) separator
    ++ (field_text (bytes "lo=") (spelled lo) separator
    ++ field_text (bytes "hi=") (spelled hi) 10)
