-- What `true` tells C, from what the call below means by an accepted answer.
use Prim.Native.Nat.{ℕ}
use mathlib.Core.Path.{◌≡◌, sym, subst, ◌∙◌}
use mathlib.Core.Bool.{Bool, true, true≢false}
use mathlib.Core.List.{List}
use Rattle.sheet_record.specs.declared.Record.{Record}
use Rattle.answers.specs.declared.Answer.{Answer}
use Rattle.answers.specs.declared.Answer.TheVariants.{Falls, Jumps, GivesUp, Refused}
use Rattle.answers.specs.Answers.{AcceptedAnswer, is_accepted}
use Rattle.ask.specs.Meaning.{AskMeans}
use Rattle.verdict.specs.Meaning.{VerdictMeans}
use Rattle.capi.specs.Meaning.{TrueMeans, AskedTrueMeans}

-- an answer that is told to be accepted is
accepted_is : (a : Answer) → is_accepted a ≡ true → AcceptedAnswer a
accepted_is (Falls written) e = tt
accepted_is Jumps e = tt
accepted_is (GivesUp stop) e = true≢false (sym e)
accepted_is (Refused refusal place) e = true≢false (sym e)

pub true_means : (s : List ℕ) (a : Answer) (r : Bool) → VerdictMeans s a → r ≡ is_accepted a → TrueMeans s r
true_means s a r means h = record { safe = λ t. means.safe (accepted_is a (sym h ∙ t)) }

pub asked_true_means : (r q : Record) (rows names : List ℕ) (a : Answer) (b : Bool) → q ≡ r → AskMeans q rows names a → b ≡ is_accepted a → AskedTrueMeans r rows names b
asked_true_means r q rows names a b e means h = subst (λ (p : Record). AskedTrueMeans p rows names b) e (record { safe = λ t. means.safe (accepted_is a (sym h ∙ t)) })
