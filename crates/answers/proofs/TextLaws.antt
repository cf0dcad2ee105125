-- The text of an answer, field by field: each field is put after those before it, and the places of all are at most 128.
use Prim.Native.Nat.{ℕ, zero, suc, ◌-◌, ◌≤◌}
use mathlib.Core.Path.{◌≡◌, sym, ap, ◌∙◌}
use mathlib.Core.List.{List, [], ◌∷◌, ◌++◌, append_assoc}
use native.Mathlib.Nat.{sub-zero}
use native.Mathlib.Omega.{arith}
use lib.ListN.{length, take, drop, replicate}
use Rattle.kinds.specs.Kinds.{bytes}
use Rattle.writing.specs.Spelling.{spelled, field_text}
use Rattle.writing.specs.Putting.{PutAt}
use Rattle.writing.proofs.Puts.{put_then, put_kept, put_whole_lem, put_front}
use Rattle.answers.specs.declared.Answer.{Answer}
use Rattle.writing.specs.declared.Text.{Text}
use Rattle.answers.specs.declared.Numbers.{Numbers}
use Rattle.answers.specs.Answers.{numbers_of, word_of, answer_text, filled_text}
use Rattle.answers.specs.Steps.{word_text, outcome_text, stop_text}

-- the parts that the code puts are the five fields
regroup : (key word field rest : List ℕ) (separator : ℕ) → key ++ word ++ (separator ∷ field) ++ rest ≡ key ++ (word ++ separator ∷ []) ++ (field ++ rest)
regroup key word field rest separator = simp append_assoc

whole : (a : Answer) (separator : ℕ)
    → outcome_text separator a (numbers_of a).state ++ stop_text separator (numbers_of a).reason (numbers_of a).lo (numbers_of a).hi ≡ answer_text separator a
unfolding answer_text outcome_text word_text stop_text field_text
whole a separator =
    let n = numbers_of a in
    regroup (bytes "answer=") (word_of a) (field_text (bytes "state=") (spelled n.state) separator) (stop_text separator n.reason n.lo n.hi) separator

-- zeros after the text
rest_zeros : (n r : ℕ) → drop r (replicate {A = ℕ} n 0) ≡ replicate (n - r) 0
rest_zeros n zero = rw sub-zero
rest_zeros zero (suc r) = let e : 0 - suc r ≡ 0 = omega arith in rw e
rest_zeros (suc n) (suc r) = let e : suc n - suc r ≡ n - r = omega arith in rw e (rest_zeros n r)

-- the two parts put into a new text, one after the other, are the whole text at the front
module _ (a : Answer) (n : Numbers) (separator : ℕ) (first middle text : Text) (e : n ≡ numbers_of a) (z : first.bytes ≡ replicate 128 0) (m : first.size ≡ 0)
    (v : PutAt first.bytes first.size (outcome_text separator a n.state) middle.bytes middle.size)
    (w : PutAt middle.bytes middle.size (stop_text separator n.reason n.lo n.hi) text.bytes text.size) where
  at_front : PutAt (replicate 128 0) 0 (answer_text separator a) text.bytes text.size
  at_front = let u = put_then first.bytes middle.bytes text.bytes first.size middle.size text.size _ _ v w in rw (← whole a separator, ← e, ← z, ← m) u

  pub text_whole : text.size ≤ 128 → text ≡ filled_text separator a
  unfolding filled_text
  text_whole h =
      let u : text.size ≡ length (answer_text separator a) = omega (arith, at_front.place) in
      let b : text.bytes ≡ answer_text separator a ++ replicate (128 - length (answer_text separator a)) 0 = put_whole_lem (replicate 128 0) text.bytes 0 text.size (answer_text separator a) at_front h ∙ rw (rest_zeros 128 text.size, u) in
      ap (λ bytes. record { bytes = bytes; size = text.size }) b ∙ rw u

  pub text_room : 128 ≡ length text.bytes
  text_room = sym (put_kept (replicate 128 0) text.bytes 0 text.size (answer_text separator a) at_front)

  pub text_front : text.size ≤ 128 → take text.size text.bytes ≡ answer_text separator a
  text_front h = put_front (replicate 128 0) text.bytes text.size (answer_text separator a) at_front h
