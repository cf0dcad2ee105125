-- Bytes read from the front of a field, and what they tell of the whole of it: if no stop is among them the field goes on where they end. The induction
-- is on the bytes.
use Prim.Native.Nat.{ℕ, suc, ◌+◌}
use mathlib.Core.Path.{◌≡◌, refl, sym, ◌∙◌}
use mathlib.Core.Bool.{Bool, true, false, and-eq-true_iff, true≢false}
use mathlib.Core.List.{List, [], ◌∷◌}
use native.Mathlib.Nat.{zero-add, add-zero}
use native.Mathlib.Omega.{arith}
use lib.Dec.{ltb}
use lib.ListN.{length, drop, get_or}
use lib.Seq.{drop-drop, get_or-drop}
use borrow.Author.Tests.{eqb-true}
use Rattle.std.specs.Prelude.{Option, Some, None}
use Rattle.text.specs.Fields.{byte_at, is_stop, field_length, stop_at, stands, ends_by, after, field}
use Rattle.text.specs.Steps.{after_byte, field_from, field_read}
use Rattle.text.proofs.Places.{byte_found, byte_missed}

-- the first `count` bytes of t are in its field; `all` is what they tell where they are all of it, `some` where they are not,
-- and `told` is what holds of the field
pub record Reads {A : Type 0} (some : A) (sep : ℕ) (t : List ℕ) (count : ℕ) (all told : A) : Type 0 where
  pub within : count + field_length sep (drop count t) ≡ field_length sep t
  pub whole : count ≡ field_length sep t → told ≡ all
  pub part : (count ≡ field_length sep t → ⊥) → told ≡ some

module _ {A : Type 0} {some : A} {sep : ℕ} where
  -- no byte of a field that has none
  pub reads_all : {t : List ℕ} {all : A} → field_length sep t ≡ 0 → Reads some sep t 0 all all
  reads_all e = record { within = zero-add _; whole = λ z. refl; part = λ n. absurd (n (sym e)) }

-- a byte that does not end the field is one more of it
longer : (sep b : ℕ) (t : List ℕ) → is_stop sep b ≡ false → field_length sep (b ∷ t) ≡ suc (field_length sep t)
unfolding field_length
longer sep b t s = rw s

module _ {A : Type 0} {some : A} {sep b : ℕ} {t : List ℕ} {all : A} (s : is_stop sep b ≡ false) where
  -- no byte of a field that has some
  pub reads_none : Reads some sep (b ∷ t) 0 all some
  reads_none = record { within = zero-add _; whole = λ z. absurd (omega (arith, longer sep b t s)); part = λ n. refl }

  -- one byte more
  pub reads_more : {count : ℕ} {told : A} → Reads some sep t count all told → Reads some sep (b ∷ t) (suc count) all told
  reads_more r =
      let l = longer sep b t s in
      record { within = omega (arith, r.within); whole = λ z. r.whole (omega arith); part = λ n. r.part (λ z. n (omega arith)) }

-- a field whose first byte ends it has none
stopped : (sep : ℕ) (t : List ℕ) → is_stop sep (get_or t 0 0) ≡ true → field_length sep t ≡ 0
unfolding field_length
stopped sep [] e = refl
stopped sep (b ∷ t) e = rw e

-- the byte that stands at a place
byte_at_lem : (end : ℕ) (s : List ℕ) (at : ℕ) → stands end s at ≡ true → byte_at s at ≡ end
unfolding stands
byte_at_lem end s at e = eqb-true (byte_at s at) end ((and-eq-true_iff (ltb at (length s)) _).0 e).1

-- the same at a place: the bytes read go up to `stop`
module _ {A : Type 0} (some : A) (sep : ℕ) (s : List ℕ) (at count : ℕ) (all told : A) (r : Reads some sep (drop at s) count all told) (stop : ℕ) (i : stop ≡ at + count) where
  -- what is left of the field stops where the field does
  pub rest_stop : stop_at sep s stop ≡ stop_at sep s at
  unfolding stop_at
  rest_stop = rw (i, ← drop-drop count at s) (omega (arith, r.within))

  -- where they are all of the field, it stops there
  pub whole_stop : count ≡ field_length sep (drop at s) → stop ≡ stop_at sep s at
  unfolding stop_at
  whole_stop e = omega arith

  -- a byte that ends fields follows them: they are all of the field
  module _ (end : ℕ) (e : is_stop sep end ≡ true) (h : stands end s stop ≡ true) where
    pub here : stop ≡ stop_at sep s at
    unfolding stop_at
    here =
        let z : is_stop sep (get_or (drop stop s) 0 0) ≡ true = rw (get_or-drop, add-zero, byte_at_lem end s stop h) e in
        omega (arith, rest_stop, stopped sep (drop stop s) z)

    pub told_all : told ≡ all
    unfolding stop_at
    told_all = r.whole (omega (arith, here, i))

  -- another byte follows them, and `end` ends the field: they are not all of it
  pub told_some : (end : ℕ) → stands end s stop ≡ false → stands end s (stop_at sep s at) ≡ true → told ≡ some
  told_some end n h = r.part (λ e. true≢false (sym h ∙ rw (← whole_stop e) n))

-- the field whose bytes up to a place were read, as what follows them was found
module _ (value : Option ℕ) (sep end : ℕ) (s : List ℕ) (stop : ℕ) (m : Option ℕ) (n : m ≡ after_byte end s stop) where
  pub from_ended : (next : ℕ) → m ≡ Some next → field_from value sep end s stop ≡ Some (record { value = value; next = next })
  unfolding field_from
  from_ended next p = let b = byte_found end s stop m n next p in rw (b.0, b.1)

  module _ (z : m ≡ None) (far : ℕ) (f : far ≡ stop_at sep s stop) (o : Option ℕ) (q : o ≡ after_byte end s far) where
    pub from_far : (next : ℕ) → o ≡ Some next → field_from value sep end s stop ≡ Some (record { value = None; next = next })
    unfolding field_from ends_by after
    from_far next p = let b = byte_found end s far o q next p in rw (byte_missed end s stop m n z, ← f, b.0, b.1)

    pub from_never : o ≡ None → field_from value sep end s stop ≡ None
    unfolding field_from ends_by
    from_never p = rw (byte_missed end s stop m n z, ← f, byte_missed end s far o q p)

-- it is what the field says to a reader, None where the bytes read are not all of it
module _ (says : List ℕ → Option ℕ) (sep end : ℕ) (s : List ℕ) (at count : ℕ) (all : Option ℕ) (r : Reads None sep (drop at s) count all (says (field sep s at))) (stop : ℕ) (i : stop ≡ at + count) (e : is_stop sep end ≡ true) where
  pub from_says : field_from all sep end s stop ≡ field_read says sep end s at
  unfolding field_from field_read ends_by after
  from_says = go (stands end s stop) (stands end s (stop_at sep s at)) refl refl
    where
      told : Option ℕ
      told = says (field sep s at)

      far : stop_at sep s stop ≡ stop_at sep s at
      far = rest_stop None sep s at count all told r stop i

      go : (b c : Bool) → stands end s stop ≡ b → stands end s (stop_at sep s at) ≡ c → field_from all sep end s stop ≡ field_read says sep end s at
      go true c h k =
          let p = here None sep s at count all told r stop i end e h in
          let g : stands end s (stop_at sep s at) ≡ true = rw (← p) h in
          rw (h, g, told_all None sep s at count all told r stop i end e h, ← p)
      go false true h k = rw (h, far, k, told_some None sep s at count all told r stop i end h k)
      go false false h k = rw (h, far, k)
