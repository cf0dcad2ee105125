-- Numbers or bytes put into a slice, one by one and one text after the other: what is put so far, with what is left, is what the whole puts. The
-- places left fall.
use Prim.Native.Nat.{ℕ, suc, ◌+◌, ◌-◌, ◌≤◌}
use mathlib.Core.Path.{◌≡◌, refl, sym, ap, ◌∙◌}
use mathlib.Core.List.{List, [], ◌∷◌, ◌++◌, append_assoc}
use native.Mathlib.Nat.{add-zero}
use native.Mathlib.Omega.{arith}
use lib.ListN.{length, set, take, drop, length-append}
use lib.Seq.{length-sets, sets-eq, length-take-le, take_at, take-append_seam}
use borrow.Rule.Slice.PartMut.{post_of, put_mid, Post-is}
use Rattle.writing.specs.Putting.{put, PutAt}

put_put : (out : List ℕ) (at : ℕ) (a b : List ℕ) → put (put out at a) (at + length a) b ≡ put out at (a ++ b)
put_put out at [] b = rw add-zero
put_put out at (x ∷ a) b = let e : at + suc (length a) ≡ suc at + length a = omega arith in rw e (put_put (set out at x) (suc at) a b)

-- what is put where it has room stands after what stood before it
pub front_put : (out : List ℕ) (at : ℕ) (others : List ℕ) → at + length others ≤ length out → take (at + length others) (put out at others) ≡ take at out ++ others
front_put out at others h =
    let l : length (take at out ++ others) ≡ at + length others = length-append (take at out) others ∙ omega (arith, length-take-le at out (omega arith)) in
    rw (sets-eq others out at h) (take_at (take at out ++ others) (drop (at + length others) out) (at + length others) l)

-- for a caller that puts texts one after the other: none yet, and one more where the last ended
pub put_none : (out : List ℕ) (at : ℕ) → PutAt out at [] out at
put_none out at = record { place = sym (add-zero at); bytes = refl }

pub put_then : (out o p : List ℕ) (at r s : ℕ) (a b : List ℕ) → PutAt out at a o r → PutAt o r b p s → PutAt out at (a ++ b) p s
put_then out o p at r s a b w v = record {
  place = omega (arith, w.place, v.place, length-append a b);
  bytes = v.bytes ∙ rw (w.bytes, w.place, put_put out at a b);
}

module _ (out o : List ℕ) (at r : ℕ) (text : List ℕ) (w : PutAt out at text o r) where
  pub put_kept : length o ≡ length out
  put_kept = ap length w.bytes ∙ length-sets out at text

  -- what stands before a text that fits, and after it, stays
  pub put_whole_lem : r ≤ length out → o ≡ take at out ++ text ++ drop r out
  put_whole_lem h = let l : at + length text ≤ length out = omega (arith, w.place) in w.bytes ∙ sets-eq text out at l ∙ rw w.place

-- what is put from 0 on is the front
pub put_front : (out o : List ℕ) (r : ℕ) (text : List ℕ) → PutAt out 0 text o r → r ≤ length out → take r o ≡ text
put_front out o r text w h = let e : r ≡ length text = omega (arith, w.place) in rw (put_whole_lem out o 0 r text w h, e) (take-append_seam text _)

pub put_one : (out : List ℕ) (at byte : ℕ) → PutAt out at (byte ∷ []) (set out at byte) (at + 1)
put_one out at byte = record { place = refl; bytes = refl }

-- a text copied over the part of a slice that begins at a place and is as long
pub put_part : (out text copied : List ℕ) (at : ℕ) → copied ≡ text → at + length text ≤ length out → PutAt out at text (put_mid at (at + length text - at) out copied) (at + length text)
put_part out text copied at e h =
    let k : post_of at (at + length text - at) out ≡ drop (at + length text) out = Post-is at (at + length text) out (omega arith) in
    record { place = refl; bytes = ap (λ l. take at out ++ (copied ++ l)) k ∙ rw e (sym (append_assoc (take at out) text _) ∙ sym (sets-eq text out at h)) }
