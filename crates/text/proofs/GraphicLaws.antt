-- What the bytes from 33 to 126 that `graphic_line` reads at a place tell of the line there: they are all of it, or one that is not such stops
-- them. The induction is on the bytes.
use Prim.Native.Nat.{ℕ, ◌+◌}
use mathlib.Core.Path.{◌≡◌, refl, sym, ◌∙◌}
use mathlib.Core.Bool.{Bool, true, false, cond, ◌&&◌, and-eq-true_iff}
use mathlib.Core.List.{List, [], ◌∷◌}
use native.Mathlib.Omega.{arith}
use lib.Dec.{leb}
use lib.ListN.{drop}
use borrow.Author.Tests.{leb-true, ne_eqb}
use Rattle.std.specs.Prelude.{Option, Some, None, is_some}
use Rattle.text.specs.Fields.{is_stop, field_length, field_of, field, stop_at, stands, ends_by, after, is_graphic, all_graphic}
use Rattle.text.specs.Steps.{after_byte, graphic_length, graphic_line}
use Rattle.text.proofs.FieldReads.{Reads, reads_all, reads_none, reads_more, rest_stop, here, told_all, told_some}

-- such a byte ends no line
inside : (b : ℕ) → is_graphic b ≡ true → is_stop 10 b ≡ false
unfolding is_graphic is_stop
inside b e = let h = leb-true 33 b ((and-eq-true_iff (leb 33 b) (leb b 126)).0 e).0 in rw (ne_eqb b 10 (λ z. absurd (omega arith)))

-- they are in the text of the line, and if they are all of it, it has no other byte
pub shows : (t : List ℕ) → Reads false 10 t (graphic_length t) true (all_graphic (field_of 10 t))
unfolding graphic_length field_length field_of all_graphic
shows [] = reads_all refl
shows (b ∷ t) = go (is_graphic b) (is_stop 10 b) refl refl (shows t)
  where
    go : (g s : Bool) → is_graphic b ≡ g → is_stop 10 b ≡ s → Reads false 10 t (graphic_length t) true (all_graphic (field_of 10 t)) → Reads false 10 (b ∷ t) (graphic_length (b ∷ t)) true (all_graphic (field_of 10 (b ∷ t)))
    go true s p q ih = let n = inside b p in rw (n, p) (reads_more n ih)
    go false true p q ih = rw (q, p) (reads_all (rw q))
    go false false p q ih = rw (q, p) (reads_none q)

pub line_stop : is_stop 10 10 ≡ true
unfolding is_stop
line_stop = refl

-- `graphic_line` at a place, where they go up to `stop`
module _ (s : List ℕ) (at stop : ℕ) (i : stop ≡ at + graphic_length (drop at s)) (m : Option ℕ) (n : m ≡ after_byte 10 s stop) where
  follows : is_some m ≡ stands 10 s stop
  unfolding after_byte
  follows = rw n (go (stands 10 s stop))
    where
      go : (b : Bool) → is_some (cond b (Some (stop + 1)) None) ≡ b
      go true = refl
      go false = refl

  -- where byte 10 follows them, they are the line's text
  pub line_ended : is_some m ≡ true → record { all = true; stop = stop; next = m } ≡ graphic_line s at
  unfolding graphic_line ends_by after after_byte
  line_ended e =
      let b = sym follows ∙ e in
      let h = here false 10 s at _ _ _ (shows (drop at s)) stop i 10 line_stop b in
      rw (told_all false 10 s at _ _ _ (shows (drop at s)) stop i 10 line_stop b, ← i, ← h, n, b)

  -- where another byte does, they are not
  pub line_far : is_some m ≡ false → (far : ℕ) → far ≡ stop_at 10 s stop → (o : Option ℕ) → o ≡ after_byte 10 s far → record { all = false; stop = stop; next = o } ≡ graphic_line s at
  unfolding graphic_line ends_by after after_byte
  line_far e far f o q =
      let h = rest_stop false 10 s at _ _ _ (shows (drop at s)) stop i in
      rw (fits (stands 10 s (stop_at 10 s at)) refl, ← i, q, f, h)
    where
      fits : (b : Bool) → stands 10 s (stop_at 10 s at) ≡ b → stands 10 s (stop_at 10 s at) && all_graphic (field 10 s at) ≡ false
      fits true h = rw (h, told_some false 10 s at _ _ _ (shows (drop at s)) stop i 10 (sym follows ∙ e) h)
      fits false h = rw h
