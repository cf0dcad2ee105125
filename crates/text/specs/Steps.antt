-- What the code answers of bytes on its way: the place after what stands at a place, if it stands there, and how far a number or a name goes on.
-- Nothing here is document 01's: what these say of a field is proved in proofs/DigitLaws and proofs/GraphicLaws.
use Rattle.std.specs.Prelude.{ℕ, zero, suc, ◌+◌, ◌-◌, ◌*◌, Bool, cond, ◌&&◌, Option, Some, None, List, [], ◌∷◌, eqb, leb, length, drop}
use Rattle.text.specs.Fields.{stands, ends_by, field, after, starts_with, is_graphic, all_graphic}
use Rattle.text.specs.Numbers.{is_digit, bounded}
use Rattle.text.specs.declared.Field.{Field}
use Rattle.text.specs.declared.GraphicLine.{GraphicLine}

-- the place after this byte, if it stands at a place
unfoldable pub after_byte : ℕ → List ℕ → ℕ → Option ℕ
after_byte byte s at = cond (stands byte s at) (Some (at + 1)) None

-- the place after a key, if it stands at a place
unfoldable pub after_key : List ℕ → List ℕ → ℕ → Option ℕ
after_key key s at = cond (starts_with key (drop at s)) (Some (at + length key)) None

-- whether a byte goes on with a number that is v so far: a digit, after which the number is below 4,294,967,300
unfoldable pub goes_on : ℕ → ℕ → Bool
goes_on v b = is_digit b && leb v 429496729

-- the number, and how many digits are read
unfoldable pub more_value : ℕ → List ℕ → ℕ
more_value v [] = v
more_value v (b ∷ t) = cond (goes_on v b) (more_value (v * 10 + (b - 48)) t) v

unfoldable pub more_count : ℕ → List ℕ → ℕ
more_count v [] = zero
more_count v (b ∷ t) = cond (goes_on v b) (suc (more_count (v * 10 + (b - 48)) t)) zero

-- the same from the first byte on: after a zero no more are read, and where no digit stands there is no number
unfoldable pub first_value : List ℕ → Option ℕ
first_value [] = None
first_value (b ∷ t) = cond (eqb b 48) (Some 0) (cond (is_digit b) (bounded (more_value (b - 48) t)) None)

unfoldable pub first_count : List ℕ → ℕ
first_count [] = zero
first_count (b ∷ t) = cond (eqb b 48) 1 (cond (is_digit b) (suc (more_count (b - 48) t)) zero)

-- the field whose bytes up to a place were read and say this: nothing, where `end` ends it further on
unfoldable pub field_from : Option ℕ → ℕ → ℕ → List ℕ → ℕ → Option Field
field_from value sep end s stop =
    cond (stands end s stop) (Some (record { value = value; next = stop + 1 }))
    (cond (ends_by sep end s stop) (Some (record { value = None; next = after sep s stop })) None)

-- the field at a place, if `end` ends it: what its text says to a reader, and the place after it
unfoldable pub field_read : (List ℕ → Option ℕ) → ℕ → ℕ → List ℕ → ℕ → Option Field
field_read says sep end s at = cond (ends_by sep end s at) (Some (record { value = says (field sep s at); next = after sep s at })) None

-- how many bytes go on with a name
unfoldable pub graphic_length : List ℕ → ℕ
graphic_length [] = zero
graphic_length (b ∷ t) = cond (is_graphic b) (suc (graphic_length t)) zero

-- the line from a place on: whether byte 10 ends it and its text is all graphic, the place of the first other byte, and the place after it, if it ends so
unfoldable pub graphic_line : List ℕ → ℕ → GraphicLine
graphic_line s at =
    record { all = ends_by 10 10 s at && all_graphic (field 10 s at); stop = at + graphic_length (drop at s); next = cond (ends_by 10 10 s at) (Some (after 10 s at)) None }
