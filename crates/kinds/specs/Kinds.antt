-- The table of kinds: document 01, "The sheet", "One table of kinds holds each word, its side numbers and its children".
-- Definitions only. All that is said of a kind anywhere is read from the list `kinds`.
use Rattle.std.specs.Prelude.{ℕ, Bool, true, false, cond, ◌&&◌, ◌||◌, List, [], ◌∷◌, get_or, eqb, leb, ltb}
use Prim.Native.Char.{code}
use Prim.Native.String.{String, [] as end, ◌∷◌ as ◌then◌}

-- What a place among the children may ask for: "S statement, E expression, L target", or a kind by its word.
-- `absent` is the kind `none`; "star or list" and "match or default" (an arm) are two kinds each.
pub data Class : Type 0 where
  absent path seg delay intra star_or_list event arm decl S E L : Class

-- "Side is 0 unless given": given as a name number, or as the numbers from 0 up to one
pub data Sides : Type 0 where
  zero_only : Sides
  up_to : ℕ → Sides
  name_number : Sides

-- an item of a kind's children: "? may be `none`, * any count"
pub record Item : Type 0 where
  pub class : Class
  pub may_be_absent : Bool
  pub may_repeat : Bool

abbrev pub one : Class → Item
one c = record { class = c; may_be_absent = false; may_repeat = false }

abbrev pub optional : Class → Item
optional c = record { class = c; may_be_absent = true; may_repeat = false }

abbrev pub any : Class → Item
any c = record { class = c; may_be_absent = false; may_repeat = true }

-- "each word, its side numbers and its children", and the class that its kind is of
pub record Entry : Type 0 where
  pub word : List ℕ
  pub class : Class
  pub sides : Sides
  pub children : List Item

-- the bytes of a quoted word
abbrev pub bytes : String → List ℕ
bytes end = []
bytes (c then s) = code c ∷ bytes s

abbrev pub kind : String → Class → Sides → List Item → Entry
kind w c s items = record { word = bytes w; class = c; sides = s; children = items }

-- "Kind numbers count from 0 in this order". Sides: a call's is its effect, 0 to 3; a task's is effect plus 4 if it
-- suspends; unary 1 is logical not; binary 1 is &&, 2 is ||; a loop's is 1 if at least one round always runs.
unfoldable pub kinds : List Entry
kinds =
    kind "none" absent zero_only [] ∷
    kind "path" path zero_only (any seg ∷ []) ∷
    kind "seg" seg name_number [] ∷
    kind "delay" delay zero_only (any E ∷ []) ∷
    kind "intra" intra zero_only (optional E ∷ one star_or_list ∷ []) ∷
    kind "star" star_or_list zero_only [] ∷
    kind "list" star_or_list zero_only (any event ∷ []) ∷
    kind "event" event zero_only (one E ∷ optional E ∷ []) ∷
    kind "match" arm zero_only (one S ∷ any E ∷ []) ∷
    kind "default" arm zero_only (one S ∷ []) ∷
    kind "decl" decl name_number (optional E ∷ []) ∷
    kind "blocking" S zero_only (optional delay ∷ optional intra ∷ one L ∷ one E ∷ []) ∷
    kind "nonblocking" S zero_only (optional delay ∷ optional intra ∷ one L ∷ one E ∷ []) ∷
    kind "if" S zero_only (one E ∷ one S ∷ optional S ∷ []) ∷
    kind "return" S zero_only (optional E ∷ []) ∷
    kind "case" S zero_only (one E ∷ any arm ∷ []) ∷
    kind "for" S (up_to 1) (one S ∷ one E ∷ one S ∷ one S ∷ []) ∷
    kind "while" S (up_to 1) (one E ∷ one S ∷ []) ∷
    kind "repeat" S (up_to 1) (one E ∷ one S ∷ []) ∷
    kind "forever" S (up_to 1) (one S ∷ []) ∷
    kind "block" S zero_only (any decl ∷ any S ∷ []) ∷
    kind "fork" S zero_only (any S ∷ []) ∷
    kind "systask" S zero_only (any E ∷ []) ∷
    kind "task" S (up_to 7) (one path ∷ any E ∷ []) ∷
    kind "randstmt" S zero_only [] ∷
    kind "delayctrl" S zero_only (one delay ∷ optional S ∷ []) ∷
    kind "eventctrl" S zero_only (one star_or_list ∷ optional S ∷ []) ∷
    kind "trigger" S zero_only [] ∷
    kind "wait" S zero_only (one E ∷ optional S ∷ []) ∷
    kind "disable" S zero_only (one path ∷ []) ∷
    kind "waitfork" S zero_only [] ∷
    kind "concurrent" S zero_only (optional S ∷ optional S ∷ []) ∷
    kind "passign" S zero_only [] ∷
    kind "deassign" S zero_only [] ∷
    kind "force" S zero_only [] ∷
    kind "release" S zero_only [] ∷
    kind "deferred" S zero_only (one S ∷ one S ∷ []) ∷
    kind "cover" S zero_only [] ∷
    kind "null" S zero_only [] ∷
    kind "error" S zero_only [] ∷
    kind "lit" E zero_only [] ∷
    kind "ident" E zero_only (one path ∷ []) ∷
    kind "unary" E (up_to 1) (one E ∷ []) ∷
    kind "binary" E (up_to 2) (one E ∷ one E ∷ []) ∷
    kind "ternary" E zero_only (one E ∷ one E ∷ one E ∷ []) ∷
    kind "bitsel" E zero_only (one E ∷ one E ∷ []) ∷
    kind "partsel" E zero_only (one E ∷ one E ∷ one E ∷ []) ∷
    kind "indexed" E zero_only (one E ∷ one E ∷ one E ∷ []) ∷
    kind "mtm" E zero_only (one E ∷ one E ∷ one E ∷ []) ∷
    kind "concat" E zero_only (any E ∷ []) ∷
    kind "syscall" E zero_only (any E ∷ []) ∷
    kind "pattern" E zero_only (any E ∷ []) ∷
    kind "replicate" E zero_only (one E ∷ any E ∷ []) ∷
    kind "method" E zero_only (one E ∷ any E ∷ []) ∷
    kind "call" E (up_to 3) (one path ∷ any E ∷ []) ∷
    kind "paren" E zero_only (one E ∷ []) ∷
    kind "cast" E zero_only (one E ∷ optional E ∷ []) ∷
    kind "namedarg" E zero_only (optional E ∷ []) ∷
    kind "new" E zero_only (one E ∷ optional E ∷ []) ∷
    kind "opaque" E zero_only [] ∷
    kind "lident" L zero_only (one path ∷ []) ∷
    kind "lbit" L zero_only (one L ∷ one E ∷ []) ∷
    kind "lpart" L zero_only (one L ∷ one E ∷ one E ∷ []) ∷
    kind "lidx" L zero_only (one L ∷ one E ∷ one E ∷ []) ∷
    kind "lconcat" L zero_only (any L ∷ []) ∷
    kind "lerror" L zero_only [] ∷
    []

-- what stands for a kind number that is not in the table
abbrev pub no_entry : Entry
no_entry = record { word = []; class = absent; sides = zero_only; children = [] }

-- the entry of a kind number
unfoldable pub entry : ℕ → Entry
entry k = get_or kinds k no_entry

-- a class by its place in the list above
unfoldable pub class_number : Class → ℕ
class_number absent = 0
class_number path = 1
class_number seg = 2
class_number delay = 3
class_number intra = 4
class_number star_or_list = 5
class_number event = 6
class_number arm = 7
class_number decl = 8
class_number S = 9
class_number E = 10
class_number L = 11

-- whether an entry is of a class
unfoldable pub of_class : Class → Entry → Bool
of_class c e = eqb (class_number e.class) (class_number c)

-- whether a kind number is in the table, and whether its kind is of a class
unfoldable pub is_kind : ℕ → Bool
is_kind k = ltb k 66

unfoldable pub in_class : Class → ℕ → Bool
in_class c k = is_kind k && of_class c (entry k)

-- "6: side number not allowed for the kind": whether the side numbers of a kind have this one, with so many names
unfoldable pub side_fits : Sides → ℕ → ℕ → Bool
side_fits zero_only names side = eqb side 0
side_fits (up_to n) names side = leb side n
side_fits name_number names side = ltb side names

-- whether an item takes a child of this kind
unfoldable pub takes : Item → ℕ → Bool
takes i k = (i.may_be_absent && in_class absent k) || in_class i.class k

-- the next child must pass the test, and the rest is for what comes after
unfoldable pub once : (ℕ → Bool) → (List ℕ → Bool) → List ℕ → Bool
once test after [] = false
once test after (k ∷ ks) = test k && after ks

-- the next children as long as they pass the test, and the rest is for what comes after
unfoldable pub many : (ℕ → Bool) → (List ℕ → Bool) → List ℕ → Bool
many test after [] = after []
many test after (k ∷ ks) = cond (test k) (many test after ks) (after (k ∷ ks))

-- "9: children that don't fit the kind": whether children of these kinds, in order, fit the items
unfoldable pub fits : List Item → List ℕ → Bool
fits [] [] = true
fits [] (k ∷ ks) = false
fits (i ∷ items) ks = cond i.may_repeat (many (takes i) (fits items) ks) (once (takes i) (fits items) ks)
