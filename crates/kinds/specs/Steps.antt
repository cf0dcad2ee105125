-- The numbers that the code keeps for an entry of the table, and how it reads them. Nothing here is document 01's: that
-- these numbers say what the list says is proved in proofs/Numbers.
use Rattle.std.specs.Prelude.{ℕ, suc, ◌+◌, ◌*◌, ◌/◌, ◌%◌, Bool, true, false, cond, ◌&&◌, ◌||◌, List, [], ◌∷◌, eqb, leb, ltb}
use Rattle.kinds.specs.declared.SideNumbers.{SideNumbers}
use Rattle.kinds.specs.declared.SideNumbers.TheVariants.{Below, Names}
use Rattle.kinds.specs.declared.Kind.{Kind}
use Rattle.kinds.specs.Kinds.{Class, Sides, zero_only, up_to, name_number, Item, Entry, kinds, of_class}

-- the side numbers that the code's table holds
unfoldable pub sides_number : Sides → SideNumbers
sides_number zero_only = Below 1
sides_number (up_to n) = Below (suc n)
sides_number name_number = Names

unfoldable pub side_below : SideNumbers → ℕ → ℕ → Bool
side_below (Below n) names side = ltb side n
side_below Names names side = ltb side names

abbrev pub bit : Bool → ℕ
bit true = 1
bit false = 0

-- The kinds of a class stand together in the table: how many stand before them, and how many they are.
unfoldable pub count_before : Class → List Entry → ℕ
count_before c [] = 0
count_before c (e ∷ es) = cond (of_class c e) 0 (suc (count_before c es))

unfoldable pub amount : Class → List Entry → ℕ
amount c [] = 0
amount c (e ∷ es) = bit (of_class c e) + amount c es

-- so the number of its first kind, and the number past its last
unfoldable pub first_of : Class → ℕ
first_of c = count_before c kinds

unfoldable pub past_of : Class → ℕ
past_of c = count_before c kinds + amount c kinds

-- four hex digits an item: two for the number past its class, two for the first of its class, with 0x80 added to the
-- latter if it may be absent and to the former if it may repeat
unfoldable pub item_number : Item → ℕ
item_number i = first_of i.class + 128 * bit i.may_be_absent + 256 * (past_of i.class + 128 * bit i.may_repeat)

-- the first item lowest
unfoldable pub items_number : List Item → ℕ
items_number [] = 0
items_number (i ∷ items) = item_number i + 65536 * items_number items

-- whether a kind is of the class of a number's first item; whether the item takes a child of this kind; whether it may repeat
unfoldable pub of_first : ℕ → ℕ → Bool
of_first items k = leb (items % 128) k && ltb k (items / 256 % 128)

unfoldable pub takes_first : ℕ → ℕ → Bool
takes_first items k = (leb 128 (items % 256) && eqb k 0) || of_first items k

unfoldable pub repeats_first : ℕ → Bool
repeats_first items = leb 32768 (items % 65536)

-- the items after the first
unfoldable pub rest_first : ℕ → ℕ
rest_first items = items / 65536

-- the items left for the next child, once the first item has taken one
unfoldable pub after_first : ℕ → ℕ
after_first items = cond (repeats_first items) items (rest_first items)

unfoldable pub numbers : Entry → Kind
numbers e = record { sides = sides_number e.sides; children = items_number e.children }
