-- Document 01's listing, `y = x;` with the names x and y, loaded by the definition from its bytes; and small sheets that are
-- refused, each with its number and its place.
use Prim.Native.Nat.{ℕ}
use Prim.Native.String.{String}
use mathlib.Core.Path.{◌≡◌, refl}
use mathlib.Core.List.{List, [], ◌∷◌, ◌++◌}
use Rattle.table.specs.Rows.{tree, tree_by}
use Rattle.table.specs.Fold.{fold}
use Rattle.kinds.specs.Kinds.{bytes, kinds, entry, is_kind, in_class, of_class, class_number, side_fits, takes, once, many, fits}
use Rattle.kinds.specs.Words.{same, place_from, kind_of}
use Rattle.checks.specs.Checks.{holds, when_held, first_from, ends_before, above, enclosing, end_fits, depth_at, ends_at, kind_alone, children_at, root_at}
use Rattle.text.specs.Fields.{is_stop, field_length, field_of, stop_at, stands, ends_by, after, starts_with, below, is_graphic, all_graphic}
use Rattle.text.specs.Numbers.{is_digit, all_digits, is_empty, zero_first, decimal, bounded, number_of}
use Rattle.lines.specs.Lines.{keyed, number_line, jump_mark, name_of, name_line, five_fields, row_of, row_from, row_fields, row_line, row_at}
use Rattle.sheet.specs.Sections.{lines_from, number_step, name_step, row_step}
use Rattle.std.specs.Prelude.{Ok}
use Rattle.sheet.specs.Load.{refusal_of, place_of, before_rows, lines_of, refuse, table_of, has_room, checked_answer, finish_of, load_of}

-- a line, ended by byte 10
abbrev pub line : String → List ℕ
line s = bytes s ++ (10 ∷ [])

abbrev pub head : List ℕ
head = line "sheet=1" ++ line "names=2" ++ line "name=x" ++ line "name=y" ++ line "local=0" ++ line "start=0" ++ line "sole=1"

abbrev pub listing : List ℕ
listing =
    head ++ line "rows=9" ++ line "row=blocking 0 0 6 9" ++ line "row=none 0 0 0 2" ++ line "row=none 0 0 0 3" ++ line "row=lident 0 0 1 6"
    ++ line "row=path 0 0 1 6" ++ line "row=seg 1 0 1 6" ++ line "row=ident 0 4 5 9" ++ line "row=path 0 4 5 9" ++ line "row=seg 0 4 5 9"

-- the listing fills the front of both tables
pub listing_loads : load_of listing 46 7
    ≡ record {
      answer = Ok (record { names = 2; rows = 9; local = 0; start = 0; sole = 1 });
      rows =
          11 ∷ 0 ∷ 0 ∷ 6 ∷ 9 ∷ 0 ∷ 0 ∷ 0 ∷ 0 ∷ 2 ∷ 0 ∷ 0 ∷ 0 ∷ 0 ∷ 3 ∷ 60 ∷ 0 ∷ 0 ∷ 1 ∷ 6 ∷ 1 ∷ 0 ∷ 0 ∷ 1 ∷ 6 ∷ 2 ∷ 1 ∷ 0 ∷ 1 ∷ 6 ∷ 41 ∷ 0 ∷ 4 ∷ 5 ∷ 9 ∷ 1 ∷ 0 ∷ 4 ∷ 5 ∷ 9 ∷ 2 ∷ 0 ∷ 4 ∷ 5 ∷ 9 ∷ 0 ∷ [];
      names = 21 ∷ 1 ∷ 0 ∷ 28 ∷ 1 ∷ 0 ∷ 0 ∷ [];
    }
unfolding load_of lines_of before_rows number_step number_line keyed starts_with ends_by stands stop_at field_length is_stop after field_of number_of is_empty zero_first all_digits is_digit decimal bounded lines_from name_step name_line name_of jump_mark all_graphic is_graphic below row_step row_at row_line row_fields row_from five_fields row_of kind_of place_from same kinds entry side_fits is_kind in_class of_class class_number takes once many fits has_room checked_answer finish_of table_of holds when_held first_from ends_before above enclosing end_fits depth_at ends_at kind_alone children_at root_at tree tree_by fold
listing_loads = refl

-- what document 01 says of a load: the refusal's number and its place, with tables for one row and two names unless said
abbrev told : List ℕ → ℕ → ℕ → List ℕ
told s row_room name_room = refusal_of (load_of s row_room name_room).answer ∷ place_of (load_of s row_room name_room).answer ∷ []

abbrev of : List ℕ → List ℕ
of s = told s 5 6

abbrev one : String → List ℕ
one row = head ++ line "rows=1" ++ line row

pub record Refusals : Type 0 where
  pub good : of (one "row=null 0 4 5 1") ≡ 0 ∷ 0 ∷ []
  pub no_line : of [] ≡ 1 ∷ 1 ∷ []
  pub last_line : of (bytes "sheet=1") ≡ 1 ∷ 1 ∷ []
  pub wrong_key : of (line "sheet=1" ++ line "name=2") ≡ 1 ∷ 2 ∷ []
  pub six_fields : of (one "row=null 0 0 0 1 0") ≡ 1 ∷ 9 ∷ []
  pub extra_line : of (one "row=null 0 0 0 1" ++ line "") ≡ 1 ∷ 10 ∷ []
  pub extra_before_room : told (one "row=null 0 0 0 1" ++ line "") 4 6 ≡ 1 ∷ 10 ∷ []
  pub leading_zero : of (line "sheet=1" ++ line "names=02") ≡ 2 ∷ 2 ∷ []
  pub empty_number : of (one "row=null  0 0 1") ≡ 2 ∷ 9 ∷ []
  pub number_before_kind : of (one "row=nil 0 x 0 1") ≡ 2 ∷ 9 ∷ []
  pub version : of (line "sheet=2") ≡ 3 ∷ 1 ∷ []
  pub no_names : of (line "sheet=1" ++ line "names=0") ≡ 3 ∷ 2 ∷ []
  pub equal_names : of (line "sheet=1" ++ line "names=2" ++ line "name=x" ++ line "name=x") ≡ 4 ∷ 4 ∷ []
  pub unknown_kind : of (one "row=nil 0 0 0 1") ≡ 5 ∷ 9 ∷ []
  pub kind_before_side : of (one "row=nil 9 0 0 1") ≡ 5 ∷ 9 ∷ []
  pub wrong_side : of (one "row=null 1 0 0 1") ≡ 6 ∷ 9 ∷ []
  pub no_row_room : told (one "row=null 0 0 0 2") 4 6 ≡ 21 ∷ 0 ∷ []
  pub no_name_room : told (one "row=null 0 0 0 2") 5 5 ≡ 21 ∷ 0 ∷ []
  pub wrong_end : of (one "row=null 0 0 0 2") ≡ 7 ∷ 9 ∷ []
  pub no_statement : of (one "row=lit 0 0 0 1") ≡ 9 ∷ 9 ∷ []

pub refusals : Refusals
unfolding refuse load_of lines_of before_rows number_step number_line keyed starts_with ends_by stands stop_at field_length is_stop after field_of number_of is_empty zero_first all_digits is_digit decimal bounded lines_from name_step name_line name_of jump_mark all_graphic is_graphic below row_step row_at row_line row_fields row_from five_fields row_of kind_of place_from same kinds entry side_fits is_kind in_class of_class class_number takes once many fits has_room checked_answer finish_of table_of holds when_held first_from ends_before above enclosing end_fits depth_at ends_at kind_alone children_at root_at tree tree_by fold
refusals =
    record {
      good = refl;
      no_line = refl;
      last_line = refl;
      wrong_key = refl;
      six_fields = refl;
      extra_line = refl;
      extra_before_room = refl;
      leading_zero = refl;
      empty_number = refl;
      number_before_kind = refl;
      version = refl;
      no_names = refl;
      equal_names = refl;
      unknown_kind = refl;
      kind_before_side = refl;
      wrong_side = refl;
      no_row_room = refl;
      no_name_room = refl;
      wrong_end = refl;
      no_statement = refl;
    }
