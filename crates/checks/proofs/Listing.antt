-- The rows of document 01's listing, `y = x;` with the names x and y, by the definitions: the tree that they spell, and the checks that they pass; and
-- small tables that break several rules, of which the right one is told.
use Prim.Native.Nat.{ℕ}
use mathlib.Core.Path.{◌≡◌, refl}
use mathlib.Core.List.{List, [], ◌∷◌}
use Rattle.table.specs.Rows.{Forest, nil, node, tree, tree_by}
use Rattle.table.specs.Fold.{fold}
use Rattle.kinds.specs.Kinds.{kinds, entry, is_kind, in_class, of_class, class_number, side_fits, takes, once, many, fits}
use Rattle.refusals.specs.Refusals.{refused_at}
use Rattle.checks.specs.Checks.{passed}
use Rattle.refusals.specs.declared.Refusal.TheVariants.{WrongRecord, UnknownKind, WrongSide, WrongEnd, WrongChildren}
use Rattle.checks.specs.Checks.{holds, when_held, first_from, fields_at, fields_of, ends_before, above, enclosing, end_fits, depth_at, ends_at, kind_alone, children_at, root_at, children_of, checked_rows}

-- blocking none none lident path seg ident path seg
abbrev rows : List ℕ
rows =
    11 ∷ 0 ∷ 0 ∷ 6 ∷ 9 ∷
    0 ∷ 0 ∷ 0 ∷ 0 ∷ 2 ∷
    0 ∷ 0 ∷ 0 ∷ 0 ∷ 3 ∷
    60 ∷ 0 ∷ 0 ∷ 1 ∷ 6 ∷
    1 ∷ 0 ∷ 0 ∷ 1 ∷ 6 ∷
    2 ∷ 1 ∷ 0 ∷ 1 ∷ 6 ∷
    41 ∷ 0 ∷ 4 ∷ 5 ∷ 9 ∷
    1 ∷ 0 ∷ 4 ∷ 5 ∷ 9 ∷
    2 ∷ 0 ∷ 4 ∷ 5 ∷ 9 ∷
    []

abbrev spelt : Forest
spelt =
    node 11 0 0 6
    (node 0 0 0 0 nil
    (node 0 0 0 0 nil
    (node 60 0 0 1 (node 1 0 0 1 (node 2 1 0 1 nil nil) nil)
    (node 41 0 4 5 (node 1 0 4 5 (node 2 0 4 5 nil nil) nil)
    nil))))
    nil

pub record Listing : Type 0 where
  pub tree : tree rows 0 9 ≡ spelt
  pub fields : fields_of rows 9 2 ≡ passed
  pub children : children_of rows 9 ≡ passed
  pub one_name : fields_of rows 9 1 ≡ refused_at WrongSide 5
  pub checked : checked_rows rows 9 2 ≡ passed
  pub short : checked_rows rows 10 2 ≡ refused_at WrongRecord 0

pub listing : Listing
unfolding tree tree_by fold kinds entry is_kind in_class of_class class_number side_fits takes once many fits holds when_held first_from fields_at ends_before above enclosing end_fits depth_at ends_at kind_alone children_at root_at checked_rows
listing = record { tree = refl; fields = refl; children = refl; one_name = refl; checked = refl; short = refl }

-- a row by its kind and its end
abbrev plain : ℕ → ℕ → List ℕ → List ℕ
plain kind end more = kind ∷ 0 ∷ 0 ∷ 0 ∷ end ∷ more

-- "fields, ends and depth, children, each in row order": a block, kind 20, with an `if`, kind 13, or a null, 38, and a literal, 40, in it; 66 is no kind
pub record Precedence : Type 0 where
  pub field_first : checked_rows (plain 20 4 (plain 13 2 (plain 66 3 []))) 3 1 ≡ refused_at UnknownKind 2
  pub end_second : checked_rows (plain 20 4 (plain 13 1 (plain 40 3 []))) 3 1 ≡ refused_at WrongEnd 0
  pub own_end : checked_rows (plain 20 3 (plain 13 1 (plain 40 3 []))) 3 1 ≡ refused_at WrongEnd 1
  pub past_container : checked_rows (plain 20 3 (plain 13 2 (plain 40 4 []))) 3 1 ≡ refused_at WrongEnd 2
  pub children_last : checked_rows (plain 20 3 (plain 13 2 (plain 40 3 []))) 3 1 ≡ refused_at WrongChildren 0
  pub missing_child : checked_rows (plain 20 3 (plain 13 2 (plain 38 3 []))) 3 1 ≡ refused_at WrongChildren 1
  pub no_statement : checked_rows (plain 40 1 []) 1 1 ≡ refused_at WrongChildren 0

pub precedence : Precedence
unfolding tree tree_by fold kinds entry is_kind in_class of_class class_number side_fits takes once many fits holds when_held first_from fields_at ends_before above enclosing end_fits depth_at ends_at kind_alone children_at root_at checked_rows
precedence = record { field_first = refl; end_second = refl; own_end = refl; past_container = refl; children_last = refl; missing_child = refl; no_statement = refl }
