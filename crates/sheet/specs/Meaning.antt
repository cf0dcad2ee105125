-- What a load means to whoever asks of its tables: document 01, "A refused load .. leave[s] zeros", and asking's refusals.
use Rattle.std.specs.Prelude.{ℕ, ◌*◌, ◌≤◌, ◌<◌, ◌≡◌, true, List, length, replicate, Ok, Err}
use Rattle.checks.specs.Checks.{passed, fields_of, ends_of, children_of}
use Rattle.sheet_record.specs.declared.Record.{Record}
use Rattle.sheet_record.specs.Records.{record_fits, mark_at}
use Rattle.refusals.specs.declared.Refused.{Refused}
use Rattle.sheet.specs.Load.{Loaded}

-- what asking checks: 22, then marks, then fields, ends and depth, children
pub record Asked (r : Record) (rows names : List ℕ) : Type 0 where
  pub fits : record_fits r ≡ true
  pub rows_held : 5 * r.rows ≤ length rows
  pub names_held : 3 * r.names ≤ length names
  pub marks : (i : ℕ) → i < r.names → mark_at names i ≤ 1
  pub fields : fields_of rows r.rows r.names ≡ passed
  pub ends : ends_of rows r.rows ≡ passed
  pub children : children_of rows r.rows ≡ passed

-- what a load tells in numbers: "The place is a line number from 1 .., or 0 for refusal 10", and 21, "told no place", has 0
pub data LoadNumbers (number place : ℕ) : Type 0 where
  loaded : number ≡ 0 → place ≡ 0 → LoadNumbers number place
  of_line : 1 ≤ number → number ≤ 9 → 1 ≤ place → LoadNumbers number place
  too_long : number ≡ 10 → place ≡ 0 → LoadNumbers number place
  no_room : number ≡ 21 → place ≡ 0 → LoadNumbers number place

-- a refusal leaves zeros in both tables; a good load leaves tables that pass every check of asking
pub record LoadMeans (answer : Loaded) (rows names : List ℕ) : Type 0 where
  pub zero_rows : (e : Refused) → answer ≡ Err e → rows ≡ replicate (length rows) 0
  pub zero_names : (e : Refused) → answer ≡ Err e → names ≡ replicate (length names) 0
  pub good : (r : Record) → answer ≡ Ok r → Asked r rows names
