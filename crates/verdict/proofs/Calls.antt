-- What the function answers, from what stands in the code where it returns: tables as loading leaves them pass the check, so that asking them is the walk.
use Prim.Native.Nat.{ℕ}
use mathlib.Core.Path.{◌≡◌, sym, ◌∙◌}
use mathlib.Core.List.{List}
use Rattle.std.specs.Prelude.{Ok, Err}
use Rattle.checks.specs.Checks.{passed}
use Rattle.sheet_record.specs.declared.Record.{Record}
use Rattle.refusals.specs.declared.Refused.{Refused as RefusedAt}
use Rattle.sheet.specs.Load.{Loaded, load_of}
use Rattle.sheet.specs.Meaning.{LoadMeans}
use Rattle.answers.specs.declared.Answer.{Answer}
use Rattle.answers.specs.declared.Answer.TheVariants.{Refused}
use Rattle.ask.specs.Ask.{table_checked, walked, walk_answer}
use Rattle.ask.proofs.Loaded.{is_checked, asked_walks}
use Rattle.verdict.specs.Verdict.{verdict_of}

module _ (s : List ℕ) (row_room name_room : ℕ) (l : Loaded) (e : l ≡ (load_of s row_room name_room).answer) where
  pub verdict_refused : (x : RefusedAt) → l ≡ Err x → Refused x.refusal x.place ≡ verdict_of s row_room name_room
  unfolding verdict_of
  verdict_refused x h = rw (← e, h)

  pub verdict_walked : (r : Record) (rows names : List ℕ) (a : Answer)
      → l ≡ Ok r
      → LoadMeans l rows names
      → rows ≡ (load_of s row_room name_room).rows
      → names ≡ (load_of s row_room name_room).names
      → a ≡ walk_answer (walked r rows names)
      → a ≡ verdict_of s row_room name_room
  unfolding verdict_of
  verdict_walked r rows names a h m p q v = v ∙ sym (asked_walks r rows names (m.good r h)) ∙ rw (← e, h, p, q)

-- loading promises tables that asking would not refuse
pub walk_asked : (l : Loaded) (r : Record) (rows names : List ℕ) → l ≡ Ok r → LoadMeans l rows names → table_checked r rows ≡ passed
walk_asked l r rows names h m = is_checked r rows names (m.good r h)
