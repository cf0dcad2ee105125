-- Demand 3 over bytes: what asking means of the tables, said of the sheet that they were loaded from. Tree, marks, local and start of the bytes are
-- those of the tables, by the laws of a good load.
use Prim.Native.Nat.{ℕ}
use mathlib.Core.Path.{◌≡◌, refl, sym, ap, subst, fun_ext, ◌∙◌}
use mathlib.Core.Bool.{Bool, true, false, cond}
use mathlib.Core.List.{List}
use native.Mathlib.Omega.{arith}
use lib.Dec.{eqb}
use Rattle.sheet_record.specs.declared.Record.{Record}
use Rattle.sheet_record.specs.Records.{text_at, marks_of}
use Rattle.lines.specs.Lines.{jump_mark}
use Rattle.refusals.specs.declared.Refused.{Refused as RefusedAt}
use Rattle.refusals.specs.Refusals.{refusal_number}
use Rattle.refusals.proofs.Distinct.{number_some}
use Rattle.std.specs.Prelude.{Ok, Err}
use Rattle.sheet.specs.Load.{Loaded, load_of}
use Rattle.load.proofs.GoodLoad.{GoodLoad, good_load, load_asked, load_tree, load_marks}
use Rattle.load.proofs.Refusals.{load_numbers}
use Rattle.answers.specs.declared.Answer.{Answer}
use Rattle.answers.specs.declared.Answer.TheVariants.{Refused}
use Rattle.answers.specs.Answers.{AcceptedAnswer, numbers_of}
use Rattle.ask.specs.Ask.{row_tree, ask_of}
use Rattle.ask.specs.Meaning.{AskMeans}
use Rattle.ask.proofs.Meaning.{walk_numbers, ask_means}
use Rattle.ask.proofs.Loaded.{asked_walks}
use Rattle.verdict.specs.Sheets.{is_jump_name, sheet_of}
use Rattle.verdict.specs.Verdict.{after_load, verdict_of}
use Rattle.verdict.specs.Meaning.{SheetDemand3, AskedDemand3, VerdictNumbers, by_walk, refused, VerdictMeans}

-- a name that begins so has mark 1
mark_jump : (name : List ℕ) → eqb (jump_mark name) 1 ≡ is_jump_name name
unfolding jump_mark
mark_jump name = go (is_jump_name name)
  where
    go : (b : Bool) → eqb (cond b 1 0) 1 ≡ b
    go true = refl
    go false = refl

module _ (s : List ℕ) (row_room name_room : ℕ) (r : Record) (e : (load_of s row_room name_room).answer ≡ Ok r) where
  good : GoodLoad s row_room name_room r
  good = good_load s row_room name_room r e

  abbrev loaded_rows : List ℕ
  loaded_rows = (load_of s row_room name_room).rows

  abbrev loaded_names : List ℕ
  loaded_names = (load_of s row_room name_room).names

  same_marks : marks_of loaded_names ≡ (λ i. is_jump_name (text_at s good.name_numbers i))
  same_marks = fun_ext λ i. ap (λ (m : ℕ). eqb m 1) (load_marks s row_room name_room r e good.name_numbers good.row_numbers good.lines i) ∙ mark_jump (text_at s good.name_numbers i)

  -- the sheet's bytes say what the tables hold
  sheet_is : sheet_of s ≡ record { local = r.local; start = r.start; marks = marks_of loaded_names; tree = row_tree r loaded_rows }
  unfolding sheet_of
  sheet_is = rw (good.lines, same_marks, load_tree s row_room name_room r e good.name_numbers good.row_numbers good.lines)

  -- an answer about the tables is one about the sheet
  of_sheet : (a : Answer) → a ≡ ask_of r loaded_rows loaded_names → VerdictMeans s a
  of_sheet a q =
      let m : AskMeans r loaded_rows loaded_names a = ask_means r loaded_rows loaded_names a q in
      record {
        safe = rw sheet_is m.safe;
        written = rw sheet_is m.written;
        away = rw sheet_is m.away;
      }

-- a load's refusal is no acceptance
of_refusal : (s : List ℕ) (row_room name_room : ℕ) (x : RefusedAt) → (load_of s row_room name_room).answer ≡ Err x → (a : Answer) → a ≡ Refused x.refusal x.place → VerdictMeans s a
of_refusal s row_room name_room x e a q = record {
  safe = λ h. absurd (subst AcceptedAnswer q h);
  written = λ h. absurd (let z : ◌≡◌ {A = ℕ} 0 1 = cc in omega arith);
  away = λ h. absurd (let z : ◌≡◌ {A = ℕ} 0 1 = cc in omega arith);
}

-- the promise of the call
pub verdict_means : (s : List ℕ) (row_room name_room : ℕ) (a : Answer) → a ≡ verdict_of s row_room name_room → VerdictMeans s a
unfolding verdict_of
verdict_means s row_room name_room a q = go (load_of s row_room name_room).answer refl q
  where
    go : (l : Loaded) → (load_of s row_room name_room).answer ≡ l → a ≡ after_load l (load_of s row_room name_room).rows (load_of s row_room name_room).names → VerdictMeans s a
    go (Ok r) e v = of_sheet s row_room name_room r e a v
    go (Err x) e v = of_refusal s row_room name_room x e a v

-- its answer in numbers
pub verdict_numbers : (s : List ℕ) (row_room name_room : ℕ) (a : Answer) → a ≡ verdict_of s row_room name_room → VerdictNumbers (numbers_of a)
unfolding verdict_of
verdict_numbers s row_room name_room a q = rw q (go (load_of s row_room name_room).answer refl)
  where
    go : (l : Loaded) → (load_of s row_room name_room).answer ≡ l → VerdictNumbers (numbers_of (after_load l (load_of s row_room name_room).rows (load_of s row_room name_room).names))
    go (Ok r) e = rw (asked_walks r _ _ (load_asked s row_room name_room r e)) (by_walk (walk_numbers r (load_of s row_room name_room).rows (load_of s row_room name_room).names))
    go (Err x) e = refused (refusal_number x.refusal) x.place (number_some x.refusal) (load_numbers s row_room name_room (Err x) (sym e))

-- demand 3 over bytes
pub sheet_demand_3 : SheetDemand3
sheet_demand_3 s row_room name_room h = (verdict_means s row_room name_room (verdict_of s row_room name_room) refl).safe h

-- and for whoever makes the two calls
pub asked_demand_3 : AskedDemand3
asked_demand_3 s row_room name_room r e h = (of_sheet s row_room name_room r e (ask_of r (load_of s row_room name_room).rows (load_of s row_room name_room).names) refl).safe h
