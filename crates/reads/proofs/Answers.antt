-- What the functions answer, from what stands in the code where they return: each law's premises are what the code has found by then.
-- Nothing recurses here: of a range, Scan and Quiet are cited.
use Prim.Native.Nat.{ℕ, ◌+◌, ◌≤◌, ◌<◌}
use mathlib.Core.Path.{◌≡◌, refl, sym, ap, ◌∙◌}
use mathlib.Core.Bool.{Bool, true, false, not}
use mathlib.Core.List.{List, [], ◌∷◌}
use mathlib.Core.Logic.{◌⊎◌, inl, inr}
use native.Mathlib.Omega.{arith}
use lib.Dec.{eqb}
use borrow.Author.Tests.{ne_eqb, lt-ltb}
use denote.Enum.Declared.{tag_of}
use borrow.Enum.Refused.{Among, opened}
use Rattle.table.specs.Rows.{kind_at, side_at, end_at, Forest, tree, rest}
use Rattle.table.specs.declared.Siblings.{Siblings}
use Rattle.table.specs.declared.Node.{Node}
use Rattle.table.specs.Siblings.{forest, First, Children, Head, Rest}
use Rattle.table.proofs.Tree.{tree_none, tree_some}
use Rattle.table.proofs.Parts.{rest_after, forest_none, forest_some, forest_rest}
use Rattle.kinds.specs.declared.ExprClass.{ExprClass}
use Rattle.kinds.specs.declared.StmtClass.{StmtClass}
use Rattle.kinds.specs.declared.StmtClass.TheVariants.{Null, Blocking, Nonblocking, Systask}
use Rattle.kinds.specs.contracts.StmtClass.{the_type}
use Rattle.kinds.proofs.Classes.{last_arm}
use Rattle.kinds.specs.Named.{expr_class, stmt_class}
use Rattle.reads.specs.declared.Role.{Role}
use Rattle.reads.specs.declared.Role.TheVariants.{ByPath, HasIff, ByContent}
use Rattle.reads.specs.declared.Iff.{Iff}
use Rattle.reads.specs.declared.Iff.TheVariants.{Skipped}
use Rattle.std.specs.Prelude.{Option, None, Some, is_some}
use Rattle.kinds.proofs.Below.{true_not_false}
use Rattle.reads.specs.PathRows.{is_named, begins, count, segments}
use Rattle.reads.specs.Mentions.{role_of, mentions_by, mentions_at, skips_iff, mention_in}
use Rattle.reads.specs.Steps.{AfterQuiet}
use Rattle.reads.specs.NoRef.{expr_no_ref, two_segments, not_vetted, vetting, vetted, stmt_no_ref}
use Rattle.reads.proofs.Scan.{or_else, mention_none, mention_here, mention_row, mention_event, found_refers, nowhere_refers}
use Rattle.reads.proofs.Quiet.{quiet_same}

-- begins_with
pub begins_none : (x : ℕ) (rows : Siblings) → rows.to ≤ rows.from → false ≡ begins x (forest rows)
unfolding begins
begins_none x rows h = rw (forest_none rows h)

pub begins_short : (x : ℕ) (rows : Siblings) (path : Node) → First rows path → path.end ≤ path.at + 1 → false ≡ begins x (forest rows)
unfolding begins is_named
begins_short x rows path f h = rw (tree_some rows.nested f.some, tree_none rows.table.now (rows.from + 1) (end_at rows.table.now rows.from) (omega (arith, f.starts, f.ends)))

module _ (x : ℕ) (rows below : Siblings) (path : Node) (f : First rows path) (b : Children path below) where
  pub begins_some : (segment : Node) (s : ℕ) → First below segment → s ≡ side_at segment.table.now segment.at → eqb s x ≡ begins x (forest rows)
  unfolding begins is_named
  begins_some segment s g v = rw (v, g.same, g.starts, forest_some f b, tree_some below.nested g.some)

pub ruleset begins_answers = (begins_none, begins_short, begins_some)

-- the role of a row
pub role_row : (rows : List ℕ) (i n : ℕ) (k : ExprClass) (r : Role) → n ≡ kind_at rows i → k ≡ expr_class n → r ≡ role_of k → r ≡ role_of (expr_class (kind_at rows i))
role_row rows i n k r p q v = v ∙ ap role_of (q ∙ ap expr_class p)

-- is_mention, by the role that it found
module _ (x n : ℕ) (row : Node) (k : ExprClass) (found role : Role) (r : Bool) (p : n ≡ kind_at row.table.now row.at) (q : k ≡ expr_class n) (v : found ≡ role_of k) (e : found ≡ role) where
  pub role_mentions : r ≡ mentions_by role (begins x (tree row.table.now (row.at + 1) (end_at row.table.now row.at))) → r ≡ mentions_at x row.table.now row.at
  role_mentions w = w ∙ ap (λ ρ. mentions_by ρ (begins x (tree row.table.now (row.at + 1) (end_at row.table.now row.at)))) (sym e ∙ role_row row.table.now row.at n k found p q v)

module _ (x n : ℕ) (row : Node) (k : ExprClass) (found : Role) (r : Bool) (p : n ≡ kind_at row.table.now row.at) (q : k ≡ expr_class n) (v : found ≡ role_of k) (e : found ≡ ByPath) where
  pub path_mentions : (below : Siblings) → Children row below → r ≡ begins x (forest below) → r ≡ mentions_at x row.table.now row.at
  path_mentions below b w = role_mentions x n row k found ByPath r p q v e (w ∙ rw (b.same, b.starts, b.ends, row.alone.is))

pub other_mentions : (x n : ℕ) (row : Node) (k : ExprClass) (found : Role)
    → n ≡ kind_at row.table.now row.at
    → k ≡ expr_class n
    → found ≡ role_of k
    → (found ≡ HasIff) ⊎ (found ≡ ByContent)
    → false ≡ mentions_at x row.table.now row.at
other_mentions x n row k found p q v (inl e) = role_mentions x n row k found HasIff false p q v e refl
other_mentions x n row k found p q v (inr e) = role_mentions x n row k found ByContent false p q v e refl

pub ruleset role_answers = (role_mentions, path_mentions)

-- first_mention: what its loop keeps is that the answer is that of the rows that are left
abbrev pub mention_of : Iff → ℕ → Siblings → Option ℕ
mention_of iff x rows = mention_in iff x rows.table.now rows.from rows.to

pub record Kept (rows left : Siblings) : Type 0 where
  pub same : left.table.now ≡ rows.table.now
  pub ends : left.to ≡ rows.to
  pub after : rows.from ≤ left.from

pub kept_start : {rows left : Siblings} (x : ℕ) → AfterQuiet x rows.table.now rows.from rows.to left.from → (left.table.now ≡ rows.table.now) × (left.to ≡ rows.to) → Kept rows left
kept_start x w e = record { same = e.0; ends = e.1; after = w.after }

module _ {rows left : Siblings} (after : Siblings) {next : Siblings} (x : ℕ) (k : Kept rows left) (w : AfterQuiet x after.table.now after.from after.to next.from) (e : (next.table.now ≡ after.table.now) × (next.to ≡ after.to)) where
  pub kept_next : (after.table.now ≡ left.table.now) × ((after.from ≡ left.from + 1) × (after.to ≡ left.to)) → Kept rows next
  kept_next a = record { same = e.0 ∙ a.0 ∙ k.same; ends = e.1 ∙ a.1.1 ∙ k.ends; after = omega (arith, k.after, w.after, a.1.0) }

  pub kept_rest : {row : Node} → First left row → Rest left after → Kept rows next
  kept_rest f r = record { same = e.0 ∙ r.same ∙ k.same; ends = e.1 ∙ r.ends ∙ k.ends; after = omega (arith, k.after, w.after, rest_after f.some r) }

pub quiet_part : (iff : Iff) (x : ℕ) (rows next : Siblings) → AfterQuiet x rows.table.now rows.from rows.to next.from → (next.table.now ≡ rows.table.now) × (next.to ≡ rows.to) → mention_of iff x rows ≡ mention_of iff x next
quiet_part iff x rows next w e = rw (e.0, e.1) (quiet_same iff x rows.nested w)

module _ (iff : Iff) (x : ℕ) (rows left : Siblings) (v : mention_of iff x rows ≡ mention_of iff x left) where
  pub scan_done : left.to ≤ left.from → None ≡ mention_of iff x rows
  scan_done h = sym (v ∙ mention_none iff x left.table.now left.from left.to h)

  module _ (row : Node) (f : First left row) (b : Bool) (be : b ≡ mentions_at x row.table.now row.at) where
    mentions_first : (r : Bool) → b ≡ r → mentions_at x left.table.now left.from ≡ r
    mentions_first r e = rw (← f.same, ← f.starts) (sym be ∙ e)

    pub row_hit : b ≡ true → Some row.at ≡ mention_of iff x rows
    row_hit y = rw f.starts (sym (v ∙ mention_here iff x left.nested f.some (mentions_first true y)))

    module _ (p : Bool) (n : b ≡ false) (pe : p ≡ skips_iff iff (expr_class (kind_at row.table.now row.at))) where
      skips_first : (r : Bool) → p ≡ r → skips_iff iff (expr_class (kind_at left.table.now left.from)) ≡ r
      skips_first r e = rw (← f.same, ← f.starts) (sym pe ∙ e)

      pub row_miss : (after next : Siblings) → p ≡ false
          → (after.table.now ≡ left.table.now) × ((after.from ≡ left.from + 1) × (after.to ≡ left.to))
          → AfterQuiet x after.table.now after.from after.to next.from
          → (next.table.now ≡ after.table.now) × (next.to ≡ after.to)
          → mention_of iff x rows ≡ mention_of iff x next
      row_miss after next y a w e =
          let h : mention_of iff x after ≡ mention_in iff x left.table.now (left.from + 1) left.to = rw (a.0, a.1.0, a.1.1) in
          v ∙ mention_row iff x left.nested f.some (mentions_first false n) (skips_first false y) ∙ sym h ∙ quiet_part iff x after next w e

      module _ (below head : Siblings) (m : Option ℕ) (y : p ≡ true) (c : Children row below) (h : Head below head) (me : m ≡ mention_of iff x head) where
        event_step : mention_of iff x rows ≡ or_else m (mention_in iff x left.table.now (end_at left.table.now left.from) left.to)
        event_step =
            v
            ∙ mention_event iff x left.nested f.some (mentions_first false n) (skips_first true y) (h.ends ∙ rw (c.same, c.starts, c.ends, f.same, f.starts, f.ends))
            ∙ rw (me, h.same, h.starts, c.same, c.starts, f.same, f.starts)

        pub event_hit : (r : ℕ) → m ≡ Some r → Some r ≡ mention_of iff x rows
        event_hit r z = sym (event_step ∙ rw z)

        pub event_miss : (after next : Siblings) → m ≡ None
            → Rest left after
            → AfterQuiet x after.table.now after.from after.to next.from
            → (next.table.now ≡ after.table.now) × (next.to ≡ after.to)
            → mention_of iff x rows ≡ mention_of iff x next
        event_miss after next z r w e =
            let h : mention_of iff x after ≡ mention_in iff x left.table.now (end_at left.table.now left.from) left.to = rw (r.same, r.ends, r.starts, lt-ltb left.from left.to f.some) in
            event_step ∙ rw z (sym h ∙ quiet_part iff x after next w e)

pub ruleset scan_answers = (scan_done, row_hit, event_hit)

-- no_ref: the answer is that of the rows from the first one on that is not passed over
module _ (x : ℕ) (rows left : Siblings) (w : AfterQuiet x rows.table.now rows.from rows.to left.from) (e : (left.table.now ≡ rows.table.now) × (left.to ≡ rows.to)) where
  no_ref_found : (r : ℕ) → mention_of Skipped x left ≡ Some r → false ≡ expr_no_ref x (forest rows)
  no_ref_found r h = rw (found_refers Skipped x rows.table.now rows.from rows.to r (quiet_part Skipped x rows left w e ∙ h))

  no_ref_nowhere : mention_of Skipped x left ≡ None → true ≡ expr_no_ref x (forest rows)
  no_ref_nowhere h = rw (nowhere_refers Skipped x rows.table.now rows.from rows.to (quiet_part Skipped x rows left w e ∙ h))

  pub all_quiet : left.to ≤ left.from → true ≡ expr_no_ref x (forest rows)
  all_quiet h = no_ref_nowhere (mention_none Skipped x left.table.now left.from left.to h)

  pub first_refers : (b : Bool) (row : Node) → First left row → b ≡ mentions_at x row.table.now row.at → b ≡ true → not b ≡ expr_no_ref x (forest rows)
  first_refers b row f m t = ap not t ∙ no_ref_found left.from (mention_here Skipped x left.nested f.some (rw (← f.same, ← f.starts) (sym m ∙ t)))

  pub later_refers : (m : Option ℕ) (b : Bool) → m ≡ mention_of Skipped x left → is_some m ≡ not b → b ≡ expr_no_ref x (forest rows)
  later_refers (Some r) false q t = no_ref_found r (sym q)
  later_refers (Some r) true q t = true_not_false t
  later_refers None true q t = no_ref_nowhere (sym q)
  later_refers None false q t = true_not_false (sym t)

pub ruleset no_ref_answers = (all_quiet, first_refers, later_refers)

-- segments
pub segments_none : (rows : Siblings) → rows.to ≤ rows.from → 0 ≡ segments (forest rows)
unfolding segments
segments_none rows h = rw (forest_none rows h)

module _ (rows left : Siblings) (counted : ℕ) (v : counted + count (forest left) ≡ segments (forest rows)) where
  pub count_done : left.to ≤ left.from → counted ≡ segments (forest rows)
  unfolding count
  count_done h = let e : count (forest left) ≡ 0 = rw (forest_none left h) in omega arith

  pub count_step : (next : Siblings) → left.from < left.to → Rest left next → counted + 1 + count (forest next) ≡ segments (forest rows)
  unfolding count rest
  count_step next h r = rw (forest_rest r, tree_some left.nested h) (omega (arith, rw (tree_some left.nested h) at v))

pub segments_some : (rows below : Siblings) (path : Node) → First rows path → Children path below → 0 + count (forest below) ≡ segments (forest rows)
unfolding segments
segments_some rows below path f c = rw (forest_some f c) (omega arith)

pub ruleset segments_answers = (segments_none, count_done, count_step, segments_some)

-- task_no_ref, where v says that the path has two segments and does not begin with the local
module _ (x : ℕ) (f : Forest) (n : ℕ) (e : n ≡ segments f) (v : Bool) where
  pub task_other : (n ≡ 2 → ⊥) → v ≡ false → v ≡ vetted two_segments x f
  task_other h y = y ∙ rw (← e, ne_eqb n 2 h)

  module _ (b : Bool) (h : n ≡ 2) (g : b ≡ begins x f) (y : v ≡ not b) where
    pub task_begins : v ≡ false → v ≡ vetted two_segments x f
    task_begins t = t ∙ rw (← e, h, ← g, sym y ∙ t)

    pub task_arguments : (r : Bool) → v ≡ true → r ≡ expr_no_ref x f → r ≡ vetted two_segments x f
    task_arguments r t q = rw (← e, h, ← g, sym y ∙ t) q

pub ruleset task_answers = (task_other, task_begins, task_arguments)

-- stmt_no_ref, by the class that it found
pub stmt_none : (x : ℕ) (rows : Siblings) → rows.to ≤ rows.from → false ≡ stmt_no_ref x (forest rows)
unfolding stmt_no_ref
stmt_none x rows h = rw (forest_none rows h)

-- the tags of the classes that are not vetted, after the first
abbrev other_tags : List ℕ
other_tags = 1 ∷ 2 ∷ 3 ∷ 6 ∷ 7 ∷ 8 ∷ 9 ∷ 10 ∷ 11 ∷ 12 ∷ 13 ∷ 14 ∷ 17 ∷ 18 ∷ 19 ∷ 20 ∷ 22 ∷ 23 ∷ []

unvetted : (c : StmtClass) → Among (0 ∷ other_tags) (tag_of the_type c) → vetting c ≡ not_vetted
unvetted c o = last_arm vetting not_vetted 0 other_tags c refl (opened o)

module _ (x : ℕ) (rows : Siblings) (row : Node) (k : ℕ) (c : StmtClass) (f : First rows row) (p : k ≡ kind_at row.table.now row.at) (q : c ≡ stmt_class k) where
  stmt_first : stmt_no_ref x (forest rows) ≡ vetted (vetting c) x (tree row.table.now (row.at + 1) row.end)
  unfolding stmt_no_ref
  stmt_first = rw (tree_some rows.nested f.some, q, p, f.same, f.starts, f.ends)

  module _ (below : Siblings) (b : Children row below) where
    stmt_below : stmt_no_ref x (forest rows) ≡ vetted (vetting c) x (forest below)
    stmt_below = stmt_first ∙ rw (b.same, b.starts, b.ends)

    pub stmt_vetted : (class : StmtClass) (r : Bool) → c ≡ class → r ≡ vetted (vetting class) x (forest below) → r ≡ stmt_no_ref x (forest rows)
    stmt_vetted class r e v = rw (stmt_below, e) v

    -- the classes of one arm, whose children are all vetted
    pub stmt_children : (r : Bool) → (c ≡ Blocking) ⊎ ((c ≡ Nonblocking) ⊎ (c ≡ Systask)) → r ≡ expr_no_ref x (forest below) → r ≡ stmt_no_ref x (forest rows)
    stmt_children r (inl e) v = stmt_vetted Blocking r e v
    stmt_children r (inr (inl e)) v = stmt_vetted Nonblocking r e v
    stmt_children r (inr (inr e)) v = stmt_vetted Systask r e v

  pub stmt_null : c ≡ Null → true ≡ stmt_no_ref x (forest rows)
  stmt_null e = rw (stmt_first, e)

  pub stmt_other : Among (0 ∷ other_tags) (tag_of the_type c) → false ≡ stmt_no_ref x (forest rows)
  stmt_other o = rw (stmt_first, unvetted c o)

pub ruleset stmt_answers = (stmt_none, stmt_vetted, stmt_children, stmt_null, stmt_other)
