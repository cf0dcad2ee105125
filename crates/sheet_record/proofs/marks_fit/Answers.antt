use Rattle.std.proofs.Common.{rules, arith}
use mathlib.Core.Path.{refl, ◌∙◌}
use borrow.Author.Tests.{tests}
use Rattle.std.proofs.lemmas.Iterator.{YieldsList-from_range}
use Rattle.std.proofs.lemmas.Iterator.Search.{all_from_yields_List}
use Rattle.sheet_record.proofs.Holding.{mark_right, marks_all}
use Rattle.sheet_record.proofs.marks_fit.Goals as goal

pub returns : goal.returns
returns c =
    all_from_yields_List (mark_right c.args.names.now) _ _ _ c.all.ensures.ran (YieldsList-from_range 0 c.args.count c.args.count refl (omega arith)) (λ x b q k. search (rules, tests))
    ∙ marks_all c.args.names.now c.args.count
