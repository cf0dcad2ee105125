use Rattle.std.proofs.Common.{rules}
use Rattle.load.proofs.Finishing.{tail_cleared, fields_cleared, cleared_answer, cleared_tables}
use Rattle.load.proofs.clear_and_check.Goals as goal

pub checked_answer-requires : goal.checked_answer-requires
checked_answer-requires c = (c.requires.room.few_names, fields_cleared _ _ _ c.requires.room c.requires.fields_read _ (tail_cleared _ _ _ c.requires.room.for_rows (c.fill.ensures.after (λ y e. search rules))))

pub returns-clause-value : goal.returns-clause-value
returns-clause-value c =
    cleared_answer _ _ _ c.requires.room _ (tail_cleared _ _ _ c.requires.room.for_rows (c.fill.ensures.after (λ y e. search rules))) _
    (tail_cleared _ _ _ c.requires.room.for_names (c.fill-2.ensures.after (λ y e. search rules))) _ c.checked_answer.ensures

pub returns-clause-filled : goal.returns-clause-filled
returns-clause-filled c =
    cleared_tables _ _ _ c.requires.room _ (tail_cleared _ _ _ c.requires.room.for_rows (c.fill.ensures.after (λ y e. search rules))) _
    (tail_cleared _ _ _ c.requires.room.for_names (c.fill-2.ensures.after (λ y e. search rules))) _ c.checked_answer.ensures
