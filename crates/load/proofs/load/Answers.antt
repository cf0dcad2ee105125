use Rattle.std.proofs.Common.{rules}
use Rattle.load.proofs.GoodLoad.{load_means}
use Rattle.load.proofs.Loading.{zero_rows, zero_names, good_rows, good_names}
use Rattle.load.proofs.Refusals.{load_numbers}
use Rattle.load.proofs.load.Goals as goal

pub returns-then-is_err-clause-row_table : goal.returns-then-is_err-clause-row_table
returns-then-is_err-clause-row_table c = zero_rows _ _ _ _ c.fill-loaded.ensures.value _ c.is_err.ensures.value c.if-is_err.true _ _ (c.fill.ensures.after (λ y e. search rules)) c.fill-loaded.auto.rows

pub returns-then-is_err-clause-name_table : goal.returns-then-is_err-clause-name_table
returns-then-is_err-clause-name_table c = zero_names _ _ _ _ c.fill-loaded.ensures.value _ c.is_err.ensures.value c.if-is_err.true _ _ (c.fill-then-is_err.ensures.after (λ y e. search rules)) c.fill-loaded.auto.names

pub returns-then-is_err-clause-numbers : goal.returns-then-is_err-clause-numbers
returns-then-is_err-clause-numbers c = load_numbers _ _ _ _ c.fill-loaded.ensures.value

pub returns-then-is_err-clause-means : goal.returns-then-is_err-clause-means
returns-then-is_err-clause-means c = load_means _ _ _ _ _ _ c.fill-loaded.ensures.value (returns-then-is_err-clause-row_table c) (returns-then-is_err-clause-name_table c)

pub returns-else-is_err-clause-row_table : goal.returns-else-is_err-clause-row_table
returns-else-is_err-clause-row_table c = good_rows _ _ _ _ c.fill-loaded.ensures.value _ c.is_err.ensures.value c.if-is_err.false _ _ c.fill-loaded.ensures.filled

pub returns-else-is_err-clause-name_table : goal.returns-else-is_err-clause-name_table
returns-else-is_err-clause-name_table c = good_names _ _ _ _ c.fill-loaded.ensures.value _ c.is_err.ensures.value c.if-is_err.false _ _ c.fill-loaded.ensures.filled

pub returns-else-is_err-clause-numbers : goal.returns-else-is_err-clause-numbers
returns-else-is_err-clause-numbers c = load_numbers _ _ _ _ c.fill-loaded.ensures.value

pub returns-else-is_err-clause-means : goal.returns-else-is_err-clause-means
returns-else-is_err-clause-means c = load_means _ _ _ _ _ _ c.fill-loaded.ensures.value (returns-else-is_err-clause-row_table c) (returns-else-is_err-clause-name_table c)
