use Rattle.std.proofs.Common.{refl}
use Rattle.std.proofs.lemmas.Result.{err_from_is_err_and}
use Rattle.sheet.specs.Header.{head_lines}
use Rattle.sheet.specs.Steps.{no_key, one_key}
use Rattle.sheet.proofs.NumberLines.{head_refused, head_read}
use Rattle.sheet.proofs.header.head_of.Goals as goal

pub returns-in_err-head : goal.returns-in_err-head
returns-in_err-head c =
    let p = err_from_is_err_and c.from_residual.result c.from_residual.ensures.1 in
    rw (p.1, p.2) (head_refused _ _ (c.numbers_from.ensures head_lines (one_key (record { key = refl; low = refl; high = refl }) (one_key (record { key = refl; low = refl; high = refl }) no_key))) _ c.in_err-head.was)

pub returns : goal.returns
returns c = head_read _ _ (c.numbers_from.ensures head_lines (one_key (record { key = refl; low = refl; high = refl }) (one_key (record { key = refl; low = refl; high = refl }) no_key))) _ c.in_ok-head.was
