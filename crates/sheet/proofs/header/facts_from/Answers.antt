use Rattle.std.proofs.Common.{refl}
use Rattle.std.proofs.lemmas.Result.{err_from_is_err_and}
use Rattle.sheet.specs.Header.{fact_lines}
use Rattle.sheet.specs.Steps.{no_key, one_key}
use Rattle.sheet.proofs.NumberLines.{facts_refused, facts_read}
use Rattle.sheet.proofs.header.facts_from.Goals as goal

pub returns-in_err-facts : goal.returns-in_err-facts
returns-in_err-facts c =
    let p = err_from_is_err_and c.from_residual.result c.from_residual.ensures.1 in
    rw (p.1, p.2)
    (facts_refused _ _
    (c.numbers_from.ensures fact_lines (one_key (record { key = refl; low = refl; high = refl }) (one_key (record { key = refl; low = refl; high = refl }) (one_key (record { key = refl; low = refl; high = refl }) (one_key (record { key = refl; low = refl; high = refl }) no_key)))))
    _ _ c.in_err-facts.was)

pub returns : goal.returns
returns c =
    facts_read _ _
    (c.numbers_from.ensures fact_lines (one_key (record { key = refl; low = refl; high = refl }) (one_key (record { key = refl; low = refl; high = refl }) (one_key (record { key = refl; low = refl; high = refl }) (one_key (record { key = refl; low = refl; high = refl }) no_key)))))
    _ _ c.in_ok-facts.was
