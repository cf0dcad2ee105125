use Rattle.std.proofs.lemmas.Result.{err_from_is_err_and}
use Rattle.checks.proofs.FieldLaws.{refusing}
use Rattle.checks.proofs.refuse.Goals as goal

pub returns-in_err-check_fields : goal.returns-in_err-check_fields
returns-in_err-check_fields c =
    let p = err_from_is_err_and c.from_residual.result c.from_residual.ensures.1 in
    rw (p.1, p.2) (search (refusing, c.in_err-check_fields.was))

pub loop-i-preserved : goal.loop-i-preserved
loop-i-preserved c = search (refusing, c.in_ok-check_fields.was)

pub returns : goal.returns
returns c = search refusing
