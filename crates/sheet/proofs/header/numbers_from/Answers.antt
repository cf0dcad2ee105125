use Rattle.std.proofs.Common.{◌∙◌, sym, length-set}
use lib.ListN.{length-replicate}
use Rattle.std.proofs.lemmas.Result.{err_from_is_err_and}
use Rattle.sheet.proofs.NumberLines.{number_loop_start, number_loop_done, number_loop_wrong, number_loop_next}
use Rattle.sheet.proofs.header.numbers_from.Goals as goal

pub loop-i-init : goal.loop-i-init
loop-i-init g c = record { kept = length-replicate g.row.N 0 ∙ sym c.requires.sizes.0; told = λ ls t. number_loop_start _ _ _ _ _ _ t _ (length-replicate g.row.N 0 ∙ sym c.requires.sizes.0) }

pub number_line-requires : goal.number_line-requires
number_line-requires g c = c.requires.keys.some _ _ c.loop-i-test.true

pub returns-in_err-read : goal.returns-in_err-read
returns-in_err-read g c = λ ls t. let p = err_from_is_err_and c.from_residual.result c.from_residual.ensures.1 in rw (p.1, p.2) (number_loop_wrong _ _ _ _ _ _ t _ _ _ (c.loop-i.invariant.told ls t) c.loop-i-test.true _ _ c.among-high.ensures _ c.number_line.ensures _ c.at_line.ensures _ c.in_err-read.was)

pub loop-i-preserved : goal.loop-i-preserved
loop-i-preserved g c = record {
  kept = length-set _ _ _ ∙ c.loop-i.invariant.kept;
  told = λ ls t. number_loop_next _ _ _ _ _ _ t _ _ _ (c.loop-i.invariant.told ls t) c.loop-i-test.true _ _ c.among-high.ensures _ c.number_line.ensures _ c.at_line.ensures _ c.in_ok-read.was;
}

pub returns : goal.returns
returns g c = λ ls t. number_loop_done _ _ _ _ _ _ t _ _ _ (c.loop-i.invariant.told ls t) c.loop-i-test.false
