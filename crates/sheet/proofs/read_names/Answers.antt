use Rattle.std.proofs.lemmas.Result.{err_from_is_err_and}
use Rattle.sheet.proofs.Reading.{count_most, names_head, head_filled, names_section, section_filled, names_facts, names_filled}
use Rattle.sheet.proofs.read_names.Goals as goal

pub returns-in_err-head-clause-value : goal.returns-in_err-head-clause-value
returns-in_err-head-clause-value c = let p = err_from_is_err_and c.from_residual.result c.from_residual.ensures.1 in rw (p.1, p.2) (names_head _ _ c.head_of.ensures _ c.in_err-head.was)

pub returns-in_err-head-clause-filled : goal.returns-in_err-head-clause-filled
returns-in_err-head-clause-filled c = head_filled _ _ c.head_of.ensures _ _ c.in_err-head.was

pub names_from-requires-clause-count_bound : goal.names_from-requires-clause-count_bound
names_from-requires-clause-count_bound c = count_most _ _ c.head_of.ensures _ c.in_ok-head.was

pub returns-in_err-next-clause-value : goal.returns-in_err-next-clause-value
returns-in_err-next-clause-value c = let p = err_from_is_err_and c.from_residual-in_err-next.result c.from_residual-in_err-next.ensures.1 in rw (p.1, p.2) (names_section _ _ c.head_of.ensures _ c.in_ok-head.was _ c.names_from.ensures.value _ c.in_err-next.was)

pub returns-in_err-next-clause-filled : goal.returns-in_err-next-clause-filled
returns-in_err-next-clause-filled c = section_filled _ _ c.head_of.ensures _ c.in_ok-head.was _ c.names_from.ensures.value _ _ c.in_err-next.was

pub facts_from-requires : goal.facts_from-requires
facts_from-requires c = count_most _ _ c.head_of.ensures _ c.in_ok-head.was

pub returns-clause-value : goal.returns-clause-value
returns-clause-value c = names_facts _ _ c.head_of.ensures _ c.in_ok-head.was _ c.names_from.ensures.value _ c.in_ok-next.was _ c.facts_from.ensures

pub returns-clause-filled : goal.returns-clause-filled
returns-clause-filled c = names_filled _ _ c.head_of.ensures _ c.in_ok-head.was _ c.names_from.ensures.value _ c.in_ok-next.was _ c.names_from.ensures.filled
