use Rattle.reads.proofs.Scan.{mention_told}
use Rattle.reads.proofs.Answers.{kept_start, kept_next, kept_rest, quiet_part, scan_answers, row_miss, event_miss}
use Rattle.reads.proofs.+first_mention.Goals as goal

pub loop-row-init : goal.loop-row-init
loop-row-init t c = record { kept = search kept_start; same = search quiet_part }

pub returns-then-is_mention-clause-value : goal.returns-then-is_mention-clause-value
returns-then-is_mention-clause-value t c = search (scan_answers, c.in-Some.ensures.some)

pub returns-then-is_mention-clause-means : goal.returns-then-is_mention-clause-means
returns-then-is_mention-clause-means t c = mention_told c.args.rows.nested (search (scan_answers, c.in-Some.ensures.some))

pub returns-in-Some-first_mention-clause-value : goal.returns-in-Some-first_mention-clause-value
returns-in-Some-first_mention-clause-value t c = search (scan_answers, c.in-Some.ensures.some)

pub returns-in-Some-first_mention-clause-means : goal.returns-in-Some-first_mention-clause-means
returns-in-Some-first_mention-clause-means t c = mention_told c.args.rows.nested (search (scan_answers, c.in-Some.ensures.some))

pub loop-row-preserved-then-skips_iff : goal.loop-row-preserved-then-skips_iff
loop-row-preserved-then-skips_iff t c = record { kept = search (kept_rest, c.in-Some.ensures.some); same = search (event_miss, c.in-Some.ensures.some) }

pub loop-row-preserved : goal.loop-row-preserved
loop-row-preserved t c = record { kept = search kept_next; same = search (row_miss, c.in-Some.ensures.some) }

pub returns-clause-value : goal.returns-clause-value
returns-clause-value t c = search (scan_answers, c.in_default.ensures.none)

pub returns-clause-means : goal.returns-clause-means
returns-clause-means t c = mention_told c.args.rows.nested (search (scan_answers, c.in_default.ensures.none))
