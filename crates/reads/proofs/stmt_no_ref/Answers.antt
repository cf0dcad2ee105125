use Rattle.reads.proofs.Answers.{stmt_none, stmt_answers}
use Rattle.reads.proofs.stmt_no_ref.Goals as goal

pub returns-in_default : goal.returns-in_default
returns-in_default c = search (stmt_none, c.in_default.ensures.none)

pub returns-in-Null : goal.returns-in-Null
returns-in-Null c = search (stmt_answers, c.in-Some.ensures.some)

pub returns-in-Blocking : goal.returns-in-Blocking
returns-in-Blocking c = search (stmt_answers, c.in-Some.ensures.some)

pub returns-in-Task : goal.returns-in-Task
returns-in-Task c = search (stmt_answers, c.in-Some.ensures.some)

pub returns-in_default-stmt_class : goal.returns-in_default-stmt_class
returns-in_default-stmt_class c = search (stmt_answers, c.in-Some.ensures.some)
