use Rattle.std.proofs.Common.{◌≡◌}
use Rattle.std.specs.Prelude.{Err}
use Rattle.table.specs.Siblings.{forest, First}
use Rattle.sheet_record.specs.Records.{marks_of}
use Rattle.da.specs.Walk.{da_ctx, da_stmt}
use Rattle.da_walk.proofs.Asked.{stmt_means, asked}
use Rattle.da_walk.proofs.da_stmt.Goals as goal

pub returns-then-suspends : goal.returns-then-suspends
returns-then-suspends c =
    let first : First c.args.rows c.unwrap-row.result = rw c.unwrap-row.ensures at c.first.ensures.some in
    let e : Err c.give_up.result ≡ da_stmt (da_ctx c.args.ctx.now.local (marks_of c.args.ctx.now.names.now) c.args.ctx.now.sole) (forest c.args.rows) c.args.assigned = search asked in
    record { value = e; means = stmt_means c.args.ctx.now (forest c.args.rows) c.args.assigned _ e }

pub returns : goal.returns
returns c =
    let first : First c.args.rows c.unwrap-row.result = rw c.unwrap-row.ensures at c.first.ensures.some in
    let e : c.da_inner.result ≡ da_stmt (da_ctx c.args.ctx.now.local (marks_of c.args.ctx.now.names.now) c.args.ctx.now.sole) (forest c.args.rows) c.args.assigned = search asked in
    record { value = e; means = stmt_means c.args.ctx.now (forest c.args.rows) c.args.assigned _ e }
