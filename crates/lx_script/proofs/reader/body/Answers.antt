use Rattle.std.proofs.lemmas.Result.{err_from_is_err_and}
use Rattle.lx_script.proofs.Loops.{body_more, body_fails, body_done}
use Rattle.lx_script.proofs.reader.body.Goals as goal

pub loop-statement-preserved : goal.loop-statement-preserved
loop-statement-preserved c = body_more c.loop-statement.draft c.add.new.self c.in-Some.statement c.loop-statement.statements c.next_statement.new.self _ c.loop-statement.invariant c.in-Some.ensures c.in_ok-add.ensures

pub returns-in_err-add : goal.returns-in_err-add
returns-in_err-add c =
    let p = err_from_is_err_and c.from_residual.result c.from_residual.ensures.1 in
    rw (p.1, p.2) (body_fails c.loop-statement.draft c.in-Some.statement c.loop-statement.statements c.next_statement.new.self c.in_err-add.field-0.0 _ c.loop-statement.invariant c.in-Some.ensures c.in_err-add.ensures)

pub returns : goal.returns
returns c = body_done c.loop-statement.draft c.loop-statement.statements _ c.loop-statement.invariant c.in_default.ensures.0
