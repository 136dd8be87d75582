use Rattle.std.proofs.Common.{◌-◌, length, arith, ap}
use Rattle.lx_script.proofs.Loops.{call_in_last}
use Rattle.lx_script.proofs.draft.push_call.Goals as goal

pub returns-clause-ok : goal.returns-clause-ok
returns-clause-ok c =
    rw (← c.threads.view_is)
    (call_in_last c.threads.inside.items.items (c.len-last.result - 1) c.index_mut.result.now c.push.new.self c.args.call (omega (arith, c.len-last.ensures, c.requires, ap length c.threads.view_is)) c.index_mut.ensures.value c.in_ok-push.ensures.items)
