use Rattle.std.proofs.Common.{arith}
use Rattle.lx_trace_text.proofs.Lines.{told_more, told_all}
use Rattle.lx_trace_text.proofs.events.put_events.Goals as goal

pub loop-n-preserved : goal.loop-n-preserved
loop-n-preserved c =
    let t = c.args.told.now.teller in
    λ bs h. told_more t.program.now t.names c.args.events.now c.loop-n.n c.index-events-n.result _ _ _ _ _ (omega arith) c.index-events-n.is (c.loop-n.invariant bs h) c.in_ok-put_next.ensures

pub returns : goal.returns
returns c =
    let t = c.args.told.now.teller in
    λ bs h. told_all t.program.now t.names c.args.events.now c.loop-n.n _ _ _ (omega arith) (c.loop-n.invariant bs h)
