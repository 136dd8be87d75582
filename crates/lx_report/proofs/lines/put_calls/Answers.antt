use Rattle.std.proofs.Common.{arith, refl}
use Rattle.lx_report.specs.Report.{call_line_of}
use Rattle.lx_report.proofs.Numbered.{numbered_more_at, numbered_all}
use Rattle.lx_report.proofs.lines.put_calls.Goals as goal

pub loop-k-preserved : goal.loop-k-preserved
loop-k-preserved c =
    let t = c.args.told.now.teller in
    numbered_more_at (call_line_of t.program.now c.args.calls.now t.names) c.args.calls.now c.args.calls.now c.loop-k.k c.index-calls-k.result _ _ _ refl (omega arith)
    c.index-calls-k.is c.loop-k.invariant c.in_ok-put_call.ensures

pub returns : goal.returns
returns c =
    let t = c.args.told.now.teller in
    numbered_all (call_line_of t.program.now c.args.calls.now t.names) c.args.calls.now c.loop-k.k _ _ (omega arith) c.loop-k.invariant
