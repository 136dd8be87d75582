use Rattle.std.proofs.Common.{arith}
use Rattle.lx_report.proofs.Numbered.{numbered_more, numbered_all}
use Rattle.lx_why_text.specs.Text.{act_line}
use Rattle.lx_why_text.proofs.acts.put_acts.Goals as goal

pub loop-n-preserved : goal.loop-n-preserved
loop-n-preserved c =
    let t = c.args.teller.now in
    numbered_more (act_line t.program.now t.names) c.args.acts.now c.loop-n.n _ _ _ _ (omega arith) c.loop-n.invariant c.in_ok-put_act.ensures

pub returns : goal.returns
returns c =
    let t = c.args.teller.now in
    numbered_all (act_line t.program.now t.names) c.args.acts.now c.loop-n.n _ _ (omega arith) c.loop-n.invariant
