use Rattle.std.proofs.Common.{codes, arith}
use Rattle.lx_generate.specs.Generated.{line_in}
use Rattle.lx_generate.proofs.Ranges.{added_more}
use Rattle.lx_generate.proofs.generated.put_thread.Goals as goal

pub loop-j-preserved : goal.loop-j-preserved
loop-j-preserved c = (
  omega (arith, c.loop-j-test.true),
  added_more (line_in c.args.n c.args.thread) c.loop-j.j c.args.case.now.items (codes "thread\n") c.loop-j.case.items c.put_call_in.new.case.items c.loop-j.invariant.1 c.in_ok-put_call_in.ensures,
)
