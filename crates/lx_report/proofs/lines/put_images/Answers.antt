use Rattle.std.proofs.Common.{arith}
use Rattle.lx_report.specs.Report.{image_line}
use Rattle.lx_report.proofs.Numbered.{numbered_more, numbered_all}
use Rattle.lx_report.proofs.lines.put_images.Goals as goal

pub loop-m-preserved : goal.loop-m-preserved
loop-m-preserved c =
    numbered_more (image_line c.args.p.now) c.args.images.now c.loop-m.m _ _ _ _ (omega arith) c.loop-m.invariant c.in_ok-put_image.ensures

pub returns : goal.returns
returns c = numbered_all (image_line c.args.p.now) c.args.images.now c.loop-m.m _ _ (omega arith) c.loop-m.invariant
