use Rattle.lx_ir.proofs.Forms.{an_end}
use Rattle.lx_ir.proofs.text.functions.put_access.Goals as goal

pub put_end-requires : goal.put_end-requires
put_end-requires c =
    an_end c.args.op.now c.requires c.in_default.not-Load c.in_default.not-Store c.in_default.not-GetElementPtr c.in_default.not-Call c.in_default.not-CopyBlock c.in_default.not-FillBlock
