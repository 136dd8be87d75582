use Rattle.lx_ir.proofs.Forms.{no_value}
use Rattle.lx_ir.proofs.text.functions.put_op.Goals as goal

pub put_access-requires : goal.put_access-requires
put_access-requires c =
    no_value c.args.op.now c.in_default.not-Binary c.in_default.not-Compare c.in_default.not-Convert c.in_default.not-Unary c.in_default.not-Select c.in_default.not-Phi c.in_default.not-Alloca
