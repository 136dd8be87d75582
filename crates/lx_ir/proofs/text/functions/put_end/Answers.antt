use Rattle.lx_ir.proofs.Forms.{no_other}
use Rattle.lx_ir.proofs.text.functions.put_end.Goals as goal

pub unreachable-requires : goal.unreachable-requires
unreachable-requires c =
    no_other c.args.op.now c.requires c.in_default.not-Ret c.in_default.not-Jump c.in_default.not-Branch c.in_default.not-Switch c.in_default.not-Unreachable c.in_default.not-Guard c.in_default.not-Check c.in_default.not-Enter c.in_default.not-Pre c.in_default.not-Post c.in_default.not-Leave
