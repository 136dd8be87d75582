-- Instructions that read registers of the same names do so as lines of images, and as others.
use Rattle.std.proofs.Common.{◌≡◌, Bool, true, false, true≢false, sym}
use Rattle.std.specs.Prelude.{[], if◌then◌else◌}
use Rattle.std.specs.List.{AllZip}
use Rattle.lx_ir.specs.declared.instr.Op.{Op}
use Rattle.lx_ir.specs.Operands.{operands_of, operands_where, is_image_line}
use Rattle.lx_ir_terms.specs.Context.{Context}
use Rattle.lx_ir_lawful.specs.Alike.{AlikeArguments, AlikeOps}

pub read_where : (c d : Context) (lines : Bool) (o p : Op) → AlikeOps c d o p → AllZip (AlikeArguments c d) (operands_where lines o) (operands_where lines p)
read_where c d true o p a = by (is_image_line o) (is_image_line p) a.lines
  where
    by : (v w : Bool) → v ≡ w → AllZip (AlikeArguments c d) (if v then operands_of o else []) (if w then operands_of p else [])
    by true true e = a.read
    by false false e = tt
    by true false e = absurd (true≢false e)
    by false true e = absurd (true≢false (sym e))
read_where c d false o p a = by (is_image_line o) (is_image_line p) a.lines
  where
    by : (v w : Bool) → v ≡ w → AllZip (AlikeArguments c d) (if v then [] else operands_of o) (if w then [] else operands_of p)
    by true true e = tt
    by false false e = a.read
    by true false e = absurd (true≢false e)
    by false true e = absurd (true≢false (sym e))
