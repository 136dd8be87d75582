use Rattle.std.proofs.Common.{arith}
use Rattle.lx_ir_complete.proofs.LawfulShapes.{inside}
use Rattle.lx_ir_complete.proofs.printed_limit_laws.Goals as goal

pub returns : goal.returns
returns c types t h = inside types 64 t h (omega arith)
