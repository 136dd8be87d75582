use Rattle.std.proofs.Common.{◌≡◌, drop}
use Rattle.lx_ir.specs.Faults.{has_path}
use Rattle.lx_ir_verify.proofs.typing.has_path.Given as goal

abbrev pub invariant-loop-index : goal.invariant-loop-index
invariant-loop-index l = has_path l.m.types l.indices l.fn.t ≡ has_path l.m.types (drop l.index-index l.indices) l.t
