use Rattle.std.proofs.Common.{◌≡◌, take, map}
use Rattle.lx_ir_read.specs.Again.{nameless}
use Rattle.lx_ir_read.proofs.draft.nameless.Given as goal

abbrev pub invariant-loop-ty : goal.invariant-loop-ty
invariant-loop-ty l = l.params ≡ map nameless (take l.ty-index l.types)
