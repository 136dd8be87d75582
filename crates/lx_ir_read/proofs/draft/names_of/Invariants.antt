use Rattle.std.proofs.Common.{◌≡◌, take, map}
use Rattle.lx_ir_read.specs.Again.{register_name}
use Rattle.lx_ir_read.proofs.draft.names_of.Given as goal

abbrev pub invariant-loop-register : goal.invariant-loop-register
invariant-loop-register l = l.list ≡ map (register_name l.names) (take l.register-index l.registers)
