use Rattle.std.proofs.Common.{◌≡◌, drop}
use Rattle.lx_ir_offsets.specs.Known.{named_in, layouts_in}
use Rattle.lx_ir_offsets.specs.Offsets.{moved}
use Rattle.lx_ir_offsets.proofs.offset.moved.Given as goal

abbrev pub invariant-loop-i : goal.invariant-loop-i
invariant-loop-i l = moved (named_in l.types) (layouts_in l.types) l.offset l.t (drop l.i-index l.indices) ≡ moved (named_in l.fn.types) (layouts_in l.fn.types) l.fn.offset l.fn.t l.fn.indices
