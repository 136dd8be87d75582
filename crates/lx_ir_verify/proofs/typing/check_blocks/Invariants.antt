use Rattle.std.proofs.Common.{◌≡◌, drop}
use Rattle.std.specs.Prelude.{flat_map}
use Rattle.lx_ir.specs.Faults.{first_some, type_fault}
use Rattle.lx_ir_verify.proofs.typing.check_blocks.Given as goal

abbrev pub invariant-loop-block : goal.invariant-loop-block
invariant-loop-block l =
    first_some (type_fault l.m l.f l.types) (flat_map (λ b. b.instrs) l.blocks)
    ≡ first_some (type_fault l.m l.f l.types) (flat_map (λ b. b.instrs) (drop l.block-index l.blocks))
