use Rattle.std.proofs.Common.{◌≡◌, ◌++◌, drop}
use Rattle.std.specs.Prelude.{filter_map, flat_map}
use Rattle.lx_ir.specs.Operands.{result_of}
use Rattle.lx_ir_verify.proofs.operands.push_block_results.Given as goal

abbrev pub invariant-loop-block : goal.invariant-loop-block
invariant-loop-block l =
    l.initial.types.items ++ filter_map (λ i. result_of i.op) (flat_map (λ b. b.instrs) l.blocks)
    ≡ l.types.items ++ filter_map (λ i. result_of i.op) (flat_map (λ b. b.instrs) (drop l.block-index l.blocks))
