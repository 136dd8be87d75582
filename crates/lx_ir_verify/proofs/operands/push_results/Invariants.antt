use Rattle.std.proofs.Common.{◌≡◌, ◌++◌, drop}
use Rattle.std.specs.Prelude.{filter_map}
use Rattle.lx_ir.specs.Operands.{result_of}
use Rattle.lx_ir_verify.proofs.operands.push_results.Given as goal

abbrev pub invariant-loop-instr : goal.invariant-loop-instr
invariant-loop-instr l =
    l.initial.types.items ++ filter_map (λ i. result_of i.op) l.instrs ≡ l.types.items ++ filter_map (λ i. result_of i.op) (drop l.instr-index l.instrs)
