use Rattle.std.proofs.Common.{◌≡◌, ◌++◌, drop}
use Rattle.std.specs.Prelude.{flat_map}
use Rattle.lx_ir.specs.Faults.{read_here}
use Rattle.lx_ir_walks.proofs.reads.push_operands.Given as goal

abbrev pub invariant-loop-operand : goal.invariant-loop-operand
invariant-loop-operand l =
    l.initial.out.items ++ flat_map (λ a. read_here l.block l.place l.line a.value) l.operands
    ≡ l.out.items ++ flat_map (λ a. read_here l.block l.place l.line a.value) (drop l.operand-index l.operands)
