use Rattle.std.proofs.Common.{◌≡◌, ◌++◌, drop}
use Rattle.lx_ir.specs.Faults.{reads_of_blocks}
use Rattle.lx_ir_walks.proofs.reads.push_blocks.Given as goal

abbrev pub invariant-loop-k : goal.invariant-loop-k
invariant-loop-k l =
    l.initial.out.items ++ reads_of_blocks l.index 0 l.blocks
    ≡ l.out.items ++ reads_of_blocks l.index l.k (drop l.k l.blocks)
