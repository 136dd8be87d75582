use Rattle.std.proofs.Common.{◌≡◌, take, map}
use Rattle.lx_ir.specs.Faults.{successors_of}
use Rattle.lx_ir_walks.proofs.exits.exits_of.Given as goal

abbrev pub invariant-loop-block : goal.invariant-loop-block
invariant-loop-block l = l.table.items ≡ map (successors_of l.index) (take l.block-index l.blocks)
