use Rattle.std.proofs.Common.{◌≡◌, ◌++◌, drop}
use Rattle.std.specs.Prelude.{flat_map}
use Rattle.lx_ir.specs.Faults.{read_at_end, block_number}
use Rattle.lx_ir_walks.proofs.reads.push_edges.Given as goal

abbrev pub invariant-loop-edge : goal.invariant-loop-edge
invariant-loop-edge l =
    l.initial.out.items ++ flat_map (λ e. read_at_end l.index (block_number l.index e.label) l.line e.value) l.edges
    ≡ l.out.items ++ flat_map (λ e. read_at_end l.index (block_number l.index e.label) l.line e.value) (drop l.edge-index l.edges)
