use Rattle.std.proofs.Common.{ℕ, ◌+◌, ◌++◌, List, drop, ap, sym, ◌∙◌}
use Rattle.std.specs.Prelude.{flat_map}
use Rattle.lx_ir.specs.Faults.{read_at_end, block_number}
use Rattle.lx_ir_walks.proofs.ReadLists.{appended, all_appended, flat_step, flat_end}
use Rattle.lx_ir_walks.proofs.reads.push_edges.Goals as goal

pub loop-edge-preserved : goal.loop-edge-preserved
loop-edge-preserved c =
    let rest = flat_map (λ e. read_at_end c.args.index.now (block_number c.args.index.now e.label) c.args.line e.value) (drop (c.loop-edge.edge-index + 1) c.args.edges.now) in
    appended _ c.loop-edge.out.items c.push_edge.new.out.items _ _ _ c.loop-edge.invariant
    (flat_step (λ e. read_at_end c.args.index.now (block_number c.args.index.now e.label) c.args.line e.value) c.args.edges.now c.loop-edge.edge-index c.edge-item.result c.loop-edge-test.true c.edge-item.is
    ∙ ap (λ (n : List ℕ). read_at_end c.args.index.now (block_number c.args.index.now n) c.args.line c.edge-item.result.value ++ rest) (sym c.as_slice.ensures)) c.in_ok-push_edge.ensures

pub returns : goal.returns
returns c =
    all_appended _ c.loop-edge.out.items _ c.loop-edge.invariant
    (flat_end (λ e. read_at_end c.args.index.now (block_number c.args.index.now e.label) c.args.line e.value) c.args.edges.now c.loop-edge.edge-index c.loop-edge-test.false)
