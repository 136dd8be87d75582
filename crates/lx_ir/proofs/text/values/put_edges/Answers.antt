use Rattle.lx_ir.specs.Text.{edge_text}
use Rattle.lx_ir.proofs.TypeLists.{next_item, all_items}
use Rattle.lx_ir.proofs.text.values.put_edges.Goals as goal

pub loop-i-preserved : goal.loop-i-preserved
loop-i-preserved c =
    next_item (edge_text c.args.scope.m.now c.args.scope.f.now) c.args.edges.now c.loop-i.i c.index-edges-i.result _ _ _ _ c.loop-i-test.true c.index-edges-i.is c.loop-i.invariant c.in_ok-put_separator.ensures c.in_ok-put_edge.ensures

pub returns : goal.returns
returns c = all_items (edge_text c.args.scope.m.now c.args.scope.f.now) c.args.edges.now c.loop-i.i _ _ c.loop-i-test.false c.loop-i.invariant
