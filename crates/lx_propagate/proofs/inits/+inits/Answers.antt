use Rattle.std.proofs.Common.{arith}
use Rattle.lx_ir.specs.InitNodes.{inits_of_list}
use Rattle.lx_ir.proofs.InitLists.{depth_of_init}
use Rattle.std.specs.Prelude.{option_to_list}
use Rattle.lx_slot_types.specs.Sites.{items_sites}
use Rattle.lx_propagate.proofs.Items.{items_more, items_done}
use Rattle.lx_propagate.proofs.inits.+inits.Goals as goal

pub add_items-add_item-requires : goal.add_items-add_item-requires
add_items-add_item-requires t c =
    (omega (arith, c.decreases, depth_of_init c.args.items.now c.loop-k.k c.index-items-k.result (omega arith) c.index-items-k.is), tt)

pub add_items-loop-k-preserved : goal.add_items-loop-k-preserved
add_items-loop-k-preserved t c =
    items_more c.args.sums.now.interface c.args.sums.now.text c.args.t.now c.args.types.now c.args.items.now c.loop-k.k c.index-types-k.result c.index-items-k.result (option_to_list c.field_if_named.result) (items_sites c.args.t.now 0 c.args.types.now (inits_of_list c.args.items.now)) c.args.table.now.entries c.loop-k.table.entries c.add_item.new.table.entries (omega arith) (omega arith) c.index-types-k.is c.index-items-k.is c.field_if_named.ensures c.loop-k.invariant c.in_ok-add_item.ensures

pub add_items-returns : goal.add_items-returns
add_items-returns t c =
    items_done c.args.sums.now.interface c.args.sums.now.text c.args.t.now c.args.types.now c.args.items.now c.loop-k.k (items_sites c.args.t.now 0 c.args.types.now (inits_of_list c.args.items.now)) c.args.table.now.entries c.loop-k.table.entries (omega arith) c.loop-k.invariant
