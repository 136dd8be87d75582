use Rattle.std.proofs.Common.{◌+◌, ◌*◌, drop}
use Rattle.lx_ir.specs.Init.{init_depth, inits_depth}
use Rattle.lx_ir.specs.InitNodes.{inits_of_list}
use Rattle.lx_slot_types.specs.Sites.{items_sites}
use Rattle.lx_propagate.specs.Tables.{Table, Adds}
use Rattle.lx_propagate.proofs.inits.+inits.Given as goal

abbrev pub decreases-add_init : goal.decreases-add_init
decreases-add_init l = 2 * init_depth l.init.now

abbrev pub decreases-add_items : goal.decreases-add_items
decreases-add_items l = 2 * inits_depth (inits_of_list l.items.now)

abbrev pub decreases-add_item : goal.decreases-add_item
decreases-add_item l = 2 * init_depth l.item.now + 1

-- what is left to add makes all of them
abbrev pub invariant-add_items-loop-k : goal.invariant-add_items-loop-k
invariant-add_items-loop-k l =
    (c : Table) → Adds l.sums.interface l.sums.text (items_sites l.t l.k (drop l.k l.types) (inits_of_list (drop l.k l.items))) l.table.entries c → Adds l.sums.interface l.sums.text (items_sites l.t 0 l.types (inits_of_list l.items)) l.fn.table.entries c
