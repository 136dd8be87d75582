use Rattle.std.proofs.Common.{◌≡◌, true, drop}
use Rattle.lx_actions.specs.Shown.{IsShownBy}
use Rattle.lx_caps.specs.Memory.{Memory}
use Rattle.lx_ir.specs.Init.{init_depth, inits_depth}
use Rattle.lx_ir.specs.InitNodes.{inits_of_list}
use Rattle.lx_ir.specs.Layout.{layout}
use Rattle.lx_model.specs.Opening.{with_items}
use Rattle.lx_opening.specs.Placed.{are_items_placed}
use Rattle.lx_opening.proofs.inits.+init.Given as goal

abbrev pub decreases-put_init : goal.decreases-put_init
decreases-put_init l = init_depth l.init.now

abbrev pub decreases-put_items : goal.decreases-put_items
decreases-put_items l = inits_depth (inits_of_list l.items.now)

abbrev pub invariant-put_items-loop-i : goal.invariant-put_items-loop-i
invariant-put_items-loop-i l = record {
  placed : are_items_placed l.code l.home l.at l.packed l.taken (drop l.i l.types) (inits_of_list (drop l.i l.items)) ≡ true;
  shown : (m : Memory) → IsShownBy l.fn.space m → (mid : Memory) × IsShownBy l.space mid
      × (with_items l.code l.home l.at l.packed (layout l.taken 1) (drop l.i l.types) (inits_of_list (drop l.i l.items)) mid ≡ with_items l.code l.home l.at l.packed (layout 0 1) l.types (inits_of_list l.items) m);
}
