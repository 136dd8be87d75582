use Rattle.std.proofs.Common.{◌≡◌, take}
use Rattle.lx_ir.specs.Init.{init_depth, inits_depth}
use Rattle.lx_ir.specs.InitNodes.{inits_of_list}
use Rattle.lx_ir_copies.proofs.inits.+inits.Given as goal

abbrev pub decreases-copied_init : goal.decreases-copied_init
decreases-copied_init l = init_depth l.init.now

abbrev pub decreases-copied_inits : goal.decreases-copied_inits
decreases-copied_inits l = inits_depth (inits_of_list l.items.now)

abbrev pub invariant-copied_inits-loop-i : goal.invariant-copied_inits-loop-i
invariant-copied_inits-loop-i l = l.copies.items ≡ take l.i l.items
