use Rattle.std.proofs.Common.{◌≡◌, drop}
use Rattle.lx_ir.specs.Init.{init_depth, inits_depth}
use Rattle.lx_ir.specs.InitNodes.{inits_of_list}
use Rattle.lx_ir.specs.Faults.{inits_fit}
use Rattle.lx_ir_verify.proofs.types.+fits.Given as goal

abbrev pub decreases-init_fits : goal.decreases-init_fits
decreases-init_fits l = init_depth l.init.now

abbrev pub decreases-inits_fit : goal.decreases-inits_fit
decreases-inits_fit l = inits_depth (inits_of_list l.items.now)

abbrev pub invariant-inits_fit-loop-i : goal.invariant-inits_fit-loop-i
invariant-inits_fit-loop-i l =
    inits_fit l.m.types l.types (inits_of_list l.items) ≡ inits_fit l.m.types (drop l.i l.types) (inits_of_list (drop l.i l.items))
