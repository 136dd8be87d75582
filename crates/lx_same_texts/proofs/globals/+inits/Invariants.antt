use Rattle.std.proofs.Common.{◌≡◌, drop}
use Rattle.lx_ir.specs.Init.{init_depth, inits_depth}
use Rattle.lx_ir.specs.InitNodes.{inits_of_list}
use Rattle.lx_same_texts.specs.Same.{same_inits}
use Rattle.lx_same_texts.proofs.globals.+inits.Given as goal

abbrev pub decreases-is_same_init : goal.decreases-is_same_init
decreases-is_same_init l = init_depth l.a.now

abbrev pub decreases-are_same_inits : goal.decreases-are_same_inits
decreases-are_same_inits l = inits_depth (inits_of_list l.a.now)

abbrev pub invariant-are_same_inits-loop-i : goal.invariant-are_same_inits-loop-i
invariant-are_same_inits-loop-i l =
    same_inits (inits_of_list l.a) (inits_of_list l.b) ≡ same_inits (inits_of_list (drop l.i l.a)) (inits_of_list (drop l.i l.b))
