use Rattle.std.proofs.Common.{◌≡◌, drop}
use Rattle.lx_ir.specs.Init.{init_depth, inits_depth}
use Rattle.lx_ir.specs.InitNodes.{inits_of_list}
use Rattle.lx_image_texts.specs.ImageFaults.{inits_mention}
use Rattle.lx_image_check.proofs.globals.+inits.Given as goal

abbrev pub decreases-init_mentions : goal.decreases-init_mentions
decreases-init_mentions l = init_depth l.init.now

abbrev pub decreases-inits_mention : goal.decreases-inits_mention
decreases-inits_mention l = inits_depth (inits_of_list l.items.now)

abbrev pub invariant-inits_mention-loop-i : goal.invariant-inits_mention-loop-i
invariant-inits_mention-loop-i l = inits_mention l.m (inits_of_list l.items) ≡ inits_mention l.m (inits_of_list (drop l.i l.items))
