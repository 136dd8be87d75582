use Rattle.std.proofs.Common.{◌≡◌, ◌++◌, take}
use Rattle.lx_ir.specs.Init.{init_depth, inits_depth}
use Rattle.lx_ir.specs.InitNodes.{inits_of_list}
use Rattle.lx_ir.specs.Text.{item_texts, comma_list}
use Rattle.lx_ir.proofs.text.constants.+put_init.Given as goal

abbrev pub decreases-put_init : goal.decreases-put_init
decreases-put_init l = init_depth l.init.now

abbrev pub decreases-put_items : goal.decreases-put_items
decreases-put_items l = inits_depth (inits_of_list l.items.now)

abbrev pub invariant-put_items-loop-i : goal.invariant-put_items-loop-i
invariant-put_items-loop-i l = l.out.items ≡ l.initial.out.items ++ comma_list (take l.i (item_texts l.m l.types (inits_of_list l.items)))
