use Rattle.lx_ir.specs.declared.module.GlobalVar.{GlobalVar}
use Rattle.lx_slot_types.specs.Sites.{init_sites}
use Rattle.lx_propagate.proofs.Adding.{adds_more}
use Rattle.lx_propagate.proofs.inits.add_globals.Goals as goal

pub loop-global-preserved : goal.loop-global-preserved
loop-global-preserved c =
    adds_more c.args.sums.now.interface c.args.sums.now.text (λ (g : GlobalVar). init_sites g.ty g.init) c.args.globals.now c.loop-global.global-index c.global-item.result c.args.table.now.entries c.loop-global.table.entries c.add_init.new.table.entries c.loop-global-test.true c.global-item.is c.loop-global.invariant c.in_ok-add_init.ensures
