-- One module more.
use Rattle.lx_caps.specs.Writers.{is_slot_writer}
use Rattle.lx_model.specs.State.{module_principals}
use Rattle.lx_why.proofs.Writing.{list_more}
use Rattle.lx_why.proofs.writers.all_writers.Goals as goal

pub loop-home-preserved : goal.loop-home-preserved
loop-home-preserved g c = λ h stands.
    list_more (is_slot_writer h c.args.slot) (module_principals c.args.names.now.names) c.loop-home.home _ _ (c.loop-home.invariant h stands) (c.in_ok-push_module.ensures h stands)
