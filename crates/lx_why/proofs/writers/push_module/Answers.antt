-- A module's principals are the shared and the global one, and its instances.
use Rattle.lx_caps.specs.declared.Principal.TheVariants.{Shared, Global, Inst}
use Rattle.lx_caps.specs.Writers.{is_slot_writer}
use Rattle.lx_why.proofs.Writing.{module_more}
use Rattle.lx_why.proofs.writers.push_module.Goals as goal

pub returns : goal.returns
returns g c = λ h stands.
    module_more (is_slot_writer h c.args.slot) (Inst c.args.home) (Shared c.args.home) (Global c.args.home) _ _ _ _ _ _
    (c.in_ok-push_writer.ensures h stands) (c.in_ok-push_writer-2.ensures h stands) c.count.ensures (c.in_ok-push_instances.ensures h stands)
