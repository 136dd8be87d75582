use Rattle.std.proofs.Common.{◌∙◌, ◌++◌, ap, map}
use Rattle.std.specs.List.{flat_map}
use Rattle.lx_caps.specs.declared.Principal.TheVariants.{Inst}
use Rattle.lx_slot_types.specs.Gets.{below}
use Rattle.lx_world.specs.OwnerAccounts.{owned_in}
use Rattle.lx_world.proofs.Accounting.{module_whole}
use Rattle.lx_world.proofs.ownership.put_module.Goals as goal

pub returns : goal.returns
returns g c = λ h stands.
    module_whole (owned_in c.args.types h) c.args.home _ _ _ _ _ (c.in_ok-put_owner.ensures h stands) (c.in_ok-put_owner-2.ensures h stands)
    (c.in_ok-put_instances.ensures h stands
    ∙ ap (λ n. c.put_owner-2.new.out.items ++ flat_map (owned_in c.args.types h) (map (Inst c.args.home) (below n))) c.count-count.ensures)
