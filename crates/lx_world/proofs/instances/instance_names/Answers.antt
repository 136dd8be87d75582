use Rattle.std.proofs.Common.{◌≡◌, arith, subst}
use Rattle.std.specs.List.{flat_map}
use Rattle.lx_model.specs.Account.{instance_names}
use Rattle.lx_slot_types.specs.Gets.{below}
use Rattle.lx_world.proofs.Accounting.{gathered_more}
use Rattle.lx_world.proofs.instances.instance_names.Goals as goal

pub loop-home-preserved : goal.loop-home-preserved
loop-home-preserved c = gathered_more (instance_names c.args.names.now.names) c.loop-home.home _ _ c.loop-home.invariant c.in_ok-put_module.ensures

pub returns : goal.returns
returns c =
    let e : c.loop-home.home ≡ c.args.modules = omega (arith, c.loop-home-test.false, c.loop-home.auto.home-end) in
    subst (λ n. c.loop-home.out.items ≡ flat_map (instance_names c.args.names.now.names) (below n)) e c.loop-home.invariant
