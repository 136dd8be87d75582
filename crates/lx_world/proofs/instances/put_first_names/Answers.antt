use Rattle.std.proofs.Common.{◌≡◌, ◌++◌, arith, subst}
use Rattle.std.specs.List.{filter_map}
use Rattle.lx_model.specs.Account.{instance_name}
use Rattle.lx_slot_types.specs.Gets.{below}
use Rattle.lx_world.proofs.Accounting.{filtered_more}
use Rattle.lx_world.proofs.instances.put_first_names.Goals as goal

pub loop-instance-preserved : goal.loop-instance-preserved
loop-instance-preserved c =
    filtered_more (instance_name c.args.names.now.names c.args.home) c.loop-instance.instance _ _ _ c.loop-instance.invariant c.in_ok-put_name.ensures

pub returns : goal.returns
returns c =
    let e : c.loop-instance.instance ≡ c.args.count = omega (arith, c.loop-instance-test.false, c.loop-instance.auto.instance-end) in
    subst (λ n. c.loop-instance.out.items ≡ c.args.out.now.items ++ filter_map (instance_name c.args.names.now.names c.args.home) (below n)) e c.loop-instance.invariant
