use Rattle.std.proofs.Common.{◌≡◌, ◌++◌, map, arith, subst}
use Rattle.std.specs.List.{flat_map}
use Rattle.lx_caps.specs.declared.Principal.TheVariants.{Inst}
use Rattle.lx_slot_types.specs.Gets.{below}
use Rattle.lx_world.specs.OwnerAccounts.{owned_in}
use Rattle.lx_world.proofs.Accounting.{instances_more}
use Rattle.lx_world.proofs.ownership.put_instances.Goals as goal

pub loop-instance-preserved : goal.loop-instance-preserved
loop-instance-preserved g c = λ h stands.
    instances_more (owned_in c.args.types h) c.args.home c.loop-instance.instance _ _ _ (c.loop-instance.invariant h stands) (c.in_ok-put_owner.ensures h stands)

pub returns : goal.returns
returns g c = λ h stands.
    let e : c.loop-instance.instance ≡ c.args.count = omega (arith, c.loop-instance-test.false, c.loop-instance.auto.instance-end) in
    subst (λ n. c.loop-instance.out.items ≡ c.args.out.now.items ++ flat_map (owned_in c.args.types h) (map (Inst c.args.home) (below n))) e (c.loop-instance.invariant h stands)
