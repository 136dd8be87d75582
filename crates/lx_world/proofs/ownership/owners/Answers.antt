use Rattle.std.proofs.Common.{◌≡◌, arith, subst}
use Rattle.std.specs.List.{flat_map}
use Rattle.lx_model.specs.State.{module_principals}
use Rattle.lx_slot_types.specs.Gets.{below}
use Rattle.lx_world.specs.OwnerAccounts.{owned_in}
use Rattle.lx_world.proofs.Accounting.{owners_more}
use Rattle.lx_world.proofs.ownership.owners.Goals as goal

pub loop-home-preserved : goal.loop-home-preserved
loop-home-preserved g c = λ h stands.
    owners_more (owned_in c.args.types h) (module_principals c.args.names.now.names) c.loop-home.home _ _ (c.loop-home.invariant h stands) (c.in_ok-put_module.ensures h stands)

pub returns : goal.returns
returns g c = λ h stands.
    let e : c.loop-home.home ≡ c.args.modules = omega (arith, c.loop-home-test.false, c.loop-home.auto.home-end) in
    subst (λ n. c.loop-home.out.items ≡ flat_map (owned_in c.args.types h) (flat_map (module_principals c.args.names.now.names) (below n))) e (c.loop-home.invariant h stands)
