use Rattle.std.proofs.Common.{◌∙◌, ◌++◌, ap, map}
use Rattle.lx_world.specs.OwnerAccounts.{owned_as, owned_in}
use Rattle.lx_world.proofs.ownership.put_owner.Goals as goal

pub returns : goal.returns
unfolding owned_in
returns g c = λ h stands.
    c.in_ok-put_caps.ensures
    ∙ ap (λ cs. c.args.out.now.items ++ map (owned_as c.args.who) cs) (c.deref.ensures.value ∙ c.in_ok-owned.ensures h stands)
