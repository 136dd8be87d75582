use Rattle.std.proofs.Common.{◌∙◌, ap, subst, ◌<◌}
use Rattle.std.specs.Prelude.{IfSome}
use Rattle.lx_caps.specs.Names.{named, instance_count}
use Rattle.lx_principals.specs.Instances.{Instances}
use Rattle.lx_principals.proofs.Numbers.{found_one}
use Rattle.lx_principals.proofs.Tables.{found}
use Rattle.lx_principals.proofs.principals.Principals.find.Goals as goal

pub returns-clause-named : goal.returns-clause-named
returns-clause-named c =
    c.copied.ensures
    ∙ c.get.ensures.value
    ∙ found c.self.inside.names.entries c.args.home c.args.value c.self.invariant.distinct
    ∙ ap (λ (i : Instances). named i.names c.args.home c.args.value) c.self.view_is

pub returns-clause-below : goal.returns-clause-below
returns-clause-below c =
    subst (λ (i : Instances). IfSome c.copied.result (λ k. k < instance_count i.names c.args.home)) c.self.view_is
    (found_one _ c.args.home c.args.value c.copied.result c.self.invariant.numbered
    (c.copied.ensures ∙ c.get.ensures.value ∙ found c.self.inside.names.entries c.args.home c.args.value c.self.invariant.distinct))
