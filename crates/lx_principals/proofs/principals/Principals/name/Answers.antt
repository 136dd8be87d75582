use Rattle.std.proofs.Common.{◌<◌, ◌∙◌, ap, sym, subst}
use Rattle.lx_caps.specs.Names.{named, instance_count}
use Rattle.lx_principals.specs.Instances.{Instances}
use Rattle.lx_principals.specs.Kept.{namings}
use Rattle.lx_principals.proofs.Numbers.{named_further}
use Rattle.lx_principals.proofs.Tables.{found}
use Rattle.lx_principals.proofs.principals.Principals.name.Goals as goal

pub put_name-requires : goal.put_name-requires
put_name-requires c =
    found c.self.inside.names.entries c.args.home c.args.value c.self.invariant.distinct
    ∙ ap (λ (i : Instances). named i.names c.args.home c.args.value) c.self.view_is
    ∙ c.requires.unnamed

pub invariant_of-self-2 : goal.invariant_of-self-2
invariant_of-self-2 c =
    let there : c.args.instance < instance_count (namings c.self.inside.names.entries) c.args.home = subst (λ (i : Instances). c.args.instance < instance_count i.names c.args.home) (sym c.self.view_is) c.requires.there in
    named_further c.self.inside.names.entries c.put_name.new.names.entries c.self.inside.firsts.entries c.self.inside.counts.items c.args.home c.args.value c.args.instance
    c.self.invariant there c.in_ok-put_name.ensures.ok c.in_ok-put_name.ensures.once
