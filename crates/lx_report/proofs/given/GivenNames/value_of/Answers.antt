use Rattle.std.proofs.Common.{◌∙◌, ap, List, ℕ, Option}
use Rattle.std.specs.Prelude.{unwrap_or}
use Rattle.lx_model.specs.declared.account.InstanceName.{InstanceName}
use Rattle.lx_report.specs.Report.{given_name}
use Rattle.lx_report.proofs.given.GivenNames.value_of.Goals as goal

pub returns : goal.returns
returns c =
    c.unwrap_or.ensures
    ∙ ap (λ (found : Option ℕ). unwrap_or found 0) (c.copied.ensures ∙ c.get.ensures.value ∙ c.self.invariant c.args.m c.args.k)
    ∙ ap (λ (names : List InstanceName). given_name names c.args.m c.args.k) c.self.view_is
