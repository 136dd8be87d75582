use Rattle.std.proofs.Common.{subst}
use Rattle.lx_link_texts.specs.WellFormed.{FitsCalls}
use Rattle.lx_link.specs.declared.linked.LinkedParts.{LinkedParts}
use Rattle.lx_link.proofs.linked.Linked.calls.Goals as goal

pub returns-clause-fit : goal.returns-clause-fit
returns-clause-fit c = subst (λ (v : LinkedParts). FitsCalls v.program v.calls) c.self.view_is c.self.invariant.calls
