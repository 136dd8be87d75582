-- Whom an action gives its items to does not matter to what it needs.
use Rattle.std.proofs.Common.{◌∙◌, ap, sym}
use Rattle.std.proofs.lemmas.Result.{IfOk-weaker}
use Rattle.lx_model.specs.declared.request.What.{What}
use Rattle.lx_run_laws.specs.Needs.{all_needs}
use Rattle.lx_why.specs.ListedNeeds.{of_modules}
use Rattle.lx_why.proofs.request_needs.needs_of.Goals as goal

pub returns-in-Perform-clause-needs : goal.returns-in-Perform-clause-needs
returns-in-Perform-clause-needs g c =
    IfOk-weaker c.perform_needs.result _ _
    (λ needs told. λ p s stands. told p s c.args.request.now.who c.in-Perform.dest stands ∙ ap (λ (w : What). of_modules (all_needs p s c.args.request.now.who w)) (sym c.in-Perform.is))
    c.perform_needs.ensures.needs
