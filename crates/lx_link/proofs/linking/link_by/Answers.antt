use Rattle.std.proofs.Common.{ap, subst, ◌∙◌}
use Rattle.lx_script.specs.Case.{Case, IsWithinLimits}
use Rattle.lx_link.specs.Answers.{named_modules, sources_of}
use Rattle.lx_link.proofs.Modules.{within_limits}
use Rattle.lx_link.proofs.linking.link_by.Goals as goal

pub link_sources-requires-clause-limits : goal.link_sources-requires-clause-limits
link_sources-requires-clause-limits g c =
    within_limits c.text_laws.ensures.limits c.args.texts.kernel c.args.texts.interface c.args.case.now c.args.texts.modules.items c.in_ok-sources.sources c.in_ok-sources.ensures.verified.0 c.in_ok-sources.ensures.verified.1
    (c.in_ok-sources.ensures.sources ∙ ap (λ x. sources_of c.args.texts.kernel c.args.texts.interface (named_modules x c.args.texts.modules.items)) (c.as_slice.ensures ∙ ap (λ (v : Case). v.modules) c.case.view_is))
    (subst (λ (v : Case). IsWithinLimits v.modules v.threads) c.case.view_is c.case.invariant)
