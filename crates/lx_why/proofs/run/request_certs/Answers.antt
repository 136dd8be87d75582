use Rattle.std.proofs.Common.{◌∙◌, ap, subst, List}
use Rattle.std.proofs.lemmas.Result.{IfOk-weaker}
use Rattle.lx_certificates.specs.declared.Need.{Need}
use Rattle.lx_certificates.specs.Needs.{AreCertsOf, up_to_unmet}
use Rattle.lx_certificates.specs.Told.{told}
use Rattle.lx_why.proofs.Behind.{unmet_told}
use Rattle.lx_why.proofs.run.request_certs.Goals as goal

pub returns : goal.returns
returns g c =
    IfOk-weaker c.certs_for-certs.result _ _ (λ certs are. λ p s part index.
    subst (λ (ns : List Need). AreCertsOf (told s.history) ns certs)
    (ap (up_to_unmet (told s.history)) (c.as_slice.ensures ∙ c.in_ok-needs.ensures.needs p s part) ∙ unmet_told c.told_laws.ensures s.history _)
    (are (told s.history) index)) c.certs_for-certs.ensures
