-- The certificate is appended.
use Rattle.std.proofs.Common.{◌∙◌}
use Rattle.lx_certificates.proofs.Needing.{met}
use Rattle.lx_act_index.proofs.make.push_cert.Goals as goal

pub returns : goal.returns
returns c = λ h stands.
    let is = c.in_ok-cert.ensures h stands in
    (c.in_ok-cert.cert, c.in_ok-push.ensures.items, is, c.is_allow-met.ensures ∙ met h c.args.need c.in_ok-cert.cert is)
