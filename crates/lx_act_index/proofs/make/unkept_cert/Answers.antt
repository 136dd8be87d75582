-- Whose parts are cut is held.
use Rattle.std.proofs.Common.{subst}
use Rattle.lx_certificates.specs.declared.givers.Gifts.TheVariants.{Both}
use Rattle.lx_certificates.specs.Certificates.{seek}
use Rattle.lx_certificates.specs.Making.{IsCutting}
use Rattle.lx_certificates.proofs.Making.{parts_held}
use Rattle.lx_act_index.proofs.make.unkept_cert.Goals as goal

pub borrowed-requires-clause-held : goal.borrowed-requires-clause-held
borrowed-requires-clause-held c = λ h stands.
    let need = c.args.need in
    parts_held h need.who need.cap c.in-Parts.field-0 (subst (IsCutting h (seek Both need.who need.cap)) c.in-Parts.is (c.in_ok-cut.ensures h stands))
