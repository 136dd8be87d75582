-- Whose parts are cut is held.
use Rattle.std.proofs.Common.{subst, reverse}
use Rattle.lx_certificates.specs.declared.givers.Gifts.TheVariants.{Both}
use Rattle.lx_certificates.specs.Certificates.{seek}
use Rattle.lx_certificates.specs.Making.{IsCutting}
use Rattle.lx_certificates.proofs.Making.{parts_held}
use Rattle.lx_certificates.proofs.make.unkept_cert.Goals as goal

pub borrowed-requires-clause-held : goal.borrowed-requires-clause-held
borrowed-requires-clause-held c =
    let h = reverse c.args.acts.now in
    parts_held h c.args.who c.args.cap c.in-Parts.field-0 (subst (IsCutting h (seek Both c.args.who c.args.cap)) c.in-Parts.is (c.in_ok-cut.ensures))
