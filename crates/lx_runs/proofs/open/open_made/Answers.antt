use Rattle.std.proofs.Common.{sym, subst}
use Rattle.lx_link_texts.specs.WellFormed.{FitsCalls}
use Rattle.lx_runs.proofs.open.open_made.Goals as goal

pub open_images-opened-requires-clause-fits : goal.open_images-opened-requires-clause-fits
open_images-opened-requires-clause-fits g c = subst (FitsCalls c.args.input.program) (sym c.as_slice.ensures) c.requires.ready.linked.fits
