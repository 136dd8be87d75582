use Rattle.lx_ir_offsets.proofs.FitLaws.{fit_is}
use Rattle.lx_ir_offsets.proofs.layout_laws.Goals as goal

pub returns : goal.returns
returns c = fit_is
