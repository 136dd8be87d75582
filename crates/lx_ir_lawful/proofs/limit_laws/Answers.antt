use Rattle.lx_ir_lawful.proofs.LawfulLimits.{lawful}
use Rattle.lx_ir_lawful.proofs.limit_laws.Goals as goal

pub returns : goal.returns
returns c = lawful
