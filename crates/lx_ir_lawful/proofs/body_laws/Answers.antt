use Rattle.lx_ir_lawful.proofs.LawfulBodies.{body_lawful}
use Rattle.lx_ir_lawful.proofs.body_laws.Goals as goal

pub returns : goal.returns
returns c = body_lawful
