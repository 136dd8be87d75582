use Rattle.lx_ir_complete.proofs.FreeStatements.{statement_free}
use Rattle.lx_ir_complete.proofs.unlimited_laws.Goals as goal

pub returns : goal.returns
returns c context form places defined s ts us h = statement_free context form places defined s ts us h
