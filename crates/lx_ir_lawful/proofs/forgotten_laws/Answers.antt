use Rattle.lx_ir_lawful.proofs.SeenStatements.{statement_seen}
use Rattle.lx_ir_lawful.proofs.forgotten_laws.Goals as goal

pub returns : goal.returns
returns c context registers form places defined s ts us h = statement_seen context registers form places defined s ts us h
