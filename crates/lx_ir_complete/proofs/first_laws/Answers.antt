use Rattle.lx_ir_complete.proofs.Finding.{first_finds}
use Rattle.lx_ir_complete.proofs.first_laws.Goals as goal

pub returns : goal.returns
returns c context own form places m toks lawful once all state = first_finds c.statement_laws.ensures.read c.forgotten_laws.ensures context own form places m toks lawful once all state
