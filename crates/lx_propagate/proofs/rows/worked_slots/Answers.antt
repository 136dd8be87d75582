use Rattle.lx_propagate.proofs.RowProofs.{worked}
use Rattle.lx_propagate.proofs.rows.worked_slots.Goals as goal

pub returns : goal.returns
returns c = worked
