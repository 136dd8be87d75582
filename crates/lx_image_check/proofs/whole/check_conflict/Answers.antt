use Rattle.lx_propagate.specs.Slots.{conflict_of}
use Rattle.lx_image_check.proofs.whole.check_conflict.Goals as goal

pub returns-in-Err : goal.returns-in-Err
returns-in-Err c = c.refuse_conflict.ensures (conflict_of c.args.i.now c.args.stripped.now) c.in-Err.ensures
