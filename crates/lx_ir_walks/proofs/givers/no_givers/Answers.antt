use Rattle.lx_ir_walks.proofs.GivenBefore.{none_noted}
use Rattle.lx_ir_walks.proofs.givers.no_givers.Goals as goal

pub returns : goal.returns
returns c = none_noted c.args.f.now _ c.in_ok-table.table.items c.in_ok-table.ensures
