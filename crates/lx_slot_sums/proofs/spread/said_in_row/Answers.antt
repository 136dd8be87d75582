use Rattle.std.proofs.Common.{sym, arith}
use Rattle.lx_slot_sums.proofs.Edges.{found_upto}
use Rattle.lx_slot_sums.proofs.spread.said_in_row.Goals as goal

pub overflow_sub-result : goal.overflow_sub-result
overflow_sub-result c = let h = found_upto c.args.edges.now c.args.offset c.in-Some.edge (sym c.in-Some.ensures) in omega (arith, h)
