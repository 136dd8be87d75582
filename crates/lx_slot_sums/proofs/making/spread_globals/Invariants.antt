use Rattle.lx_slot_sums.specs.Known.{AreNamed}
use Rattle.lx_slot_sums.proofs.Answering.{GlobalsTo}
use Rattle.lx_slot_sums.proofs.making.spread_globals.Given as goal

abbrev pub invariant-loop-global : goal.invariant-loop-global
invariant-loop-global l = record {
  right : AreNamed l.sums l.spreads.all.items l.spreads.named.items;
  so_far : GlobalsTo l.sums l.spreads.all.items l.globals.items l.global-index;
}
