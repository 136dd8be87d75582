use Rattle.std.proofs.Common.{drop}
use Rattle.lx_surface.specs.declared.work.Work.{Work}
use Rattle.lx_surface.specs.Given.{Gave}
use Rattle.lx_surface.specs.Naming.{any_names, one_item_names}
use Rattle.lx_surface.proofs.giving.give_items.Given as goal

abbrev pub invariant-loop-item : goal.invariant-loop-item
invariant-loop-item l = record {
  rest : (last : Work) → Gave l.program l.work last l.gift.to l.gift.from (any_names (one_item_names l.program) (drop l.item-index l.items)) → Gave l.program l.initial.work last l.gift.to l.gift.from (any_names (one_item_names l.program) l.items);
}
