use Rattle.std.proofs.Common.{drop}
use Rattle.lx_surface.specs.Names.{any_gives}
use Rattle.lx_surface.specs.declared.work.Work.{Work}
use Rattle.lx_surface.specs.Given.{Gave}
use Rattle.lx_surface.proofs.giving.give_actions.Given as goal

abbrev pub invariant-loop-action : goal.invariant-loop-action
invariant-loop-action l = record {
  rest : (last : Work) → Gave l.program l.work last l.gift.to l.gift.from (any_gives l.program (drop l.action-index l.actions)) → Gave l.program l.initial.work last l.gift.to l.gift.from (any_gives l.program l.actions);
}
