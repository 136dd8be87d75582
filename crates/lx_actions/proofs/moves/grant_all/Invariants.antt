use Rattle.std.proofs.Common.{◌≡◌, ◌+◌, ◌≤◌, drop}
use Rattle.lx_caps.specs.History.{History}
use Rattle.lx_model.specs.Act.{with_grants}
use Rattle.lx_actions.specs.Rooms.{cells_of}
use Rattle.lx_actions.proofs.moves.grant_all.Given as goal

abbrev pub invariant-loop-item : goal.invariant-loop-item
invariant-loop-item g l = record {
  grants : (h : History) → g.C.CapStore.stands l.fn.caps h → (mid : History) × g.C.CapStore.stands l.caps mid × (with_grants l.dest (drop l.item-index l.items) mid ≡ with_grants l.dest l.items h);
  takes : g.C.CapStore.spare l.fn.caps + cells_of (drop l.item-index l.items) ≤ g.C.CapStore.spare l.caps + cells_of l.items;
}
