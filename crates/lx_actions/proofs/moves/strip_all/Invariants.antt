use Rattle.std.proofs.Common.{◌≡◌, ◌+◌, ◌≤◌, drop}
use Rattle.lx_caps.specs.History.{History}
use Rattle.lx_model.specs.Act.{with_strips}
use Rattle.lx_actions.proofs.moves.strip_all.Given as goal

abbrev pub invariant-loop-item : goal.invariant-loop-item
invariant-loop-item g l = record {
  strips : (h : History) → g.C.CapStore.stands l.fn.caps h → (mid : History) × g.C.CapStore.stands l.caps mid × (with_strips (drop l.item-index l.items) mid ≡ with_strips l.items h);
  takes : g.C.CapStore.spare l.fn.caps ≤ g.C.CapStore.spare l.caps + l.item-index;
}
