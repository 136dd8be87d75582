use Rattle.std.proofs.Common.{◌≡◌, ◌≤◌, length, drop}
use Rattle.lx_annot.specs.Scope.{env_of}
use Rattle.lx_annot.specs.Items.{item_caps}
use Rattle.lx_annot.proofs.ItemLists.{behind}
use Rattle.lx_annot.proofs.caps.item_caps.Given as goal

abbrev pub invariant-loop-item : goal.invariant-loop-item
invariant-loop-item g l = record {
  rest : behind l.caps (item_caps (g.M.Look.shows l.memory) (env_of l.scope) (drop l.item-index l.items)) ≡ item_caps (g.M.Look.shows l.memory) (env_of l.scope) l.items;
  room : length l.caps ≤ l.item-index;
}
