use Rattle.std.proofs.Common.{◌≡◌, ◌+◌, drop}
use Rattle.lx_actions.specs.Rooms.{cells_of}
use Rattle.lx_actions.proofs.moves.cells_of.Given as goal

abbrev pub invariant-loop-item : goal.invariant-loop-item
invariant-loop-item l = l.sum + cells_of (drop l.item-index l.items) ≡ cells_of l.items
