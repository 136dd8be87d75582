use Rattle.std.proofs.Common.{drop}
use Rattle.lx_files.proofs.Listed.{HasRead}
use Rattle.lx_files.proofs.turns.modules_turn.Given as goal

abbrev pub invariant-loop-entry : goal.invariant-loop-entry
invariant-loop-entry g l =
    HasRead (g.S.Shelf.files l.fn.shelf) (g.S.Shelf.files l.shelf) (g.S.Shelf.faults l.fn.shelf) (g.S.Shelf.faults l.shelf) l.modules (drop l.entry-index l.modules) l.read
