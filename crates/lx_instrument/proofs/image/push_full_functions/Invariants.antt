use Rattle.std.proofs.Common.{◌≡◌, ◌++◌, drop, map}
use Rattle.lx_instrument.specs.Made.{function_by}
use Rattle.lx_spared.specs.Rooms.{spared_by}
use Rattle.lx_instrument.proofs.image.push_full_functions.Given as goal

abbrev pub invariant-loop-f : goal.invariant-loop-f
invariant-loop-f l =
    l.list.items ++ map (function_by l.numbers (spared_by l.rooms)) (drop l.f-index l.functions) ≡ l.initial.list.items ++ map (function_by l.numbers (spared_by l.rooms)) l.functions
