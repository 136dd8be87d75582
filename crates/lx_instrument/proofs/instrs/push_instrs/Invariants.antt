use Rattle.std.proofs.Common.{◌≡◌, ◌++◌, drop, flat_map}
use Rattle.lx_instrument.specs.Made.{instr_by}
use Rattle.lx_spared.specs.Rooms.{spared_by}
use Rattle.lx_instrument.proofs.instrs.push_instrs.Given as goal

abbrev pub invariant-loop-instr : goal.invariant-loop-instr
invariant-loop-instr l =
    l.list ++ flat_map (instr_by l.numbers (spared_by l.rooms)) (drop l.instr-index l.instrs) ≡ l.initial.list ++ flat_map (instr_by l.numbers (spared_by l.rooms)) l.instrs
