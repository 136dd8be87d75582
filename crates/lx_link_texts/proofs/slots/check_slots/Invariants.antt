use Rattle.std.proofs.Common.{◌≡◌, drop}
use Rattle.lx_link_texts.specs.Faults.{first_module, slots_fault}
use Rattle.lx_link_texts.proofs.slots.check_slots.Given as goal

abbrev pub invariant-loop-number : goal.invariant-loop-number
invariant-loop-number l =
    first_module (slots_fault l.sources.interface) 0 l.sources.modules
    ≡ first_module (slots_fault l.sources.interface) l.number (drop l.number l.sources.modules)
