use Rattle.std.proofs.Common.{◌≡◌, drop}
use Rattle.lx_ir.specs.Faults.{first_some}
use Rattle.lx_link_texts.specs.declared.fault.Source.TheVariants as source
use Rattle.lx_link_texts.specs.Faults.{slot_fault}
use Rattle.lx_link_texts.proofs.slots.check_each.Given as goal

abbrev pub invariant-loop-marked : goal.invariant-loop-marked
invariant-loop-marked l =
    first_some (slot_fault l.interface (source.Module l.number) l.m) l.annotated
    ≡ first_some (slot_fault l.interface (source.Module l.number) l.m) (drop l.marked-index l.annotated)
