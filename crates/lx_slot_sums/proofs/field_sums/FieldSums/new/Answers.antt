use Rattle.lx_slot_sums.proofs.Kept.{summed}
use Rattle.lx_slot_sums.proofs.field_sums.FieldSums.new.Goals as goal

pub invariant_of-result : goal.invariant_of-result
invariant_of-result c =
    summed c.args.interface.now c.args.module.now c.in_ok-classes.classes c.in_ok-typed.typed.entries c.in_ok-names.names
    c.in_ok-classes.ensures c.in_ok-typed.ensures c.in_ok-names.ensures c.requires
