-- What a table of the slot types of a module's functions tells.
use Rattle.std.specs.Prelude.{ℕ}
use Rattle.lx_ir.specs.declared.module.Module.{Module}
use Rattle.lx_annot.specs.declared.interface.Interface.{Interface}
use Rattle.lx_slot_types.specs.Sites.{sites_of}
use Rattle.lx_slot_sums.specs.declared.sums.SlotSum.{SlotSum}
use Rattle.lx_propagate.specs.declared.slots.SlotTypes.{SlotTypes}
use Rattle.lx_propagate.specs.Tables.{HasSums, sum_at}

-- what the fields of a function come to
abbrev pub told_sum : SlotTypes → ℕ → SlotSum
told_sum types f = sum_at types.sums.entries f

-- the table is that of an interface and a module
unfoldable pub HasSlotTypes : Interface → Module → SlotTypes → Type 0
HasSlotTypes i m types = HasSums i m (sites_of m) types.sums.entries
