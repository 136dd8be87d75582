-- Tables of what the fields of functions come to, or the fields that registers point to.
use Rattle.std.specs.Prelude.{◌≡◌, ℕ, List, ◌++◌, nat_eq}
use Rattle.std.specs.Map.{lookup}
use Rattle.lx_ir.specs.declared.module.Module.{Module}
use Rattle.lx_ir.specs.declared.instr.Instr.{Instr}
use Rattle.lx_annot.specs.declared.interface.Interface.{Interface}
use Rattle.lx_slot_types.specs.Sites.{FieldName, Site}
use Rattle.lx_slot_sums.specs.declared.sums.SlotSum.{SlotSum}
use Rattle.lx_slot_sums.specs.Sums.{sum_of, sum_or_none}
use Rattle.lx_propagate.specs.Names.{names_for, register_sites}

abbrev pub Table : Type 0
Table = List (ℕ × SlotSum)

-- what a table has for a number; where it has nothing, no fields
abbrev pub sum_at : Table → ℕ → SlotSum
sum_at table n = sum_or_none (lookup (nat_eq n) table)

-- the table has for each number what the fields of its sites come to
abbrev pub HasSums : Interface → Module → List Site → Table → Type 0
HasSums i m sites table = (n : ℕ) → sum_at table n ≡ sum_of i m (names_for n sites)

-- from one table to the other these sites are added, whatever fields were there
unfoldable pub Adds : Interface → Module → List Site → Table → Table → Type 0
Adds i m more old new = (n : ℕ) → (names : List FieldName) → sum_at old n ≡ sum_of i m names → sum_at new n ≡ sum_of i m (names ++ names_for n more)

-- the table has for each register the fields that it points to in these instructions
unfoldable pub HasRegisters : Interface → Module → List Instr → Table → Type 0
HasRegisters i m instrs table = HasSums i m (register_sites m.types instrs) table

-- sites are added that a function has which the registers are of
unfoldable pub AddsStores : Interface → Module → Table → (List Instr → List Site) → Table → Table → Type 0
AddsStores i m registers more old new = (instrs : List Instr) → HasRegisters i m instrs registers → Adds i m (more instrs) old new
