use Rattle.std.proofs.Common.{◌≡◌, map, take}
use Rattle.lx_name_tables.proofs.modules.names_of.Given as goal

abbrev pub invariant-loop-entry : goal.invariant-loop-entry
invariant-loop-entry l = l.names ≡ map (λ m. m.«module») (take l.entry-index l.modules)
