-- A lawful module has lawful types.
use Rattle.std.proofs.Common.{◌≡◌, ◌&&◌, [], ◌∷◌}
use Rattle.lx_ir.specs.declared.module.Module.{Module}
use Rattle.lx_ir.specs.Lawful.{IsLawful}
use Rattle.lx_ir.proofs.LawfulGlobals.{global_types_lawful}
use Rattle.lx_propagate.specs.Within.{HasLawfulTypes}

pub lawful_types : (m : Module) → IsLawful m → HasLawfulTypes m
lawful_types m h = record { types = h.types; globals = global_types_lawful m m.globals h.globals; few_functions = h.few_functions }
