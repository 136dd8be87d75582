-- What well-formed programs are, and lawful modules.
use Rattle.std.specs.Prelude.{IsTrue}
use Rattle.lx_ir.specs.declared.module.Module.{Module}
use Rattle.lx_ir.specs.Lawful.{IsLawful}
use Rattle.lx_model.specs.declared.program.Program.{Program}
use Rattle.lx_code.specs.Reach.{IsWithinReach, is_sized_module}
use Rattle.lx_link_texts.specs.WellFormed.{IsWellFormed}
use Rattle.lx_serve.specs.Sources.{IsLinked}

-- a machine runs every well-formed program
abbrev pub AreWithinReach : Type 0
AreWithinReach = (p : Program) → IsWellFormed p → IsWithinReach p

-- and the monitor serves it
abbrev pub AreLinked : Type 0
AreLinked = (p : Program) → IsWellFormed p → IsLinked p

-- each type whose layout an instruction of a lawful module asks for is within the limits
abbrev pub AreSized : Type 0
AreSized = (m : Module) → IsLawful m → IsTrue (is_sized_module m)
