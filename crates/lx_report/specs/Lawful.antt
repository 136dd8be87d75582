-- Programs whose annotations can be told.
use Rattle.std.specs.Prelude.{All}
use Rattle.lx_ir.specs.Lawful.{IsLawful}
use Rattle.lx_model.specs.declared.program.Program.{Program}
use Rattle.lx_model.specs.declared.program.ProgramModule.{ProgramModule}

-- the modules are lawful, as all are that a reader gives
abbrev pub HasLawfulModules : Program → Type 0
HasLawfulModules p = All (λ (m : ProgramModule). IsLawful m.«module») p.modules
