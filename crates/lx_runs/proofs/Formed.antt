-- The modules of a well-formed program are lawful.
use Rattle.lx_model.specs.declared.program.Program.{Program}
use Rattle.lx_link_texts.specs.WellFormed.{IsWellFormed}
use Rattle.lx_report.specs.Lawful.{HasLawfulModules}

pub lawful_modules : (p : Program) → IsWellFormed p → HasLawfulModules p
lawful_modules p formed = λ k d below. (formed.modules k d below).verified.lawful
