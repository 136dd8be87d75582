-- The texts of modules.
use Rattle.std.specs.Prelude.{◌≡◌, ℕ, Some, List, slice_get}
use Rattle.lx_ir.specs.declared.module.Module.{Module}
use Rattle.lx_model.specs.declared.program.ProgramModule.{ProgramModule}
use Rattle.lx_model.specs.Program.{module_or_empty}

-- each text is that of the module with its number; there may be fewer texts than modules
abbrev pub AreTextsOf : List ProgramModule → List Module → Type 0
AreTextsOf ms texts = (k : ℕ) → (text : Module) → slice_get texts k ≡ Some text → text ≡ module_or_empty (slice_get ms k)
