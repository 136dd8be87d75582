-- Images with the types of their programs' texts.
use Rattle.std.specs.Prelude.{◌≡◌, Some}
use Rattle.lx_ir.specs.declared.module.Module.{Module}
use Rattle.lx_model.specs.declared.program.Program.{Program}
use Rattle.lx_model.specs.Program.{module_of}

-- the image has the types of the program's first module
abbrev pub HasTypesOf : Program → Module → Type 0
HasTypesOf p x = x.types ≡ (module_of p (Some 0)).types
