-- A program with images.
use Rattle.std.specs.Prelude.{List}
use Rattle.lx_ir.specs.declared.module.Module.{Module}
use Rattle.lx_model.specs.declared.program.Program.{Program}
use Rattle.lx_images.specs.Image.{Code}

-- the code of a program and of the images of its modules, in the modules' order
abbrev pub code_of : Program → List Module → Code
code_of p images = record { program = p; images = images }
