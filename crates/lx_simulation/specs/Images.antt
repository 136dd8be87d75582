-- Programs and images of their modules.
use Rattle.std.specs.Prelude.{◌≡◌, ℕ, ◌<◌, Some, List, length, slice_get}
use Rattle.lx_ir.specs.declared.module.Module.{Module}
use Rattle.lx_image_texts.specs.Guards.{Guards}
use Rattle.lx_image_texts.specs.Instrumented.{leaves_none, GuardsBut}
use Rattle.lx_model.specs.declared.program.Program.{Program}
use Rattle.lx_model.specs.Program.{module_of}
use Rattle.lx_images.specs.Image.{Code}

-- a program with these images
abbrev pub code_of : Program → List Module → Code
code_of p images = record { program = p; images = images }

-- each module of the program has its image
abbrev pub AreImages : Program → List Module → Type 0
AreImages p images = (m : ℕ) → m < length p.modules → (x : Module) × (slice_get images m ≡ Some x) × Guards p.interface (module_of p (Some m)) x

-- and in it each instruction has its mark
abbrev pub AreFullImages : Program → List Module → Type 0
AreFullImages p images = (m : ℕ) → m < length p.modules → (x : Module) × (slice_get images m ≡ Some x) × GuardsBut leaves_none p.interface (module_of p (Some m)) x
