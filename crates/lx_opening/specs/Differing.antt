-- Images of other texts than a program's modules.
use Rattle.std.specs.Prelude.{◌≡◌, ℕ, ◌<◌, Some, List, length, slice_get}
use Rattle.lx_ir.specs.declared.module.Module.{Module}
use Rattle.lx_model.specs.declared.program.Program.{Program}
use Rattle.lx_model.specs.Program.{module_of}
use Rattle.lx_simulation.specs.Accepted.{HasImageAt, IsImageOfText}

-- the image with this number is there, and is none of that text
abbrev pub DiffersAt : Program → List Module → ℕ → Type 0
DiffersAt p images m = (x : Module) × (slice_get images m ≡ Some x) × (IsImageOfText (module_of p (Some m)) x → ⊥)

-- the module with this number is the first whose image is none of its text
pub record IsFirstDifferent (p : Program) (images : List Module) (n : ℕ) : Type 0 where
  pub «module» : n < length p.modules
  pub differs : DiffersAt p images n
  pub before : (m : ℕ) → m < n → HasImageAt p images m
