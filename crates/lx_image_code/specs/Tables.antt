-- The tables by which the functions of a program run.
use Rattle.std.specs.Prelude.{◌≡◌, ℕ, ◌≤◌}
use Rattle.lx_images.specs.Image.{Code, image_routine}
use Rattle.lx_image_code.specs.Imports.{imports_of}
use Rattle.lx_image_code.specs.Jumps.{HasJumps}
use Rattle.lx_image_code.specs.Wrappers.{AreKernelWrappers, HasEntered}
use Rattle.lx_image_code.specs.declared.tables.Tables.{Tables}

-- no function has more registers beside its parameters
abbrev pub HasLocals : Code → ℕ → Type 0
HasLocals c most = (n : ℕ) → (image_routine c n).locals ≤ most

-- the greatest number of registers that a function has beside its parameters: it is enough for each function, and none below it is
pub record IsMostLocals (c : Code) (most : ℕ) : Type 0 where
  pub enough : HasLocals c most
  pub least : (other : ℕ) → HasLocals c other → most ≤ other

-- the tables are those of the code: they tell where the jumps of each function go, what each function of an image wraps, by which
-- wrapper each function is entered, the wrappers of the kernel's functions, and how many registers a function has at most
pub record HasTables (c : Code) (t : Tables) : Type 0 where
  pub jumps : HasJumps c t.jumps
  pub imports : t.imports ≡ imports_of c.program c.images
  pub entered : HasEntered c t.entered
  pub kernel : AreKernelWrappers c.program t.kernel
  pub locals : IsMostLocals c t.most_locals
