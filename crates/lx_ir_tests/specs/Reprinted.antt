-- What is printed of a text.
use Rattle.std.specs.Prelude.{◌≡◌, ℕ, List}
use Rattle.lx_ir.specs.declared.module.Module.{Module}
use Rattle.lx_ir.specs.Text.{module_text}
use Rattle.lx_ir_calls.specs.declared.intrinsics.TextForm.{TextForm}
use Rattle.lx_ir_read.specs.Reading.{SaysModule}

-- the text says a module, which is printed as the other text
abbrev pub Reprints : TextForm → List ℕ → List ℕ → Type 0
Reprints form text printed = (m : Module) × SaysModule form text m × (printed ≡ module_text m)
