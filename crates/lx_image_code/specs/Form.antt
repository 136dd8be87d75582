-- What is said of images that do not run.
use Rattle.std.specs.Prelude.{◌≡◌, ⊤, ℕ, Bool, false, Option, Some, List, [], ◌∷◌, map}
use Rattle.lx_ir.specs.declared.instr.Instr.{Instr}
use Rattle.lx_ir.specs.declared.instr.Op.{Op}
use Rattle.lx_ir.specs.declared.instr.Op.TheVariants as op
use Rattle.lx_ir.specs.declared.module.Module.{Module}
use Rattle.lx_images.specs.WrapperForm.{first_unformed, gives_back}
use Rattle.lx_image_code.specs.declared.fault.CodeFault.{CodeFault}
use Rattle.lx_image_code.specs.declared.fault.CodeFault.TheVariants as fault

-- what a fault says of the images: the function that it names is their first one that is named as a wrapper and has not the form of
-- one. Want of memory says nothing of them
abbrev pub Tells : List Module → CodeFault → Type 0
Tells images fault.Memory = ⊤
Tells images (fault.Wrapper m f) = first_unformed images ≡ Some (m, f)

-- instructions without their lines
abbrev pub ops_of : List Instr → List Op
ops_of lines = map (λ i. i.op) lines

-- one instruction is left, a `ret` of what the call gave
abbrev pub is_ret : Option ℕ → List Op → Bool
is_ret to (op.Ret v ∷ []) = gives_back to v
is_ret to _ = false
