-- Images in which each wrapper has the form of one: of no function of theirs is it told that it has not.
use Rattle.std.proofs.Common.{◌≡◌, ℕ, Option, Some, None, List}
use Rattle.std.specs.Prelude.{IsTrue}
use Rattle.lx_ir.specs.declared.module.Module.{Module}
use Rattle.lx_images.specs.WrapperForm.{first_unformed, have_formed_wrappers}
use Rattle.lx_image_code.specs.Form.{Tells}
use Rattle.lx_image_code.specs.declared.fault.CodeFault.TheVariants.{Wrapper}
use Rattle.lx_simulation.specs.Simulation.{SimulationLaws}

not_both : (o : Option (ℕ × ℕ)) (x : ℕ × ℕ) → o ≡ None → o ≡ Some x → ⊥
not_both o x none some = absurd cc

pub never_told : SimulationLaws → (images : List Module) (m f : ℕ) → IsTrue (have_formed_wrappers images) → Tells images (Wrapper m f) → ⊥
never_told laws images m f formed told = not_both (first_unformed images) (m, f) (laws.forming.unformed images formed) told
