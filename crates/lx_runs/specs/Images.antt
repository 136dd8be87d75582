-- Images that are made of modules, and checked.
use Rattle.std.specs.Prelude.{◌≡◌, List, [], ◌∷◌, ◌++◌}
use Rattle.lx_ir.specs.declared.module.Module.{Module}
use Rattle.lx_annot.specs.declared.interface.Interface.{Interface}
use Rattle.lx_model.specs.declared.program.ProgramModule.{ProgramModule}
use Rattle.lx_image_texts.specs.Instrumented.{leaves_none, leaves_spared, GuardsBut}
use Rattle.lx_simulation.specs.Accepted.{IsAcceptedBy, IsImageOfText}
use Rattle.lx_runs.specs.declared.images.Guarding.{Guarding}
use Rattle.lx_runs.specs.declared.images.Guarding.TheVariants.{Spared, Full}

-- the instrumenter makes this image of the module, with a guard before each store or before each but those that are spared
abbrev pub IsInstrumented : Guarding → Interface → Module → Module → Type 0
IsInstrumented Spared i m x = GuardsBut (leaves_spared m) i m x
IsInstrumented Full i m x = GuardsBut leaves_none i m x

-- it is that image, it is accepted by the interface, and its program is the module
pub record IsMadeOf (g : Guarding) (i : Interface) (m x : Module) : Type 0 where
  pub guards : IsInstrumented g i m x
  pub accepted : IsAcceptedBy i x
  pub text : IsImageOfText m x

-- there is such an image of each module, in their order
unfoldable pub AreMadeOf : Guarding → Interface → List ProgramModule → List Module → Type 0
AreMadeOf g i [] [] = Unit {0}
AreMadeOf g i [] (x ∷ xs) = ⊥
AreMadeOf g i (m ∷ ms) [] = ⊥
AreMadeOf g i (m ∷ ms) (x ∷ xs) = IsMadeOf g i m.«module» x × AreMadeOf g i ms xs

-- one more image, of this module
abbrev pub HasPushed : Guarding → Interface → Module → List Module → List Module → Type 0
HasPushed g i m old new = (x : Module) × IsMadeOf g i m x × (new ≡ old ++ x ∷ [])
