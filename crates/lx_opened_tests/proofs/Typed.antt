-- An image with the types of its program's text is within the limits of the program.
use Rattle.std.proofs.Common.{◌≡◌, ℕ, zero, suc, ◌∙◌, sym, subst, ap, Bool, Some, List, [], ◌∷◌}
use Rattle.std.specs.Prelude.{IsTrue, slice_get}
use Rattle.lx_ir.specs.declared.module.Module.{Module}
use Rattle.lx_ir.specs.declared.types.NamedType.{NamedType}
use Rattle.lx_ir.specs.Verified.{IsVerified}
use Rattle.lx_model.specs.declared.program.Program.{Program}
use Rattle.lx_model.specs.declared.program.ProgramModule.{ProgramModule}
use Rattle.lx_model.specs.Program.{module_of, module_or_empty}
use Rattle.lx_annotation_tables.specs.Laws.{AreSized}
use Rattle.lx_image_code.specs.Reach.{AreWithinReach, is_sized_image}
use Rattle.lx_opened_tests.specs.Typed.{HasTypesOf}

some_one : {A : Type 0} (x y : A) → Some x ≡ Some y → x ≡ y
some_one x y e = cc

alone : AreSized → (p : Program) (x : Module) → IsVerified x → HasTypesOf p x → AreWithinReach p (x ∷ [])
alone sized p x verified typed zero y is =
    let same : x ≡ y = some_one x y is in
    subst (λ (z : Module). IsTrue (is_sized_image (module_of p (Some 0)).types z)) same
    (subst (λ (types : List NamedType). IsTrue (is_sized_image types x)) typed (sized x verified.lawful))
alone sized p x verified typed (suc m) y is = absurd (cc)

pub within_reach : AreSized → (p : Program) (x : Module) (images : List Module) → IsVerified x → HasTypesOf p x → images ≡ x ∷ [] → AreWithinReach p images
within_reach sized p x images verified typed is = subst (AreWithinReach p) (sym is) (alone sized p x verified typed)

-- how that is seen
pub has_types : (p : Program) (x : Module) (e : ProgramModule) (r : Bool) → slice_get p.modules 0 ≡ Some e → (IsTrue r → x.types ≡ e.«module».types) → IsTrue r → HasTypesOf p x
has_types p x e r there told is = told is ∙ sym (ap (λ o. (module_or_empty o).types) there)
