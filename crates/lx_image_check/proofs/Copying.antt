-- Loops that add something for each element of a list, and functions without their bodies.
use Rattle.std.proofs.Common.{◌≡◌, Bool, true, false, None, length, map, refl, sym, ap, subst, arith}
use Rattle.std.specs.Prelude.{if◌then◌else◌}
use Rattle.std.proofs.lemmas.List.{length-map}
use Rattle.lx_ir.specs.declared.module.Function.{Function}
use Rattle.lx_ir.specs.declared.module.Module.{Module}
use Rattle.lx_ir.specs.Lawful.{IsLawful}
use Rattle.lx_ir.specs.Verified.{IsVerified}
use Rattle.lx_propagate.specs.Within.{HasLawfulTypes}
use Rattle.lx_propagate.proofs.Within.{lawful_types}
use Rattle.lx_image_texts.specs.ImageFaults.{is_wrapper, without_body, without_wrappers}
use Rattle.lx_image_check.specs.Copies.{body_unless}

without_if : (b : Bool) (f : Function) → is_wrapper f ≡ b → record f { blocks = body_unless b f.blocks } ≡ without_body f
without_if true f e = sym (ap (λ (b : Bool). if b then record f { blocks = None } else f) e)
without_if false f e = sym (ap (λ (b : Bool). if b then record f { blocks = None } else f) e)

pub without : (f : Function) → record f { blocks = body_unless (is_wrapper f) f.blocks } ≡ without_body f
without f = without_if (is_wrapper f) f refl

-- without the bodies of its wrappers a lawful text has its types
pub typed : (m s : Module) → IsLawful m → s ≡ without_wrappers m → HasLawfulTypes s
typed m s h e =
    let k = lawful_types m h in
    subst HasLawfulTypes (sym e) (record { types = k.types; globals = k.globals; few_functions = omega (arith, k.few_functions, length-map m.functions without_body) })

pub lawful : (x y : Module) → y ≡ x → IsVerified x → IsLawful y
lawful x y e h = subst IsLawful (sym e) h.lawful
