-- Images that were accepted one after another.
use Rattle.std.proofs.Common.{◌≡◌, ◌∙◌, ap, subst, sym, ℕ, zero, suc, ◌+◌, None, List, [], ◌∷◌, ◌++◌, arith}
use Rattle.std.specs.Prelude.{All}
use Rattle.std.proofs.lemmas.List.Elements.{All-append, All-nil}
use Rattle.lx_ir.specs.declared.module.Module.{Module}
use Rattle.lx_ir.specs.Verified.{IsVerified}
use Rattle.lx_annot.specs.declared.interface.Interface.{Interface}
use Rattle.lx_image_texts.specs.ImageFaults.{first_image_fault}
use Rattle.lx_simulation.specs.Accepted.{IsAcceptedBy}

pub accepted : (i : Interface) (image y : Module) → y ≡ image → first_image_fault i image ≡ None → IsVerified y → IsAcceptedBy i y
accepted i image y same none verified = record { verified = verified; no_fault = ap (first_image_fault i) same ∙ none }

pub none_accepted : (i : Interface) (images : List Module) → images ≡ [] → All (IsAcceptedBy i) images
none_accepted i images is = subst (All (IsAcceptedBy i)) (sym is) (All-nil (IsAcceptedBy i))

one : (i : Interface) (x : Module) → IsAcceptedBy i x → All (IsAcceptedBy i) (x ∷ [])
one i x is zero d within = is
one i x is (suc k) d within = absurd (omega (arith, within))

pub one_more : (i : Interface) (old new : List Module) (x : Module) → All (IsAcceptedBy i) old → IsAcceptedBy i x → new ≡ old ++ x ∷ [] → All (IsAcceptedBy i) new
one_more i old new x all is more = subst (All (IsAcceptedBy i)) (sym more) (All-append (IsAcceptedBy i) old (x ∷ []) all (one i x is))
