-- The types of checked images of a program's texts are within the limits, and each of their wrappers has the form of one.
use Rattle.std.proofs.Common.{◌≡◌, ℕ, ◌<◌, ◌∙◌, sym, subst, Some, List, length, arith}
use Rattle.std.specs.Prelude.{IsTrue, slice_get}
use Rattle.std.proofs.lemmas.List.Elements.{All-get_or}
use Rattle.std.proofs.lemmas.Option.{slice_get_within, get_or_from_slice_get, same_Some}
use Rattle.lx_ir.specs.declared.module.Module.{Module}
use Rattle.lx_ir.specs.declared.types.NamedType.{NamedType}
use Rattle.lx_model.specs.declared.program.Program.{Program}
use Rattle.lx_model.specs.Program.{module_of}
use Rattle.lx_simulation.specs.Accepted.{AreAccepted, AreOfTexts, IsAcceptedBy, IsImageOfText}
use Rattle.lx_simulation.specs.AcceptedLaws.{AcceptedLaws}
use Rattle.lx_annotation_tables.specs.Laws.{AreSized}
use Rattle.lx_image_code.specs.Reach.{AreWithinReach, is_sized_image}
use Rattle.lx_images.specs.WrapperForm.{have_formed_wrappers}
use Rattle.lx_link_texts.specs.WellFormed.{IsWellFormed}
use Rattle.lx_simulation.specs.Simulation.{SimulationLaws}

-- an image with a number is accepted
accepted_at : (p : Program) (images : List Module) (m : ℕ) (x : Module) → AreAccepted p images → slice_get images m ≡ Some x → IsAcceptedBy p.interface x
accepted_at p images m x all is =
    subst (IsAcceptedBy p.interface) (get_or_from_slice_get images m x x is) (All-get_or (IsAcceptedBy p.interface) images m x (slice_get_within images m x is) all)

-- an image with a number is one of its module's text
text_at : (p : Program) (images : List Module) (m : ℕ) (x : Module) → length images ≡ length p.modules → AreOfTexts p images → slice_get images m ≡ Some x → IsImageOfText (module_of p (Some m)) x
text_at p images m x count texts is =
    let within : m < length p.modules = omega (arith, slice_get_within images m x is, count) in
    let there = texts m within in
    subst (IsImageOfText (module_of p (Some m))) (same_Some there.0 x (sym there.1 ∙ is)) there.2

-- a machine lays out what they ask for by the types of their modules' texts, which are their own
pub accepted_reach : AcceptedLaws → AreSized → (p : Program) (images : List Module) → length images ≡ length p.modules → AreAccepted p images → AreOfTexts p images → AreWithinReach p images
accepted_reach laws sized p images count accepted texts m x is =
    subst (λ (types : List NamedType). IsTrue (is_sized_image types x)) (laws.types (module_of p (Some m)) x (text_at p images m x count texts is))
    (sized x (accepted_at p images m x accepted is).verified.lawful)

-- and each of their wrappers has the form of one
pub accepted_formed : SimulationLaws → AcceptedLaws → (p : Program) (images : List Module) → IsWellFormed p → length images ≡ length p.modules → AreAccepted p images → AreOfTexts p images → IsTrue (have_formed_wrappers images)
accepted_formed laws accepted_are p images formed count accepted texts = laws.forming.images p images (accepted_are.images p images formed accepted texts) count
