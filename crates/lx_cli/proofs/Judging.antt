-- Images that are judged.
use Rattle.std.proofs.Common.{◌≡◌, ◌⊎◌, inl, inr, refl, sym, ap, ◌∙◌, Option, Some, None, Bor, option_copied}
use Rattle.lx_ir.specs.declared.module.Module.{Module}
use Rattle.lx_ir.specs.Verified.{IsVerified}
use Rattle.lx_annot.specs.declared.interface.Interface.{Interface}
use Rattle.lx_image_texts.specs.ImageFaults.{ImageFault, first_image_fault}
use Rattle.lx_image_texts.specs.Programs.{program_of}
use Rattle.lx_image_texts.specs.Laws.{ImageLaws}
use Rattle.lx_input.specs.Files.FaultLine.{FaultLine}
use Rattle.lx_input.specs.Files.ImageFile.{ImageFile}
use Rattle.lx_input.specs.declared.input.Input.{Input}
use Rattle.lx_cli.specs.Answer.{HasProgram, IsAccepted, IsRefusedBy}
use Rattle.lx_cli.specs.declared.answer.Answer.{Answer}
use Rattle.lx_cli.specs.declared.answer.Answer.TheVariants as answer
use Rattle.lx_cli.specs.Told.{Judges}

-- without a fault some program has the image
pub has_program : ImageLaws → (i : Interface) (x : Module) → IsVerified x → first_image_fault i x ≡ None → HasProgram i x
has_program laws i x verified none = (program_of x, ((laws.exact i x verified.lawful verified.no_fault).yes none).0)

-- and with one none has
pub has_none : ImageLaws → (i : Interface) (x : Module) (f : ImageFault) → IsVerified x → first_image_fault i x ≡ Some f → HasProgram i x → ⊥
has_none laws i x f verified some (m, is) =
    let none : first_image_fault i x ≡ None = ((laws.exact i x verified.lawful verified.no_fault).only m is).0 in
    let no : Some f ≡ None = sym some ∙ none in
    absurd cc

-- what is judged of the image in the file is so of the input
pub judged : (i : Input) (x : ImageFile) (a : Answer) → i.besides.image ≡ Some x → Judges i.program.interface x a
    → ((a ≡ answer.Accepted) × IsAccepted i) ⊎ ((line : FaultLine) × (a ≡ answer.Refused line) × IsRefusedBy i line)
judged i x answer.Accepted there j = inl (refl, (x, there, j.0, j.1))
judged i x (answer.Refused line) there (f, lacks, some, is) = inr (line, refl, (x, f, there, lacks, some, is))
judged i x (answer.Fault f) there j = absurd j
judged i x (answer.Unread file) there j = absurd j
judged i x (answer.Broken entry) there j = absurd j
judged i x (answer.Report text well) there j = absurd j
judged i x (answer.Text text) there j = absurd j

-- the image behind a reference to it
pub present : (o : Option ImageFile) (r : Bor ImageFile) (lent : Option (Bor ImageFile)) → option_copied lent ≡ o → lent ≡ Some r → o ≡ Some r.now
present o r lent same some = sym same ∙ ap option_copied some
