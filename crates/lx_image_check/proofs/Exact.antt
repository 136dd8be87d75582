-- What the answers of the checker mean.
use Rattle.std.proofs.Common.{◌≡◌, Option, Some, None, Result, Ok, Err, sym, subst}
use Rattle.lx_ir.specs.declared.module.Module.{Module}
use Rattle.lx_ir.specs.Verified.{IsVerified}
use Rattle.lx_annot.specs.declared.interface.Interface.{Interface}
use Rattle.lx_image_texts.specs.ImageFaults.{first_image_fault}
use Rattle.lx_image_texts.specs.Programs.{program_of}
use Rattle.lx_image_texts.specs.Laws.{ImageLaws, IsProgramOf}
use Rattle.lx_image_marks.specs.declared.fault.Refusal.{Refusal}
use Rattle.lx_image_marks.specs.declared.fault.Refusal.TheVariants as refusal
use Rattle.lx_image_marks.specs.Told.{told}
use Rattle.lx_image_check.specs.Answers.{Checks, IsExactAnswer}

none_some : {A B : Type 0} (o : Option A) (x : A) → o ≡ None → o ≡ Some x → B
none_some o x n s = absurd (cc)

pub exact_answer : (i : Interface) (x : Module) (r : Result Module Refusal) → ImageLaws → IsVerified x → Checks i x r → IsExactAnswer i x r
exact_answer i x (Ok y) laws v h = subst (λ (z : Module). IsProgramOf i (program_of z) z) (sym h.0) ((laws.exact i x v.lawful v.no_fault).yes h.1).0
exact_answer i x (Err (refusal.Fault f)) laws v h = λ m p. none_some (first_image_fault i x) (told f) ((laws.exact i x v.lawful v.no_fault).only m p).0 h
exact_answer i x (Err refusal.Memory) laws v h = tt
