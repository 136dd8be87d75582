-- An image of a module is the image of each plain module of the same text. So accepted images of a program's texts are its images.
use Rattle.std.proofs.Common.{◌≡◌, ℕ, true, List, [], not, map, drop, Option, Some, None, refl, sym, subst, ◌∙◌, ap}
use Rattle.std.specs.Prelude.{slice_get}
use Rattle.std.specs.List.{list_all}
use Rattle.lx_words.proofs.Lists.{all_got}
use Rattle.lx_ir.specs.declared.module.Module.{Module}
use Rattle.lx_ir.specs.Lawful.{IsPlain}
use Rattle.lx_ir.specs.Verified.{IsVerified}
use Rattle.lx_annot.specs.declared.interface.Interface.{Interface}
use Rattle.lx_propagate.specs.Slots.{annotated_of, conflict_of}
use Rattle.lx_image_texts.specs.Guards.{function_text, Guards}
use Rattle.lx_image_texts.specs.Programs.{program_of}
use Rattle.lx_image_texts.specs.Instrumented.{leaves_none, leaves_spared, GuardsBut}
use Rattle.lx_image_texts.specs.WrapperText.{wrappers_of}
use Rattle.lx_image_texts.proofs.Closed.{lawful_closed}
use Rattle.lx_image_texts.proofs.Erasing.{names_of, is_program_name, guarded_names, plain_functions}
use Rattle.lx_image_texts.proofs.Exact.{is_exact}
use Rattle.lx_image_texts.proofs.Images.{full_guards, spared_guards}
use Rattle.lx_image_texts.proofs.SlotTypes.{Half, half_of, half_annotated, agrees_back, still_agrees}
use Rattle.lx_same_texts.specs.SameText.{SameText}
use Rattle.lx_model.specs.declared.program.Program.{Program}
use Rattle.lx_model.specs.declared.program.ProgramModule.{ProgramModule}
use Rattle.lx_model.specs.Program.{empty_module, module_or_empty, module_of}
use Rattle.lx_link_texts.specs.WellFormed.{IsModuleOf, IsWellFormed}
use Rattle.lx_simulation.specs.Images.{AreImages}
use Rattle.lx_simulation.specs.Accepted.{IsAcceptedBy, AreAccepted, IsImageOfText, AreOfTexts}
use Rattle.lx_simulation.proofs.Alike.{same_length}
use Rattle.lx_simulation.proofs.Marked.{all_guarded}
use Rattle.lx_simulation.proofs.Wrappers.{same_wrappers}

-- what slot types hang on is the same for a module of the same text
half_same : (i : Interface) (a b x : Module) → Guards i a x → SameText a b → IsPlain b → Half b x
half_same i a b x k s plain =
    let guarded = all_guarded a b s x.functions k.functions in
    record {
      types = k.types ∙ s.types;
      globals = k.globals ∙ s.globals;
      functions = guarded;
      program = ap (list_all is_program_name) (guarded_names b b.functions _ guarded) ∙ plain_functions b plain;
      own = subst (λ n. list_all (λ y. not (is_program_name y)) (names_of (drop n x.functions)) ≡ true) (same_length a.functions b.functions s.functions) (half_of i a x k).own;
    }

pub still_guards : (i : Interface) (a b x : Module) → Guards i a x → SameText a b → IsPlain b → Guards i b x
still_guards i a b x k s plain =
    let half = half_same i a b x k s plain in
    let annotated : annotated_of i a ≡ annotated_of i b = sym (half_annotated i a x (half_of i a x k)) ∙ half_annotated i b x half in
    record {
      plain = plain;
      agrees = agrees_back i b x half (still_agrees i a x k);
      types = half.types;
      globals = half.globals;
      functions = half.functions;
      wrappers = subst (λ n. map function_text (drop n x.functions) ≡ map function_text (wrappers_of i b)) (same_length a.functions b.functions s.functions) (k.wrappers ∙ ap (map function_text) (same_wrappers i a b s.functions annotated));
    }

-- an accepted image is the image of each plain module whose text its program is
accepted : (i : Interface) (m x : Module) → IsPlain m → IsAcceptedBy i x → IsImageOfText m x → Guards i m x
accepted i m x plain a s = still_guards i (program_of x) m x ((is_exact i x a.verified.lawful a.verified.no_fault).yes a.no_fault).0.image s plain

-- programs

empty_plain : IsPlain empty_module
empty_plain = record { lines = refl; names = refl }

module_plain : (p : Program) → IsWellFormed p → (m : ℕ) (x : Option ProgramModule) → slice_get p.modules m ≡ x → IsPlain (module_or_empty x)
module_plain p w m None e = empty_plain
module_plain p w m (Some x) e = (all_got (λ (y : ProgramModule). IsModuleOf p.kernel p.interface y.«module») p.modules m x w.modules e).plain

pub accepted_images : (p : Program) (images : List Module) → IsWellFormed p → AreAccepted p images → AreOfTexts p images → AreImages p images
accepted_images p images w a t m few =
    let image = t m few in
    (image.0, image.1, accepted p.interface (module_of p (Some m)) image.0 (module_plain p w m (slice_get p.modules m) refl) (all_got (IsAcceptedBy p.interface) images m image.0 a image.1) image.2)

-- what the instrumenter makes

image_is : (i : Interface) (m x : Module) → IsVerified m → IsVerified x → Guards i m x → IsAcceptedBy i x × IsImageOfText m x
image_is i m x verified image g =
    let exact = is_exact i x image.lawful image.no_fault in
    let only = exact.only m (record { image = g; closed = lawful_closed m verified.lawful }) in
    (record { verified = image; no_fault = only.0 }, record { types = g.types; globals = g.globals; functions = (exact.yes only.0).1 ∙ sym only.1 })

pub made : (i : Interface) (m x : Module) → IsVerified m → IsPlain m → conflict_of i m ≡ None → IsVerified x → GuardsBut (leaves_spared m) i m x → IsAcceptedBy i x × IsImageOfText m x
made i m x verified plain agrees image g = image_is i m x verified image (spared_guards i m x plain agrees g)

pub made_full : (i : Interface) (m x : Module) → IsVerified m → IsPlain m → conflict_of i m ≡ None → IsVerified x → GuardsBut leaves_none i m x → IsAcceptedBy i x × IsImageOfText m x
made_full i m x verified plain agrees image g = image_is i m x verified image (full_guards i m x plain agrees g)
