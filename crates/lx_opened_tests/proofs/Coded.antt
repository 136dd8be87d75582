-- The code of an input over an image.
use Rattle.std.proofs.Common.{◌≡◌, ◌∙◌, ◌≤◌, ap, subst, sym, List, length, map}
use Rattle.lx_annotation_tables.specs.Entries.{all_annotated}
use Rattle.lx_image_code.specs.Code.{code_of}
use Rattle.lx_images.specs.Image.{Code}
use Rattle.lx_ir.specs.declared.module.Module.{Module}
use Rattle.lx_link_texts.specs.WellFormed.{IsWellFormed}
use Rattle.lx_model.specs.Account.{image_count}
use Rattle.lx_model.specs.declared.account.ImageCount.{ImageCount}
use Rattle.lx_model.specs.declared.program.Program.{Program}
use Rattle.lx_model.specs.declared.program.ScriptCall.{ScriptCall}
use Rattle.lx_slot_types.specs.Gets.{below}
use Rattle.lx_slot_types.specs.declared.Marked.{Marked}
use Rattle.lx_opened_tests.specs.Coded.{IsCoded}

pub coded : (p q : Program) (images : List Module) (code : Code) (script : List (List ScriptCall)) (annotated : List (List Marked)) (counts : List ImageCount)
    → code ≡ code_of p images → q ≡ p → IsWellFormed p → annotated ≡ all_annotated p → length script ≤ 16 → counts ≡ map (image_count p) (below (length p.modules))
    → IsCoded code q script annotated counts
coded p q images code script annotated counts is same formed are few counted =
    let back : p ≡ code.program = sym (ap (λ (k : Code). k.program) is) in
    record {
      same = same ∙ back;
      formed = subst IsWellFormed back formed;
      known = are ∙ ap all_annotated back;
      few = few;
      counted = counted ∙ ap (λ (r : Program). map (image_count r) (below (length r.modules))) back;
    }
