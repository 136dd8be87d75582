use Rattle.std.proofs.Common.{◌∙◌, Some, List, ℕ, sym, ap, subst}
use Rattle.std.specs.Prelude.{option_map, ⊤}
use Rattle.lx_propagate.specs.Answers.{IsAnswerOr}
use Rattle.lx_image_texts.specs.ImageFaults.{conflict_fault, wrapper_fault}
use Rattle.lx_image_marks.specs.Told.{IsAnswer}
use Rattle.lx_image_check.proofs.whole.refuse_conflict.Goals as goal

pub returns-in-Conflict : goal.returns-in-Conflict
returns-in-Conflict c = λ x e.
    let told = subst (λ f. IsAnswerOr ⊤ x f) c.in-Conflict.is e in
    let named = ap (λ (name : List ℕ). Some (wrapper_fault c.in-Conflict.line name 0)) (sym c.as_slice.ensures) in
    subst (λ y. IsAnswer y c.refuse.result) (sym (ap (option_map conflict_fault) told ∙ named)) c.refuse.ensures
