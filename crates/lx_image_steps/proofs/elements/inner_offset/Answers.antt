use Rattle.std.proofs.Common.{◌≡◌, ◌+◌, ◌∷◌, List, drop, ℤ, ap, sym, ◌∙◌, subst, add-one}
use Rattle.lx_words.specs.Word.{Word, signed}
use Rattle.lx_words.proofs.Lists.{drop_next}
use Rattle.lx_ir.specs.Layout.{part_of, unnamed}
use Rattle.lx_model.specs.Effect.{indices_of, operand}
use Rattle.lx_image_steps.specs.Parts.{IsOnTheWay, IsPartModulo}
use Rattle.lx_image_steps.specs.Standing.{run_of}
use Rattle.lx_image_steps.proofs.Parts.{on_further}
use Rattle.lx_image_steps.proofs.elements.inner_offset.Goals as goal

pub loop-index-preserved : goal.loop-index-preserved
loop-index-preserved c =
    let p = c.args.code.now.program in
    let a = run_of c.args.code.now c.args.run.now in
    let types = c.args.text.now.types in
    let start = c.args.ty.now in
    let xs = c.args.indices.now in
    let k = c.loop-index.index-index in
    let inner = c.loop-index.inner.now in
    let item = c.index-item.result in
    let next : indices_of p a (drop k xs) ≡ signed (operand p a item.value) ∷ indices_of p a (drop (k + 1) xs) =
    ap (indices_of p a) (drop_next xs k item c.loop-index-test.true c.index-item.is)
    ∙ ap (λ j. signed (operand p a item.value) ∷ indices_of p a (drop j xs)) (sym (add-one k)) in
    on_further types start inner c.part_of-part.result.ty.now (indices_of p a xs) (indices_of p a (drop (k + 1) xs)) (signed (operand p a item.value)) c.loop-index.offset c.part_of-part.result.offset
    (subst (λ (is : List ℤ). IsOnTheWay types start (indices_of p a xs) c.loop-index.offset inner is) next c.loop-index.invariant)
    (subst (λ (w : Word). IsPartModulo types c.part_of-part.result.offset c.part_of-part.result.ty.now (part_of types (unnamed types inner) (signed w))) c.operand.ensures c.part_of-part.ensures.part)
    c.part_of-part.ensures.sized
