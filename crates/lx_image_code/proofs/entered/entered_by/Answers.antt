use Rattle.std.proofs.Common.{◌≡◌, ◌∙◌, ap, sym, subst, ℕ, [], ◌∷◌, ◌++◌, length, arith}
use Rattle.std.proofs.lemmas.List.{length-append}
use Rattle.lx_model.specs.declared.program.Program.{Program}
use Rattle.lx_images.specs.Wrappers.{in_lines}
use Rattle.lx_image_code.specs.Code.{code_of}
use Rattle.lx_image_code.specs.Wrappers.{wrapper_lines}
use Rattle.lx_image_code.proofs.Filled.{Each, each_more}
use Rattle.lx_image_code.proofs.Naming.{entered_here}
use Rattle.lx_image_code.proofs.entered.entered_by.Goals as goal

pub loop-entry-preserved : goal.loop-entry-preserved
loop-entry-preserved c =
    let code = code_of c.args.code.now c.args.images.now in
    let ws = c.loop-entry.entered in
    let w = c.in_ok-wrapper.wrapper in
    let here : wrapper_lines code w ≡ in_lines code c.loop-entry.entry-index =
    entered_here code c.as_slice-entry-items.result.now c.loop-entry.entry-index _ w (c.as_slice-entry-items.ensures ∙ ap (λ (q : Program). q.functions) c.program.ensures.whole) c.loop-entry-test.true
    c.in_ok-wrapper.ensures in
    let more : c.push.new.self ≡ ws ++ w ∷ [] = c.in_ok-push.ensures.items in record {
      count = (let longer = ap length more ∙ length-append ws (w ∷ []) in omega (arith, longer, c.loop-entry.invariant.count));
      each = subst (Each (λ k x. wrapper_lines code x ≡ in_lines code k)) (sym more)
          (each_more (λ k x. wrapper_lines code x ≡ in_lines code k) ws w c.loop-entry.invariant.each (subst (λ (n : ℕ). wrapper_lines code w ≡ in_lines code n) (sym c.loop-entry.invariant.count) here));
    }
