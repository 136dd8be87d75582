use Rattle.std.proofs.Common.{◌≡◌, ◌∙◌, refl, ap, sym, subst, ℕ, Some, [], ◌∷◌, ◌++◌, length, slice_get, arith}
use Rattle.std.proofs.lemmas.List.{length-append}
use Rattle.std.proofs.lemmas.Option.{slice_get_read}
use Rattle.lx_image_code.proofs.Filled.{Each, each_more}
use Rattle.lx_code_lines.proofs.Standing.{IsBlockOf, blocks_filled, stands_in_block}
use Rattle.lx_code_lines.proofs.lines.function_lines.Goals as goal

pub loop-block-preserved : goal.loop-block-preserved
loop-block-preserved c =
    let code = c.args.code.now in
    let n = c.args.number in
    let bs = c.blocks-block-items.result.now in
    let i = c.loop-block.block-index in
    let made = c.loop-block.lines in
    let b = c.block-item.result in
    let t = c.in_ok-of_block.of_block in
    let at : slice_get bs i ≡ Some b = slice_get_read bs (length bs) i b refl c.loop-block-test.true c.block-item.is in
    let here : IsBlockOf code n i t = stands_in_block code n i bs b c.blocks-block-items.ensures at c.text_blocks-text.result.now c.text_blocks-text.ensures t c.in_ok-of_block.ensures in
    let more : c.push.new.self ≡ made ++ t ∷ [] = c.in_ok-push.ensures.items in record {
      count = (let longer = ap length more ∙ length-append made (t ∷ []) in omega (arith, longer, c.loop-block.invariant.count));
      each = subst (Each (IsBlockOf code n)) (sym more) (each_more (IsBlockOf code n) made t c.loop-block.invariant.each (subst (λ (k : ℕ). IsBlockOf code n k t) (sym c.loop-block.invariant.count) here));
    }

pub returns : goal.returns
returns c =
    let all : length c.loop-block.lines ≡ length c.blocks-block-items.result.now = omega (arith, c.loop-block.invariant.count, c.loop-block-test.false, c.loop-block.auto.block-index-end) in
    blocks_filled c.args.code.now c.args.number c.blocks-block-items.result.now c.blocks-block-items.ensures c.loop-block.lines all c.loop-block.invariant.each
