use Rattle.std.proofs.Common.{◌∙◌, ◌+◌, ap, sym, drop, length, ℕ, List}
use Rattle.std.specs.Prelude.{flat_map}
use Rattle.std.specs.Option.{option_or}
use Rattle.std.proofs.lemmas.Result.{err_from_is_err_and}
use Rattle.lx_ir.specs.declared.module.Block.{Block}
use Rattle.lx_ir.specs.declared.instr.Instr.{Instr}
use Rattle.lx_image_check.specs.Compared.{lines_fault}
use Rattle.lx_image_marks.proofs.Passes.{first_answer}
use Rattle.lx_image_check.proofs.Comparing.{blocks_step, passed}
use Rattle.lx_image_check.proofs.lines.check_lines.Goals as goal

pub returns-in_err-check_block : goal.returns-in_err-check_block
returns-in_err-check_block c =
    let name = c.args.name.now in
    let wanted = c.args.wanted.now in
    let place = c.loop-block.place in
    let block = c.block-item.result in
    let left = flat_map (λ (b : Block). b.instrs) (drop (c.loop-block.block-index + 1) c.args.blocks.now) in
    let rest = lines_fault name (length block.instrs + place) (drop (length block.instrs + place) wanted) left in
    let s = c.loop-block.invariant
    ∙ blocks_step name place wanted c.args.blocks.now c.loop-block.block-index block c.loop-block-test.true c.block-item.is
    ∙ ap (λ (is : List Instr). option_or (lines_fault name place (drop place wanted) is) rest) (sym c.as_slice.ensures) in
    let p = err_from_is_err_and c.from_residual.result c.from_residual.ensures.1 in
    rw (p.1, p.2) (first_answer _ _ _ c.in_err-check_block.field-0.0 s c.in_err-check_block.ensures)

pub loop-block-preserved : goal.loop-block-preserved
loop-block-preserved c =
    let name = c.args.name.now in
    let wanted = c.args.wanted.now in
    let place = c.loop-block.place in
    let block = c.block-item.result in
    let left = flat_map (λ (b : Block). b.instrs) (drop (c.loop-block.block-index + 1) c.args.blocks.now) in
    let rest = lines_fault name (length block.instrs + place) (drop (length block.instrs + place) wanted) left in
    let s = c.loop-block.invariant
    ∙ blocks_step name place wanted c.args.blocks.now c.loop-block.block-index block c.loop-block-test.true c.block-item.is
    ∙ ap (λ (is : List Instr). option_or (lines_fault name place (drop place wanted) is) rest) (sym c.as_slice.ensures) in
    passed _ _ _ s c.in_ok-check_block.ensures
    ∙ ap (λ (n : ℕ). lines_fault name (n + place) (drop (n + place) wanted) left) (sym c.len.ensures)
    ∙ ap (λ (n : ℕ). lines_fault name n (drop n wanted) left) (sym c.in_ok-place.ensures)
