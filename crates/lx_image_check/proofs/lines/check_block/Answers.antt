use Rattle.std.proofs.Common.{◌∙◌, ◌+◌, ap, sym, drop, ℕ, Option}
use Rattle.std.specs.Option.{option_or}
use Rattle.std.proofs.lemmas.Result.{err_from_is_err_and}
use Rattle.lx_ir.specs.declared.instr.Instr.{Instr}
use Rattle.lx_image_check.specs.Compared.{line_fault, lines_fault}
use Rattle.lx_image_marks.proofs.Passes.{first_answer}
use Rattle.lx_image_check.proofs.Comparing.{lines_step, passed}
use Rattle.lx_image_check.proofs.lines.check_block.Goals as goal

pub returns-in_err-check_line : goal.returns-in_err-check_line
returns-in_err-check_line c =
    let name = c.args.name.now in
    let wanted = c.args.wanted.now in
    let place = c.loop-instr.place in
    let rest = lines_fault name (1 + place) (drop (1 + place) wanted) (drop (c.loop-instr.instr-index + 1) c.args.instrs.now) in
    let s = c.loop-instr.invariant
    ∙ lines_step name place wanted c.args.instrs.now c.loop-instr.instr-index c.instr-item.result c.loop-instr-test.true c.instr-item.is
    ∙ ap (λ (w : Option Instr). option_or (line_fault name place w c.instr-item.result) rest) (sym c.line_at.ensures) in
    let p = err_from_is_err_and c.from_residual.result c.from_residual.ensures.1 in
    rw (p.1, p.2) (first_answer _ _ _ c.in_err-check_line.field-0.0 s c.in_err-check_line.ensures)

pub loop-instr-preserved : goal.loop-instr-preserved
loop-instr-preserved c =
    let name = c.args.name.now in
    let wanted = c.args.wanted.now in
    let place = c.loop-instr.place in
    let left = drop (c.loop-instr.instr-index + 1) c.args.instrs.now in
    let rest = lines_fault name (1 + place) (drop (1 + place) wanted) left in
    let s = c.loop-instr.invariant
    ∙ lines_step name place wanted c.args.instrs.now c.loop-instr.instr-index c.instr-item.result c.loop-instr-test.true c.instr-item.is
    ∙ ap (λ (w : Option Instr). option_or (line_fault name place w c.instr-item.result) rest) (sym c.line_at.ensures) in
    passed _ _ _ s c.in_ok-check_line.ensures ∙ ap (λ (n : ℕ). lines_fault name n (drop n wanted) left) (sym c.in_ok-place.ensures)
