use Rattle.std.proofs.Common.{◌≡◌, ◌∙◌, ap, sym, subst, ℕ, [], ◌∷◌, ◌++◌, length, arith}
use Rattle.std.proofs.lemmas.List.{length-append}
use Rattle.lx_image_code.proofs.Filled.{Each, each_more}
use Rattle.lx_code_lines.specs.Lines.{line_left}
use Rattle.lx_code_lines.proofs.Counting.{behind, filled, IsLineOf}
use Rattle.lx_code_lines.proofs.block_lines.place_lines.Goals as goal

pub loop-instr-preserved : goal.loop-instr-preserved
loop-instr-preserved c =
    let arrived = c.args.arrived in
    let is = c.args.instrs.now in
    let text = c.args.text.now in
    let k = c.loop-instr.instr-index in
    let made = c.loop-instr.lines in
    let line = c.line_left.result in
    let here : IsLineOf arrived is text k line = c.line_left.ensures ∙ ap (line_left text) c.loop-instr.invariant.left in
    let more : c.push.new.self ≡ made ++ line ∷ [] = c.in_ok-push.ensures.items in record {
      count = (let longer = ap length more ∙ length-append made (line ∷ []) in omega (arith, longer, c.loop-instr.invariant.count));
      left = c.left_behind-left.ensures ∙ behind arrived is k c.instr-item.result c.loop-instr.left c.loop-instr-test.true c.instr-item.is c.loop-instr.invariant.left;
      each = subst (Each (IsLineOf arrived is text)) (sym more) (each_more (IsLineOf arrived is text) made line c.loop-instr.invariant.each (subst (λ (n : ℕ). IsLineOf arrived is text n line) (sym c.loop-instr.invariant.count) here));
    }

pub returns : goal.returns
returns c =
    let all : length c.loop-instr.lines ≡ length c.args.instrs.now = omega (arith, c.loop-instr.invariant.count, c.loop-instr-test.false, c.loop-instr.auto.instr-index-end) in
    filled c.args.arrived c.args.instrs.now c.args.text.now c.loop-instr.lines all c.loop-instr.invariant.each
