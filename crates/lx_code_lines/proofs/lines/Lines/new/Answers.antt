use Rattle.std.proofs.Common.{◌≡◌, ◌∙◌, ap, sym, subst, ℕ, [], ◌∷◌, ◌++◌, length, arith}
use Rattle.std.proofs.lemmas.List.{length-append}
use Rattle.lx_model.specs.declared.program.Program.{Program}
use Rattle.lx_image_code.proofs.Filled.{Each, each_more}
use Rattle.lx_code_lines.specs.Lines.{AreFunctionLines}
use Rattle.lx_code_lines.proofs.Standing.{functions_filled}
use Rattle.lx_code_lines.proofs.lines.Lines.new.Goals as goal

pub loop-number-preserved : goal.loop-number-preserved
loop-number-preserved c =
    let code = c.args.code.now in
    let made = c.loop-number.functions in
    let t = c.in_ok-lines.lines in
    let more : c.push.new.self ≡ made ++ t ∷ [] = c.in_ok-push.ensures.items in record {
      count = (let longer = ap length more ∙ length-append made (t ∷ []) in omega (arith, longer, c.loop-number.invariant.count));
      each = subst (Each (AreFunctionLines code)) (sym more)
          (each_more (AreFunctionLines code) made t c.loop-number.invariant.each (subst (λ (k : ℕ). AreFunctionLines code k t) (sym c.loop-number.invariant.count) c.in_ok-lines.ensures));
    }

pub returns : goal.returns
returns c =
    let whole : length c.program.result.now.functions ≡ length c.args.code.now.program.functions = ap (λ (p : Program). length p.functions) c.program.ensures.whole in
    let all : length c.loop-number.functions ≡ length c.args.code.now.program.functions =
    omega (arith, c.loop-number.invariant.count, c.loop-number-test.false, c.loop-number.auto.number-end, c.in_ok-count.ensures, c.len.ensures, whole) in
    functions_filled c.args.code.now (record { functions = c.loop-number.functions }) all c.loop-number.invariant.each
