use Rattle.std.proofs.Common.{◌≡◌, ◌∙◌, sym, length, ap, arith}
use Rattle.std.proofs.lemmas.Result.{err_from_is_err_and}
use Rattle.lx_annot_expressions.specs.Reading.{behind}
use Rattle.lx_annot_expressions.specs.Exprs.{chain_at, level_at, operand_at}
use Rattle.lx_annot_expressions.proofs.Chains.{behind_operator, chain_goes_on, chain_fails, chain_ends}
use Rattle.lx_annot_expressions.proofs.reader.Reader.+exprs.Goals as goal

pub chain-returns-in_err-right-clause-reads : goal.chain-returns-in_err-right-clause-reads
chain-returns-in_err-right-clause-reads t c =
    let operand = level_at (operand_at c.args.scope.now c.args.depth) c.args.tighter in
    let next = sym c.operator.ensures ∙ c.in-Some.is in
    let p = err_from_is_err_and c.from_residual.result c.from_residual.ensures.1 in
    rw (p.1, p.2) (chain_fails operand c.args.tighter c.loop-mark.left c.loop-mark.self c.skip.new.self c.in-Some.mark c.in_err-right.field-0.0 (chain_at operand c.args.tighter (length c.args.self.now) c.args.first c.args.self.now) c.loop-mark.invariant.so_far next c.skip.ensures c.in_err-right.ensures.reads)

pub chain-loop-mark-preserved : goal.chain-loop-mark-preserved
chain-loop-mark-preserved t c =
    let operand = level_at (operand_at c.args.scope.now c.args.depth) c.args.tighter in
    let next = sym c.operator.ensures ∙ c.in-Some.is in
    let s = behind_operator c.args.tighter c.loop-mark.self c.in-Some.mark next in
    let n : length c.skip.new.self ≡ length (behind c.loop-mark.self) = ap length c.skip.ensures in
    record {
      so_far = chain_goes_on operand c.args.tighter c.loop-mark.left c.in_ok-left.left c.loop-mark.self c.skip.new.self c.level.new.self c.in-Some.mark c.in_ok-right.right (chain_at operand c.args.tighter (length c.args.self.now) c.args.first c.args.self.now) c.in_ok-left.ensures c.loop-mark.invariant.so_far next c.skip.ensures c.in_ok-right.ensures.reads c.level.ensures.shrinks;
      shrinks = omega (arith, s, n, c.level.ensures.shrinks, c.loop-mark.invariant.shrinks);
    }

pub chain-returns-clause-reads : goal.chain-returns-clause-reads
chain-returns-clause-reads t c =
    let operand = level_at (operand_at c.args.scope.now c.args.depth) c.args.tighter in
    chain_ends operand c.args.tighter c.loop-mark.left c.loop-mark.self (chain_at operand c.args.tighter (length c.args.self.now) c.args.first c.args.self.now) c.loop-mark.invariant.so_far (sym c.operator.ensures ∙ c.in_default.is)
