use Rattle.std.proofs.Common.{sym, ◌∙◌, arith}
use Rattle.std.proofs.lemmas.Result.{err_from_is_err_and}
use Rattle.lx_ir_terms.specs.Words.{is_passed, passed_at}
use Rattle.lx_ir_terms.proofs.Loop.{behind_shorter}
use Rattle.lx_ir_terms.proofs.Passing.{passes_on, pass_fails, passing_ends}
use Rattle.lx_ir_terms.proofs.reader.Reader.passed.Goals as goal

pub loop-self-preserved : goal.loop-self-preserved
loop-self-preserved c =
    let h = sym c.has_passed.ensures ∙ c.loop-self-test.true in
    let s = behind_shorter (is_passed c.args.linkage) c.loop-self.self h in
    record {
      so_far = passes_on c.args.linkage c.loop-self.self c.passed_word.new.self (passed_at c.args.linkage c.args.self.now) c.loop-self.invariant.so_far h c.in_ok-passed_word.ensures.reads c.passed_word.ensures.shrinks;
      shrinks = omega (arith, s, c.passed_word.ensures.shrinks, c.loop-self.invariant.shrinks);
    }

pub returns-in_err-passed_word-clause-reads : goal.returns-in_err-passed_word-clause-reads
returns-in_err-passed_word-clause-reads c =
    let h = sym c.has_passed.ensures ∙ c.loop-self-test.true in
    let p = err_from_is_err_and c.from_residual.result c.from_residual.ensures.1 in
    rw (p.1, p.2) (pass_fails c.args.linkage c.loop-self.self c.in_err-passed_word.field-0.0 (passed_at c.args.linkage c.args.self.now) c.loop-self.invariant.so_far h c.in_err-passed_word.ensures.reads)

pub returns-clause-reads : goal.returns-clause-reads
returns-clause-reads c =
    let h = sym c.has_passed.ensures ∙ c.loop-self-test.false in
    passing_ends c.args.linkage c.loop-self.self (passed_at c.args.linkage c.args.self.now) c.loop-self.invariant.so_far h
