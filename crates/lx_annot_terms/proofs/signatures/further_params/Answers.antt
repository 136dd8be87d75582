use Rattle.std.proofs.Common.{◌∙◌, sym, codes, arith, refl}
use Rattle.std.proofs.lemmas.Result.{err_from_is_err_and}
use Rattle.lx_annot_expressions.specs.Reading.{has, adding_at}
use Rattle.lx_annot_terms.specs.Signatures.{param_behind}
use Rattle.lx_annot_terms.proofs.Steps.{behind_shorter, steps_begin, steps_go_on, steps_fail, steps_done}
use Rattle.lx_annot_terms.proofs.signatures.further_params.Goals as goal

pub loop-alloc-init : goal.loop-alloc-init
loop-alloc-init c = record {
  so_far = steps_begin (has (codes ",")) (adding_at param_behind) c.args.first c.args.reader.now _ refl;
  shrinks = omega arith;
}

pub loop-alloc-preserved : goal.loop-alloc-preserved
loop-alloc-preserved c =
    let h = sym c.has.ensures ∙ c.loop-alloc-test.true in
    let s = behind_shorter (codes ",") c.loop-alloc.reader h in
    record {
      so_far = steps_go_on (has (codes ",")) (adding_at param_behind) c.loop-alloc.params c.add_param.new.params c.loop-alloc.reader c.add_param.new.reader _ c.loop-alloc.invariant.so_far h c.in_ok-add_param.ensures.reads (omega (arith, s, c.add_param.ensures.shrinks));
      shrinks = omega (arith, s, c.add_param.ensures.shrinks, c.loop-alloc.invariant.shrinks);
    }

pub returns-in_err-add_param-clause-reads : goal.returns-in_err-add_param-clause-reads
returns-in_err-add_param-clause-reads c =
    let h = sym c.has.ensures ∙ c.loop-alloc-test.true in
    let s = behind_shorter (codes ",") c.loop-alloc.reader h in
    let p = err_from_is_err_and c.from_residual.result c.from_residual.ensures.1 in
    rw (p.1, p.2) (steps_fail (has (codes ",")) (adding_at param_behind) c.loop-alloc.params c.loop-alloc.reader c.in_err-add_param.field-0.0 _ c.loop-alloc.invariant.so_far (omega (arith, s)) h c.in_err-add_param.ensures.reads)

pub returns-clause-reads : goal.returns-clause-reads
returns-clause-reads c =
    let h = sym c.has.ensures ∙ c.loop-alloc-test.false in
    steps_done (has (codes ",")) (adding_at param_behind) c.loop-alloc.params c.loop-alloc.reader _ c.loop-alloc.invariant.so_far h
