use Rattle.std.proofs.Common.{◌∙◌, sym, codes, arith}
use Rattle.std.proofs.lemmas.Result.{err_from_is_err_and}
use Rattle.lx_annot_expressions.specs.Reading.{has, adding_at}
use Rattle.lx_annot_terms.specs.ItemReading.{item_behind}
use Rattle.lx_annot_terms.proofs.Steps.{may_step, behind_shorter, counted_step, counted_fails, counted_end}
use Rattle.lx_annot_terms.proofs.items.further_items.Goals as goal

pub loop-alloc-preserved : goal.loop-alloc-preserved
loop-alloc-preserved c =
    let h = may_step c.loop-alloc.room (has (codes ";") c.loop-alloc.reader) (sym c.has_further.ensures ∙ c.loop-alloc-test.true) in
    let s = behind_shorter (codes ";") c.loop-alloc.reader h.1 in
    record {
      so_far = counted_step (has (codes ";")) (adding_at (item_behind c.args.scope.now c.args.known.now)) c.loop-alloc.room _ c.loop-alloc.items c.add_item.new.items c.loop-alloc.reader c.add_item.new.reader _ c.loop-alloc.invariant.so_far h.0 h.1 c.in_ok-add_item.ensures.reads (omega (arith, h.0));
      shrinks = omega (arith, s, c.add_item.ensures.shrinks, c.loop-alloc.invariant.shrinks);
    }

pub returns-in_err-add_item-clause-reads : goal.returns-in_err-add_item-clause-reads
returns-in_err-add_item-clause-reads c =
    let h = may_step c.loop-alloc.room (has (codes ";") c.loop-alloc.reader) (sym c.has_further.ensures ∙ c.loop-alloc-test.true) in
    let p = err_from_is_err_and c.from_residual.result c.from_residual.ensures.1 in
    rw (p.1, p.2) (counted_fails (has (codes ";")) (adding_at (item_behind c.args.scope.now c.args.known.now)) c.loop-alloc.room c.loop-alloc.items c.loop-alloc.reader c.in_err-add_item.field-0.0 _ c.loop-alloc.invariant.so_far h.0 h.1 c.in_err-add_item.ensures.reads)

pub returns-clause-reads : goal.returns-clause-reads
returns-clause-reads c =
    counted_end (has (codes ";")) (adding_at (item_behind c.args.scope.now c.args.known.now)) c.loop-alloc.room c.loop-alloc.items c.loop-alloc.reader _ c.loop-alloc.invariant.so_far (sym c.has_further.ensures ∙ c.loop-alloc-test.false)
