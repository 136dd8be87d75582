use Rattle.std.proofs.Common.{◌≡◌, length, arith}
use Rattle.std.proofs.lemmas.Result.{err_from_is_err_and}
use Rattle.lx_ir_tokens.specs.declared.token.Mark.TheVariants.{Comma}
use Rattle.lx_ir_terms.specs.Reading.{has, is_mark, behind, items_at}
use Rattle.lx_ir_terms.specs.Types.{type_at}
use Rattle.lx_ir_terms.proofs.Loop.{took, stayed, behind_shorter, goes_on, item_fails, ends}
use Rattle.lx_ir_terms.proofs.reader.Reader.+types.Goals as goal

pub some_fields-returns-in_err-field-clause-reads : goal.some_fields-returns-in_err-field-clause-reads
some_fields-returns-in_err-field-clause-reads t c =
    let p = err_from_is_err_and c.from_residual-in_err-field.result c.from_residual-in_err-field.ensures.1 in
    let k = took c.takes.result (has (is_mark Comma) c.loop-alloc.self) (behind c.loop-alloc.self) c.loop-alloc.self c.takes.new.self c.takes.ensures.taken c.takes.ensures.rest c.loop-alloc-test.true in
    rw (p.1, p.2) (item_fails (type_at c.args.context.now c.args.depth) c.loop-alloc.fields c.loop-alloc.self c.takes.new.self c.in_err-field.field-0.0 (items_at (type_at c.args.context.now c.args.depth) c.args.self.now) c.loop-alloc.invariant.so_far k.0 k.1 c.in_err-field.ensures.reads)

pub some_fields-loop-alloc-preserved : goal.some_fields-loop-alloc-preserved
some_fields-loop-alloc-preserved t c =
    let k = took c.takes.result (has (is_mark Comma) c.loop-alloc.self) (behind c.loop-alloc.self) c.loop-alloc.self c.takes.new.self c.takes.ensures.taken c.takes.ensures.rest c.loop-alloc-test.true in
    let s = behind_shorter (is_mark Comma) c.loop-alloc.self k.0 in
    let n : length c.takes.new.self ≡ length (behind c.loop-alloc.self) = (λ j. length (k.1 j)) in
    record {
      so_far = goes_on (type_at c.args.context.now c.args.depth) c.loop-alloc.fields c.push-in-loop-alloc.new.self c.loop-alloc.self c.takes.new.self c.ty_within-in-loop-alloc.new.self c.in_ok-field.field (items_at (type_at c.args.context.now c.args.depth) c.args.self.now) c.in_ok-push-2.ensures.items c.loop-alloc.invariant.so_far k.0 k.1 c.in_ok-field.ensures.reads c.ty_within-in-loop-alloc.ensures.shrinks;
      shrinks = omega (arith, s, n, c.ty_within-in-loop-alloc.ensures.shrinks, c.loop-alloc.invariant.shrinks);
    }

pub some_fields-returns-clause-reads : goal.some_fields-returns-clause-reads
some_fields-returns-clause-reads t c =
    let k = stayed c.takes.result (has (is_mark Comma) c.loop-alloc.self) (behind c.loop-alloc.self) c.loop-alloc.self c.takes.new.self c.takes.ensures.taken c.takes.ensures.rest c.loop-alloc-test.false in
    ends (type_at c.args.context.now c.args.depth) c.loop-alloc.fields c.loop-alloc.self c.takes.new.self (items_at (type_at c.args.context.now c.args.depth) c.args.self.now) k.1 c.loop-alloc.invariant.so_far k.0
