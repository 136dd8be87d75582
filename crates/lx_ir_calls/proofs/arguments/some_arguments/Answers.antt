use Rattle.std.proofs.Common.{◌≡◌, length, arith}
use Rattle.std.proofs.lemmas.Result.{err_from_is_err_and}
use Rattle.lx_ir_tokens.specs.declared.token.Mark.TheVariants.{Comma}
use Rattle.lx_ir_terms.specs.Reading.{has, is_mark, behind, items_at}
use Rattle.lx_ir_calls.specs.Arguments.{argument_at}
use Rattle.lx_ir_terms.proofs.Loop.{took, stayed, behind_shorter, goes_on, item_fails, ends}
use Rattle.lx_ir_calls.proofs.arguments.some_arguments.Goals as goal

pub returns-in_err-next-clause-reads : goal.returns-in_err-next-clause-reads
returns-in_err-next-clause-reads c =
    let p = err_from_is_err_and c.from_residual-in_err-next.result c.from_residual-in_err-next.ensures.1 in
    let k = took c.takes.result (has (is_mark Comma) c.loop-alloc.reader) (behind c.loop-alloc.reader) c.loop-alloc.reader c.takes.new.self c.takes.ensures.taken c.takes.ensures.rest c.loop-alloc-test.true in
    rw (p.1, p.2) (item_fails (argument_at c.args.context.now) c.loop-alloc.arguments c.loop-alloc.reader c.takes.new.self c.in_err-next.field-0.0 (items_at (argument_at c.args.context.now) c.args.reader.now) c.loop-alloc.invariant.so_far k.0 k.1 c.in_err-next.ensures.reads)

pub loop-alloc-preserved : goal.loop-alloc-preserved
loop-alloc-preserved c =
    let k = took c.takes.result (has (is_mark Comma) c.loop-alloc.reader) (behind c.loop-alloc.reader) c.loop-alloc.reader c.takes.new.self c.takes.ensures.taken c.takes.ensures.rest c.loop-alloc-test.true in
    let s = behind_shorter (is_mark Comma) c.loop-alloc.reader k.0 in
    let n : length c.takes.new.self ≡ length (behind c.loop-alloc.reader) = (λ j. length (k.1 j)) in
    record {
      so_far = goes_on (argument_at c.args.context.now) c.loop-alloc.arguments c.push-in-loop-alloc.new.self c.loop-alloc.reader c.takes.new.self c.argument-in-loop-alloc.new.reader c.in_ok-next.next (items_at (argument_at c.args.context.now) c.args.reader.now) c.in_ok-push-2.ensures.items c.loop-alloc.invariant.so_far k.0 k.1 c.in_ok-next.ensures.reads c.argument-in-loop-alloc.ensures.shrinks;
      shrinks = omega (arith, s, n, c.argument-in-loop-alloc.ensures.shrinks, c.loop-alloc.invariant.shrinks);
    }

pub returns-clause-reads : goal.returns-clause-reads
returns-clause-reads c =
    let k = stayed c.takes.result (has (is_mark Comma) c.loop-alloc.reader) (behind c.loop-alloc.reader) c.loop-alloc.reader c.takes.new.self c.takes.ensures.taken c.takes.ensures.rest c.loop-alloc-test.false in
    ends (argument_at c.args.context.now) c.loop-alloc.arguments c.loop-alloc.reader c.takes.new.self (items_at (argument_at c.args.context.now) c.args.reader.now) k.1 c.loop-alloc.invariant.so_far k.0
