use Rattle.std.proofs.Common.{◌≡◌, ◌≤◌, length, arith, sym}
use Rattle.std.proofs.lemmas.Result.{err_from_is_err_and}
use Rattle.lx_ir_tokens.specs.declared.token.Mark.TheVariants.{Comma}
use Rattle.lx_ir_terms.specs.Reading.{has, is_mark, behind, items_at}
use Rattle.lx_ir_statements.specs.Imports.{import_parameter_at}
use Rattle.lx_ir_terms.proofs.Loop.{took, stayed, behind_shorter, goes_on, item_fails, ends}
use Rattle.lx_ir_statements.proofs.declared_parameters.some_parameters.Goals as goal

pub returns-in_err-next-clause-reads : goal.returns-in_err-next-clause-reads
returns-in_err-next-clause-reads c =
    let p = err_from_is_err_and c.from_residual-in_err-next.result c.from_residual-in_err-next.ensures.1 in
    let k = took c.takes.result (has (is_mark Comma) c.loop-reader.reader) (behind c.loop-reader.reader) c.loop-reader.reader c.takes.new.self c.takes.ensures.taken c.takes.ensures.rest c.loop-reader-test.true in
    rw (p.1, p.2) (item_fails import_parameter_at c.loop-reader.params c.loop-reader.reader c.takes.new.self c.in_err-next.field-0.0 (items_at import_parameter_at c.args.reader.now) c.loop-reader.invariant.so_far k.0 k.1 c.in_err-next.ensures.reads)

pub loop-reader-preserved : goal.loop-reader-preserved
loop-reader-preserved c =
    let k = took c.takes.result (has (is_mark Comma) c.loop-reader.reader) (behind c.loop-reader.reader) c.loop-reader.reader c.takes.new.self c.takes.ensures.taken c.takes.ensures.rest c.loop-reader-test.true in
    let s = behind_shorter (is_mark Comma) c.loop-reader.reader k.0 in
    let n : length c.takes.new.self ≡ length (behind c.loop-reader.reader) = (λ j. length (k.1 j)) in
    record {
      so_far = goes_on import_parameter_at c.loop-reader.params c.push-in-loop-reader.new.self c.loop-reader.reader c.takes.new.self c.import_parameter-in-loop-reader.new.reader c.in_ok-next.next (items_at import_parameter_at c.args.reader.now) c.in_ok-push-2.ensures.items c.loop-reader.invariant.so_far k.0 k.1 c.in_ok-next.ensures.reads c.import_parameter-in-loop-reader.ensures.shrinks;
      shrinks = omega (arith, s, n, c.import_parameter-in-loop-reader.ensures.shrinks, c.loop-reader.invariant.shrinks);
    }

pub returns-clause-reads : goal.returns-clause-reads
returns-clause-reads c =
    let k = stayed c.takes.result (has (is_mark Comma) c.loop-reader.reader) (behind c.loop-reader.reader) c.loop-reader.reader c.takes.new.self c.takes.ensures.taken c.takes.ensures.rest c.loop-reader-test.false in
    ends import_parameter_at c.loop-reader.params c.loop-reader.reader c.takes.new.self (items_at import_parameter_at c.args.reader.now) k.1 c.loop-reader.invariant.so_far k.0
