use Rattle.std.proofs.lemmas.Result.{err_from_is_err_and}
use Rattle.lx_input.proofs.Parts.{noted_check}
use Rattle.lx_input.proofs.input.read_input.Goals as goal

pub returns-in_err-input-clause-noted : goal.returns-in_err-input-clause-noted
returns-in_err-input-clause-noted g c =
    let p = err_from_is_err_and c.from_residual-in_err-input.result c.from_residual-in_err-input.ensures.1 in
    rw (p.1, p.2)
    (noted_check (g.S.Shelf.faults c.args.shelf.now) (g.S.Shelf.faults c.read_sources.new.shelf) c.as_bytes.result.now c.in_ok-sources.sources c.in_err-input.field-0.0 c.in_ok-sources.ensures.noted c.in_err-input.ensures.turn)
