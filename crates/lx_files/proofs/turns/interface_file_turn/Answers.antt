use Rattle.std.proofs.lemmas.Result.{err_from_is_err_and}
use Rattle.lx_files.specs.Dialects.{IsEither, FirstEither, either_line}
use Rattle.lx_files.specs.Turns.{Tells}
use Rattle.lx_files.proofs.Parts.{file_memory}
use Rattle.lx_files.proofs.turns.interface_file_turn.Goals as goal

pub returns-in_err-file : goal.returns-in_err-file
returns-in_err-file g c =
    let p = err_from_is_err_and c.from_residual.result c.from_residual.ensures.1 in
    rw (p.1, p.2) (record { lawful = tt; turn = file_memory IsEither (Tells FirstEither (either_line c.args.name.now)) c.args.name.now (g.S.Shelf.files c.args.shelf.now) (g.S.Shelf.faults c.args.shelf.now) })
