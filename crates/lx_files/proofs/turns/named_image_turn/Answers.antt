use Rattle.std.proofs.lemmas.Result.{err_from_is_err_and}
use Rattle.lx_files.proofs.Parts.{named_memory}
use Rattle.lx_files.proofs.turns.named_image_turn.Goals as goal

pub returns-in_err-file-clause-turn : goal.returns-in_err-file-clause-turn
returns-in_err-file-clause-turn g c =
    let p = err_from_is_err_and c.from_residual.result c.from_residual.ensures.1 in
    rw (p.1, p.2) (named_memory c.args.name.now (g.S.Shelf.files c.args.shelf.now) (g.S.Shelf.faults c.args.shelf.now))
