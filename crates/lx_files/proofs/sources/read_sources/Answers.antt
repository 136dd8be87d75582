use Rattle.std.proofs.Common.{Err}
use Rattle.std.proofs.lemmas.Result.{err_from_is_err_and}
use Rattle.lx_files.specs.Asked.{Asked, asked_by}
use Rattle.lx_files.proofs.Parts.{case_then, case_stop, word_then, word_stop, took_word}
use Rattle.lx_files.proofs.sources.read_sources.Goals as goal

pub returns-in_err-case : goal.returns-in_err-case
returns-in_err-case g c =
    let p = err_from_is_err_and c.from_residual.result c.from_residual.ensures.1 in
    let t = case_stop c.args.name.now (asked_by c.args.asked) c.in_err-case.field-0.0 c.in_err-case.ensures.turn in
    rw (p.1, p.2) (record { told = t.told; files = t.files_stay; noted = t.noted; sound = tt; there = tt })

pub returns-in_err-number : goal.returns-in_err-number
returns-in_err-number g c =
    let p = err_from_is_err_and c.from_residual-in_err-number.result c.from_residual-in_err-number.ensures.1 in
    let asked : Asked = asked_by c.args.asked in
    let e = c.in_err-number.field-0.0 in
    let w = took_word c.args.name.now c.in_ok-case.case asked.«module» (g.S.Shelf.files c.case_turn.new.shelf) (g.S.Shelf.faults c.case_turn.new.shelf) (Err e) c.in_err-number.ensures.turn in
    let t = case_then c.args.name.now asked c.in_ok-case.case (Err e) c.in_ok-case.ensures.turn (word_stop c.args.name.now asked c.in_ok-case.case e w) in
    rw (p.1, p.2) (record { told = t.told; files = t.files_stay; noted = t.noted; sound = tt; there = tt })
