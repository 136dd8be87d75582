use Rattle.std.proofs.Common.{◌≡◌, refl, subst, None, Some, Result, Ok, Err}
use Rattle.lx_words.proofs.Options.{if_ok}
use Rattle.lx_input.specs.Files.InputStop.{InputStop}
use Rattle.lx_input.specs.Files.Asked.{Asked, AreThere, asked_by}
use Rattle.lx_input.specs.declared.input.Input.{Input}
use Rattle.lx_input.specs.Inputs.{InputTurn}
use Rattle.lx_cli.specs.Command.{MayCome, asked_of, case_of, said}
use Rattle.lx_cli.specs.declared.answer.Answer.TheVariants as answer
use Rattle.lx_cli.specs.Told.{TellsInput, TellsOf}
use Rattle.lx_cli.proofs.Telling.{told_input, told_stop, noted_stop, names_none, moved_turn, if_ok_at}
use Rattle.lx_cli.proofs.top.answer_to.Goals as goal

pub answer_input-requires-clause-there : goal.answer_input-requires-clause-there
answer_input-requires-clause-there g c = λ _ _. subst (λ (q : Asked). AreThere q c.in-Ok.input.besides) c.asked_of.ensures c.in-Ok.ensures.there

pub returns-in-Ok-clause-answer : goal.returns-in-Ok-clause-answer
returns-in-Ok-clause-answer g c =
    if_ok c.answer_input.result (λ a tells. λ files files_told.
    told_input (said c.args.command) (λ (r : Result Input InputStop). InputTurn files (case_of (said c.args.command)) (asked_of (said c.args.command)) r) c.in-Ok.input a
    (subst (λ (q : Asked). AreThere q c.in-Ok.input.besides) c.asked_of.ensures c.in-Ok.ensures.there)
    (moved_turn files c.case_of.result.now (case_of (said c.args.command)) (asked_by c.asked_of.result) (asked_of (said c.args.command)) (Ok c.in-Ok.input) c.case_of.ensures c.asked_of.ensures (c.in-Ok.ensures.told files files_told))
    tells) c.answer_input.ensures

pub returns-in-Ok-clause-unread : goal.returns-in-Ok-clause-unread
returns-in-Ok-clause-unread g c = λ file is.
    absurd (names_none (said c.args.command) c.in-Ok.input file (if_ok_at (TellsOf (said c.args.command) c.in-Ok.input) c.answer_input.result (answer.Unread file) c.answer_input.ensures is))

pub returns-in-Err-clause-answer : goal.returns-in-Err-clause-answer
returns-in-Err-clause-answer g c =
    if_ok c.stopped.result (λ a tells. λ files files_told.
    told_stop (Some (said c.args.command)) (λ (r : Result Input InputStop). InputTurn files (case_of (said c.args.command)) (asked_of (said c.args.command)) r) c.in-Err.stop a
    (moved_turn files c.case_of.result.now (case_of (said c.args.command)) (asked_by c.asked_of.result) (asked_of (said c.args.command)) (Err c.in-Err.stop) c.case_of.ensures c.asked_of.ensures (c.in-Err.ensures.told files files_told))
    tells) c.stopped.ensures

pub returns-in-Err-clause-unread : goal.returns-in-Err-clause-unread
returns-in-Err-clause-unread g c = λ file is.
    noted_stop (g.S.Shelf.faults c.args.shelf.now) (g.S.Shelf.faults c.read_input.new.shelf) c.in-Err.stop (answer.Unread file) file c.in-Err.ensures.noted
    (if_ok_at (TellsInput None (λ (came : Result Input InputStop). came ≡ Err c.in-Err.stop)) c.stopped.result (answer.Unread file) c.stopped.ensures is) refl

pub returns-in-Ok-clause-untold : goal.returns-in-Ok-clause-untold
returns-in-Ok-clause-untold g c =
    let there = subst (λ (q : Asked). AreThere q c.in-Ok.input.besides) c.asked_of.ensures c.in-Ok.ensures.there in
    if_ok c.answer_input.result (λ a tells.
    told_input (said c.args.command) (MayCome (asked_of (said c.args.command)) (g.S.Shelf.faults c.args.shelf.now) (g.S.Shelf.faults c.read_input.new.shelf)) c.in-Ok.input a there
    (record { noted = c.in-Ok.ensures.noted; ready = c.in-Ok.ensures.ready; there = there }) tells) c.answer_input.ensures

pub returns-in-Err-clause-untold : goal.returns-in-Err-clause-untold
returns-in-Err-clause-untold g c =
    if_ok c.stopped.result (λ a tells.
    told_stop (Some (said c.args.command)) (MayCome (asked_of (said c.args.command)) (g.S.Shelf.faults c.args.shelf.now) (g.S.Shelf.faults c.read_input.new.shelf)) c.in-Err.stop a
    (record { noted = c.in-Err.ensures.noted; ready = tt; there = tt }) tells) c.stopped.ensures
