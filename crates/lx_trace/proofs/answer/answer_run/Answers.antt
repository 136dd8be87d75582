use Rattle.std.proofs.Common.{◌≡◌, ◌∙◌, Some}
use Rattle.lx_words.proofs.Options.{if_ok}
use Rattle.lx_cli.specs.Command.{CommandTurn, UntoldTurn, Run, asked_of, case_of}
use Rattle.lx_cli.specs.declared.answer.Answer.{Answer}
use Rattle.lx_cli.specs.declared.answer.Answer.TheVariants as answer
use Rattle.lx_cli.proofs.Telling.{if_ok_at}
use Rattle.lx_trace.specs.Traced.{answer_of_stop}
use Rattle.lx_trace.proofs.Telling.{arose_whole, noted_stop, replayed_stop, told_stop}
use Rattle.lx_trace.proofs.answer.answer_run.Goals as goal

pub returns-in-Err-clause-answer : goal.returns-in-Err-clause-answer
returns-in-Err-clause-answer g c =
    if_ok c.stopped.result
    (λ a tells. λ files files_told. told_stop (CommandTurn files (Some (Run c.args.case.now))) c.in-Err.stop a (c.in-Err.ensures.told files files_told) tells)
    c.stopped.ensures

pub returns-in-Err-clause-replayed : goal.returns-in-Err-clause-replayed
returns-in-Err-clause-replayed g c =
    if_ok c.stopped.result (λ a tells. λ files files_told. replayed_stop (Run c.args.case.now) (CommandTurn files (Some (Run c.args.case.now))) c.in-Err.stop a tells) c.stopped.ensures

pub returns-in-Err-clause-untold : goal.returns-in-Err-clause-untold
returns-in-Err-clause-untold g c =
    if_ok c.stopped.result
    (λ a tells. told_stop (UntoldTurn (Some (Run c.args.case.now)) (g.S.Shelf.faults c.args.shelf.now) (g.S.Shelf.faults c.read_input.new.shelf)) c.in-Err.stop a
    (record { noted = c.in-Err.ensures.noted; ready = tt; there = tt }) tells)
    c.stopped.ensures

pub returns-in-Err-clause-unread : goal.returns-in-Err-clause-unread
returns-in-Err-clause-unread g c = λ file is.
    noted_stop (g.S.Shelf.faults c.args.shelf.now) (g.S.Shelf.faults c.read_input.new.shelf) c.in-Err.stop file c.in-Err.ensures.noted
    (if_ok_at (λ (a : Answer). answer_of_stop c.in-Err.stop ≡ Some a) c.stopped.result (answer.Unread file) c.stopped.ensures is)

pub returns-in_ok-account-in-Ok-clause-replayed : goal.returns-in_ok-account-in-Ok-clause-replayed
returns-in_ok-account-in-Ok-clause-replayed g c =
    if_ok c.answer_under-answer.result
    (λ a given. λ files files_told. arose_whole (Run c.args.case.now) (CommandTurn files (Some (Run c.args.case.now)))
    (c.input_laws.ensures.one files (case_of (Run c.args.case.now)) (asked_of (Run c.args.case.now)))
    c.in-Ok.input (c.in-Ok.ensures.told files files_told) c.in_ok-account-in-Ok.account c.in_ok-account-in-Ok.ensures
    c.as_slice.result.now c.as_slice.ensures a (given files (c.read_input.ensures.files ∙ files_told)))
    c.answer_under-answer.ensures.given
