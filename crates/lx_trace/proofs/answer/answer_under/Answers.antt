use Rattle.std.proofs.Common.{◌≡◌, Some}
use Rattle.lx_words.proofs.Options.{if_ok}
use Rattle.lx_cli.specs.Command.{CommandTurn, UntoldTurn, Run}
use Rattle.lx_cli.specs.declared.answer.Answer.{Answer}
use Rattle.lx_cli.specs.declared.answer.Answer.TheVariants as answer
use Rattle.lx_cli.proofs.Telling.{if_ok_at}
use Rattle.lx_trace.specs.Traced.{TellsUnder, answer_of_stop}
use Rattle.lx_trace.proofs.Telling.{given_broken, given_stop, names_none, noted_stop, told_input, told_run, told_stop}
use Rattle.lx_trace.proofs.answer.answer_under.Goals as goal

pub returns-in-Ok-clause-answer : goal.returns-in-Ok-clause-answer
returns-in-Ok-clause-answer g c =
    if_ok c.answer_given.result
    (λ a tells. λ files files_told. told_input (CommandTurn files (Some (Run c.args.case.now))) c.in-Ok.input a (c.in-Ok.ensures.told files files_told) (told_run c.in-Ok.input c.args.schedule.now a c.in-Ok.ensures.there.schedule tells))
    c.answer_given.ensures

pub returns-in-Ok-clause-given : goal.returns-in-Ok-clause-given
returns-in-Ok-clause-given g c =
    if_ok c.answer_given.result
    (λ a tells. λ files files_told. given_broken c.args.schedule.now (CommandTurn files (Some (Run c.args.case.now))) c.in-Ok.input a (c.in-Ok.ensures.told files files_told) tells)
    c.answer_given.ensures

pub returns-in-Ok-clause-untold : goal.returns-in-Ok-clause-untold
returns-in-Ok-clause-untold g c =
    if_ok c.answer_given.result
    (λ a tells. told_input (UntoldTurn (Some (Run c.args.case.now)) (g.S.Shelf.faults c.args.shelf.now) (g.S.Shelf.faults c.read_input.new.shelf)) c.in-Ok.input a
    (record { noted = c.in-Ok.ensures.noted; ready = c.in-Ok.ensures.ready; there = c.in-Ok.ensures.there }) (told_run c.in-Ok.input c.args.schedule.now a c.in-Ok.ensures.there.schedule tells))
    c.answer_given.ensures

pub returns-in-Ok-clause-unread : goal.returns-in-Ok-clause-unread
returns-in-Ok-clause-unread g c = λ file is.
    absurd (names_none (Some c.args.schedule.now) c.in-Ok.input file (if_ok_at (TellsUnder (Some c.args.schedule.now) c.in-Ok.input) c.answer_given.result (answer.Unread file) c.answer_given.ensures is))

pub returns-in-Err-clause-answer : goal.returns-in-Err-clause-answer
returns-in-Err-clause-answer g c =
    if_ok c.stopped.result
    (λ a tells. λ files files_told. told_stop (CommandTurn files (Some (Run c.args.case.now))) c.in-Err.stop a (c.in-Err.ensures.told files files_told) tells)
    c.stopped.ensures

pub returns-in-Err-clause-given : goal.returns-in-Err-clause-given
returns-in-Err-clause-given g c =
    if_ok c.stopped.result (λ a tells. λ files files_told. given_stop c.args.schedule.now (CommandTurn files (Some (Run c.args.case.now))) c.in-Err.stop a tells) c.stopped.ensures

pub returns-in-Err-clause-untold : goal.returns-in-Err-clause-untold
returns-in-Err-clause-untold g c =
    if_ok c.stopped.result
    (λ a tells. told_stop (UntoldTurn (Some (Run c.args.case.now)) (g.S.Shelf.faults c.args.shelf.now) (g.S.Shelf.faults c.read_input.new.shelf)) c.in-Err.stop a
    (record { noted = c.in-Err.ensures.noted; ready = tt; there = tt }) tells)
    c.stopped.ensures

pub returns-in-Err-clause-unread : goal.returns-in-Err-clause-unread
returns-in-Err-clause-unread g c = λ file is.
    noted_stop (g.S.Shelf.faults c.args.shelf.now) (g.S.Shelf.faults c.read_input.new.shelf) c.in-Err.stop file c.in-Err.ensures.noted
    (if_ok_at (λ (a : Answer). answer_of_stop c.in-Err.stop ≡ Some a) c.stopped.result (answer.Unread file) c.stopped.ensures is)
