use Rattle.std.proofs.Common.{◌≡◌, Some}
use Rattle.lx_words.proofs.Options.{if_ok}
use Rattle.lx_cli.specs.Command.{CommandTurn, UntoldTurn, Replay}
use Rattle.lx_cli.specs.declared.answer.Answer.{Answer}
use Rattle.lx_cli.specs.declared.answer.Answer.TheVariants as answer
use Rattle.lx_cli.proofs.Telling.{if_ok_at}
use Rattle.lx_trace.specs.Traced.{TellsUnder, answer_of_stop}
use Rattle.lx_trace.proofs.Telling.{names_none, noted_stop, replayed_broken, replayed_stop, told_input, told_replay, told_stop}
use Rattle.lx_trace.proofs.answer.answer_replay.Goals as goal

pub answer_input-requires-clause-asked : goal.answer_input-requires-clause-asked
answer_input-requires-clause-asked g c = c.in-Ok.ensures.there.schedule

pub returns-in-Ok-clause-answer : goal.returns-in-Ok-clause-answer
returns-in-Ok-clause-answer g c =
    if_ok c.answer_input.result
    (λ a tells. λ files files_told. told_input (CommandTurn files (Some (Replay c.args.case.now c.args.schedule.now))) c.in-Ok.input a (c.in-Ok.ensures.told files files_told) (told_replay c.in-Ok.input a tells))
    c.answer_input.ensures

pub returns-in-Ok-clause-replayed : goal.returns-in-Ok-clause-replayed
returns-in-Ok-clause-replayed g c =
    if_ok c.answer_input.result
    (λ a tells. λ files files_told. replayed_broken c.args.case.now c.args.schedule.now (CommandTurn files (Some (Replay c.args.case.now c.args.schedule.now))) c.in-Ok.input a (c.in-Ok.ensures.told files files_told) tells)
    c.answer_input.ensures

pub returns-in-Ok-clause-untold : goal.returns-in-Ok-clause-untold
returns-in-Ok-clause-untold g c =
    if_ok c.answer_input.result
    (λ a tells. told_input (UntoldTurn (Some (Replay c.args.case.now c.args.schedule.now)) (g.S.Shelf.faults c.args.shelf.now) (g.S.Shelf.faults c.read_input.new.shelf)) c.in-Ok.input a
    (record { noted = c.in-Ok.ensures.noted; ready = c.in-Ok.ensures.ready; there = c.in-Ok.ensures.there }) (told_replay c.in-Ok.input a tells))
    c.answer_input.ensures

pub returns-in-Ok-clause-unread : goal.returns-in-Ok-clause-unread
returns-in-Ok-clause-unread g c = λ file is.
    absurd (names_none c.in-Ok.input.besides.schedule c.in-Ok.input file (if_ok_at (TellsUnder c.in-Ok.input.besides.schedule c.in-Ok.input) c.answer_input.result (answer.Unread file) c.answer_input.ensures is))

pub returns-in-Err-clause-answer : goal.returns-in-Err-clause-answer
returns-in-Err-clause-answer g c =
    if_ok c.stopped.result
    (λ a tells. λ files files_told. told_stop (CommandTurn files (Some (Replay c.args.case.now c.args.schedule.now))) c.in-Err.stop a (c.in-Err.ensures.told files files_told) tells)
    c.stopped.ensures

pub returns-in-Err-clause-replayed : goal.returns-in-Err-clause-replayed
returns-in-Err-clause-replayed g c =
    if_ok c.stopped.result (λ a tells. λ files files_told. replayed_stop (Replay c.args.case.now c.args.schedule.now) (CommandTurn files (Some (Replay c.args.case.now c.args.schedule.now))) c.in-Err.stop a tells) c.stopped.ensures

pub returns-in-Err-clause-untold : goal.returns-in-Err-clause-untold
returns-in-Err-clause-untold g c =
    if_ok c.stopped.result
    (λ a tells. told_stop (UntoldTurn (Some (Replay c.args.case.now c.args.schedule.now)) (g.S.Shelf.faults c.args.shelf.now) (g.S.Shelf.faults c.read_input.new.shelf)) c.in-Err.stop a
    (record { noted = c.in-Err.ensures.noted; ready = tt; there = tt }) tells)
    c.stopped.ensures

pub returns-in-Err-clause-unread : goal.returns-in-Err-clause-unread
returns-in-Err-clause-unread g c = λ file is.
    noted_stop (g.S.Shelf.faults c.args.shelf.now) (g.S.Shelf.faults c.read_input.new.shelf) c.in-Err.stop file c.in-Err.ensures.noted
    (if_ok_at (λ (a : Answer). answer_of_stop c.in-Err.stop ≡ Some a) c.stopped.result (answer.Unread file) c.stopped.ensures is)
