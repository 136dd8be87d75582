use Rattle.std.proofs.Common.{sym}
use Rattle.lx_words.proofs.Options.{if_ok}
use Rattle.lx_cli.specs.Command.{said}
use Rattle.lx_cli.proofs.Generated.{summed}
use Rattle.lx_cli.proofs.Telling.{generated_is, generated_turn, shelf_turn, not_generated, untold_own, untold_shelf}
use Rattle.lx_cli.proofs.top.answer_of.Goals as goal

pub returns-in-Some-clause-answer : goal.returns-in-Some-clause-answer
returns-in-Some-clause-answer g c =
    if_ok c.answer_generated.result (λ a tells. λ files told. generated_turn files (said c.args.command) c.in-Some.count a (sym c.in-Some.ensures) tells) c.answer_generated.ensures.answer

pub returns-in-Some-clause-unread : goal.returns-in-Some-clause-unread
returns-in-Some-clause-unread g c = λ file is. absurd (c.answer_generated.ensures.read file is)

pub returns-in-None-clause-answer : goal.returns-in-None-clause-answer
returns-in-None-clause-answer g c =
    if_ok c.answer_to.result (λ a tells. λ files told. shelf_turn files (said c.args.command) a (sym c.in-None.ensures) (tells files told)) c.answer_to.ensures.answer

pub returns-in-None-clause-generated : goal.returns-in-None-clause-generated
returns-in-None-clause-generated g c = λ count is. absurd (not_generated (said c.args.command) count (sym c.in-None.ensures) is)

pub returns-in-Some-clause-untold : goal.returns-in-Some-clause-untold
returns-in-Some-clause-untold g c =
    if_ok c.answer_generated.result
    (λ a tells. untold_own (said c.args.command) c.in-Some.count (g.S.Shelf.faults c.args.shelf.now) (g.S.Shelf.faults c.args.shelf.now) a (sym c.in-Some.ensures) tells)
    c.answer_generated.ensures.answer

pub returns-in-None-clause-untold : goal.returns-in-None-clause-untold
returns-in-None-clause-untold g c =
    if_ok c.answer_to.result
    (λ a tells. untold_shelf (said c.args.command) (g.S.Shelf.faults c.args.shelf.now) (g.S.Shelf.faults c.answer_to.new.shelf) a (sym c.in-None.ensures) tells)
    c.answer_to.ensures.untold

pub returns-in-Some-clause-summed : goal.returns-in-Some-clause-summed
returns-in-Some-clause-summed g c =
    summed c.input_laws.ensures.one c.generated_input_laws.ensures (said c.args.command) c.in-Some.count c.answer_generated.result c.answer_generated.ensures.answer c.answer_generated.ensures.read
    (generated_is (said c.args.command) c.in-Some.count (sym c.in-Some.ensures))

pub returns-in-None-clause-summed : goal.returns-in-None-clause-summed
returns-in-None-clause-summed g c =
    if_ok c.answer_to.result (λ a tells. λ count is few. absurd (not_generated (said c.args.command) count (sym c.in-None.ensures) is)) c.answer_to.ensures.untold
