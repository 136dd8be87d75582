-- A case is replayed where a schedule is named, and run else.
use Rattle.std.proofs.Common.{ap, subst, sym, ℕ, List, Option, Some, option_copied}
use Rattle.lx_words.proofs.Options.{if_ok}
use Rattle.lx_cli.specs.Command.{CommandTurn, UntoldTurn}
use Rattle.lx_trace.specs.Traced.{IsReplayed, TellsTraced, run_of}
use Rattle.lx_trace.proofs.answer.answer_to.Goals as goal

pub returns-in-Some-clause-answer : goal.returns-in-Some-clause-answer
returns-in-Some-clause-answer g c =
    if_ok c.answer_replay.result
    (λ a tells. λ files files_told. subst (λ (o : Option (List ℕ)). TellsTraced (CommandTurn files (Some (run_of c.args.named.case.now o))) a) (sym (ap option_copied c.in-Some.is)) (tells files files_told))
    c.answer_replay.ensures.answer

pub returns-in-Some-clause-replayed : goal.returns-in-Some-clause-replayed
returns-in-Some-clause-replayed g c =
    if_ok c.answer_replay.result
    (λ a is. λ files files_told.
    subst (λ (o : Option (List ℕ)). IsReplayed (run_of c.args.named.case.now o) (CommandTurn files (Some (run_of c.args.named.case.now o))) a) (sym (ap option_copied c.in-Some.is)) (is files files_told))
    c.answer_replay.ensures.replayed

pub returns-in-Some-clause-untold : goal.returns-in-Some-clause-untold
returns-in-Some-clause-untold g c =
    if_ok c.answer_replay.result
    (λ a tells.
    subst (λ (o : Option (List ℕ)). TellsTraced (UntoldTurn (Some (run_of c.args.named.case.now o)) (g.S.Shelf.faults c.args.shelf.now) (g.S.Shelf.faults c.answer_replay.new.shelf)) a) (sym (ap option_copied c.in-Some.is)) tells)
    c.answer_replay.ensures.untold

pub returns-in-None-clause-answer : goal.returns-in-None-clause-answer
returns-in-None-clause-answer g c =
    if_ok c.answer_run.result
    (λ a tells. λ files files_told. subst (λ (o : Option (List ℕ)). TellsTraced (CommandTurn files (Some (run_of c.args.named.case.now o))) a) (sym (ap option_copied c.in-None.is)) (tells files files_told))
    c.answer_run.ensures.answer

pub returns-in-None-clause-replayed : goal.returns-in-None-clause-replayed
returns-in-None-clause-replayed g c =
    if_ok c.answer_run.result
    (λ a is. λ files files_told.
    subst (λ (o : Option (List ℕ)). IsReplayed (run_of c.args.named.case.now o) (CommandTurn files (Some (run_of c.args.named.case.now o))) a) (sym (ap option_copied c.in-None.is)) (is files files_told))
    c.answer_run.ensures.replayed

pub returns-in-None-clause-untold : goal.returns-in-None-clause-untold
returns-in-None-clause-untold g c =
    if_ok c.answer_run.result
    (λ a tells.
    subst (λ (o : Option (List ℕ)). TellsTraced (UntoldTurn (Some (run_of c.args.named.case.now o)) (g.S.Shelf.faults c.args.shelf.now) (g.S.Shelf.faults c.answer_run.new.shelf)) a) (sym (ap option_copied c.in-None.is)) tells)
    c.answer_run.ensures.untold
