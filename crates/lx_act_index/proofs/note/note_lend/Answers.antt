-- A lend is noted, or says nothing.
use Rattle.std.proofs.Common.{◌∙◌, refl, sym}
use Rattle.lx_act_index.specs.Index.{Keeps, Notes}
use Rattle.lx_act_index.proofs.IndexLemmas.{lend_shown, on_err, still_shown, unlent_shown}
use Rattle.lx_act_index.proofs.note.note_lend.Goals as goal

pub returns-in_err-say-in-Some-clause-err : goal.returns-in_err-say-in-Some-clause-err
unfolding Keeps
returns-in_err-say-in-Some-clause-err c =
    let done = c.in_err-say-in-Some.ensures in
    on_err c.from_residual.result _ (λ h shows. still_shown h c.args.table.now c.say.new.table c.args.threads.now c.args.threads.now done.table done.err (λ u. refl) shows)

pub returns-in_ok-say-in-Some-clause-ok : goal.returns-in_ok-say-in-Some-clause-ok
unfolding Notes
returns-in_ok-say-in-Some-clause-ok c = λ h is shows.
    let done = c.in_ok-say-in-Some.ensures in
    let lent = c.args.lent in
    lend_shown h lent.thread lent.to lent.cap c.in-Some.loan c.args.number c.args.table.now c.say.new.table c.args.threads.now is (sym c.newest_loan.ensures ∙ c.in-Some.is) done.ok done.table shows

pub returns-in-None-clause-ok : goal.returns-in-None-clause-ok
unfolding Notes
returns-in-None-clause-ok c = λ h is shows.
    let lent = c.args.lent in
    unlent_shown h lent.thread lent.to lent.cap c.args.table.now c.args.threads.now (sym c.newest_loan.ensures ∙ c.in-None.is) shows
