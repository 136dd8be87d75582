-- Each act is noted as what it is.
use Rattle.std.proofs.Common.{◌∷◌, refl, sym, subst}
use Rattle.lx_caps.specs.declared.Act.{Act}
use Rattle.lx_act_index.specs.Index.{Keeps, Notes, Shows}
use Rattle.lx_act_index.proofs.IndexLemmas.{grant_shown, loan_shown, on_err, on_slice, shut_all_shown, shut_shown, still_shown, strip_shown, zero_shown}
use Rattle.lx_act_index.proofs.note.note_act.Goals as goal

pub returns-in_err-say-in-Grant-clause-err : goal.returns-in_err-say-in-Grant-clause-err
unfolding Keeps
returns-in_err-say-in-Grant-clause-err c =
    let done = c.in_err-say-in-Grant.ensures in
    let threads = c.args.threads.now.items in
    on_err c.from_residual.result _ (λ h shows. still_shown h c.args.table.now c.say.new.table threads threads done.table done.err (λ u. refl) shows)

pub returns-in_err-say-in-Strip-clause-err : goal.returns-in_err-say-in-Strip-clause-err
unfolding Keeps
returns-in_err-say-in-Strip-clause-err c =
    let done = c.in_err-say-in-Strip.ensures in
    let threads = c.args.threads.now.items in
    on_err c.from_residual-in_err-say-in-Strip.result _ (λ h shows. still_shown h c.args.table.now c.say-in-Strip.new.table threads threads done.table done.err (λ u. refl) shows)

pub returns-in_err-open_loan-in-Loan-clause-err : goal.returns-in_err-open_loan-in-Loan-clause-err
unfolding Keeps
returns-in_err-open_loan-in-Loan-clause-err c =
    on_err c.from_residual-in_err-open_loan-in-Loan.result _
    (λ h shows. still_shown h c.args.table.now c.args.table.now c.args.threads.now.items c.open_loan.new.threads.items c.requires.table (λ x. refl) c.in_err-open_loan-in-Loan.ensures.err shows)

pub returns-in_ok-say-in-Grant-clause-ok : goal.returns-in_ok-say-in-Grant-clause-ok
unfolding Notes
returns-in_ok-say-in-Grant-clause-ok c = λ h is shows.
    let done = c.in_ok-say-in-Grant.ensures in
    let threads = c.args.threads.now.items in
    subst (λ (act : Act). Shows c.say.new.table threads (act ∷ h)) (sym c.in-Grant.is)
    (grant_shown h c.in-Grant.to c.in-Grant.cap c.args.number c.args.table.now c.say.new.table threads is (on_slice c.in-Grant.cap c.args.table.now c.say.new.table c.as_slice.ensures.value done.ok) done.table shows)

pub returns-in_ok-say-in-Strip-clause-ok : goal.returns-in_ok-say-in-Strip-clause-ok
unfolding Notes
returns-in_ok-say-in-Strip-clause-ok c = λ h is shows.
    let done = c.in_ok-say-in-Strip.ensures in
    let threads = c.args.threads.now.items in
    subst (λ (act : Act). Shows c.say-in-Strip.new.table threads (act ∷ h)) (sym c.in-Strip.is)
    (strip_shown h c.in-Strip.cap c.args.number c.args.table.now c.say-in-Strip.new.table threads is (on_slice c.in-Strip.cap c.args.table.now c.say-in-Strip.new.table c.as_slice-in-Strip.ensures.value done.ok) done.table shows)

pub returns-in-Zero-clause-ok : goal.returns-in-Zero-clause-ok
unfolding Notes
returns-in-Zero-clause-ok c = λ h is shows.
    subst (λ (act : Act). Shows c.args.table.now c.args.threads.now.items (act ∷ h)) (sym c.in-Zero.is)
    (zero_shown h c.in-Zero.at c.in-Zero.size c.args.table.now c.args.threads.now.items shows)

pub returns-in_ok-open_loan-in-Loan-clause-ok : goal.returns-in_ok-open_loan-in-Loan-clause-ok
unfolding Notes
returns-in_ok-open_loan-in-Loan-clause-ok c = λ h is shows.
    subst (λ (act : Act). Shows c.args.table.now c.open_loan.new.threads.items (act ∷ h)) (sym c.in-Loan.is)
    (loan_shown h c.in-Loan.thread c.args.number c.args.table.now c.args.threads.now.items c.open_loan.new.threads.items is c.in_ok-open_loan-in-Loan.ensures.ok shows)

pub returns-in-Shut-clause-ok : goal.returns-in-Shut-clause-ok
unfolding Notes
returns-in-Shut-clause-ok c = λ h is shows.
    subst (λ (act : Act). Shows c.args.table.now c.shut_loans.new.threads.items (act ∷ h)) (sym c.in-Shut.is)
    (shut_shown h c.in-Shut.thread c.in-Shut.n c.args.table.now c.args.threads.now.items c.shut_loans.new.threads.items c.shut_loans.ensures shows)

pub returns-in-ShutAll-clause-ok : goal.returns-in-ShutAll-clause-ok
unfolding Notes
returns-in-ShutAll-clause-ok c = λ h is shows.
    subst (λ (act : Act). Shows c.args.table.now c.shut_all_loans.new.threads.items (act ∷ h)) (sym c.in-ShutAll.is)
    (shut_all_shown h c.in-ShutAll.thread c.args.table.now c.args.threads.now.items c.shut_all_loans.new.threads.items c.shut_all_loans.ensures shows)
