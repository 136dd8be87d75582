use Rattle.std.proofs.Common.{sym, subst, arith}
use Rattle.lx_cap_tables.specs.Sound.{StandsFor}
use Rattle.lx_cap_tables.proofs.HadLemmas.{some_loan}
use Rattle.lx_cap_tables.proofs.tables.CapTablesCapStore.lend.Goals as goal

pub returns-else-count-gt0-clause-appends : goal.returns-else-count-gt0-clause-appends
unfolding StandsFor
returns-else-count-gt0-clause-appends c = λ h stands lending.
    let st = subst (λ v. StandsFor v h) (sym c.self.view_is) stands in
    let some = some_loan h c.args.thread lending in
    let count = st.2 c.args.thread c.requires.thread in
    let open_now = c.loans_of-count.ensures in
    absurd (omega (arith, some, count, open_now))
