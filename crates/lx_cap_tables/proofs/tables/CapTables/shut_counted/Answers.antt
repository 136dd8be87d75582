use Rattle.std.proofs.Common.{◌≡◌, ◌+◌, ◌-◌, true, nat_eq, refl, sym, ap, ◌∙◌, subst, arith}
use Rattle.std.proofs.lemmas.Bool.Decides.{nat_tests}
use Rattle.lx_caps.specs.declared.Act.TheVariants.{Shut}
use Rattle.lx_cap_lists.specs.Holders.{had, left_by, open_count}
use Rattle.lx_cap_tables.specs.Sound.{Tables, StandsFor}
use Rattle.lx_cap_lists.specs.Loans.{loans_of}
use Rattle.lx_cap_lists.specs.Tables.{loans_work}
use Rattle.lx_cap_tables.proofs.HadLemmas.{count_shut_here, count_shut_other}
use Rattle.lx_cap_tables.proofs.ShutLemmas.{shut_within}
use Rattle.lx_cap_tables.proofs.tables.CapTables.shut_counted.Goals as goal

pub returns-clause-appends : goal.returns-clause-appends
unfolding StandsFor
returns-clause-appends g c = λ h stands.
    let st = subst (λ v. StandsFor v h) (sym c.self.view_is) stands in
    let thread = c.args.thread in
    let count = st.2 thread c.requires.thread in
    let first : c.saturating_sub-first.result ≡ open_count h thread - c.args.count = let open_now = c.loans_of-open.ensures in omega (arith, count, open_now) in
    c.end_loans.ensures.appends h (Shut thread c.args.count) stands (record {
      placed = refl;
      had_then = λ among x. ap (λ n. had (left_by thread n among) h x) (sym first);
      here = count_shut_here thread c.args.count h thread (let same : nat_eq thread thread ≡ true = grind (arith, nat_tests) in same) ∙ sym first;
      others = λ u out. count_shut_other thread c.args.count h u out;
    })

pub returns-clause-bound : goal.returns-clause-bound
unfolding StandsFor
returns-clause-bound g c = λ h stands.
    let t = c.self.inside in
    let old = c.self.invariant in
    let st = subst (λ v. StandsFor v h) (sym c.self.view_is) stands in
    let thread = c.args.thread in
    let count = st.2 thread c.requires.thread in
    let first : c.saturating_sub-first.result ≡ open_count h thread - c.args.count = let open_now = c.loans_of-open.ensures in omega (arith, count, open_now) in
    let bound = shut_within t.pool c.laws.ensures t.owners.keys t.atoms.keys t.loans.items old.in_order old.nodes h st.1 thread c.args.count c.saturating_sub-first.result c.requires.thread count first in
    let cost =
    subst (λ (v : Tables). c.end_loans.new.steps ≡ c.args.steps.now + loans_work v.pool.owners v.owners thread c.saturating_sub-first.result (loans_of v.loans thread - c.saturating_sub-first.result)) (sym c.self.view_is)
    c.end_loans.ensures.cost in
    omega (arith, bound, cost)
