use Rattle.std.proofs.Common.{◌≡◌, true, nat_eq, refl, arith}
use Rattle.std.proofs.lemmas.Bool.Decides.{nat_tests}
use Rattle.lx_caps.specs.declared.Act.TheVariants.{ShutAll}
use Rattle.lx_cap_tables.proofs.HadLemmas.{count_all_here, count_all_other}
use Rattle.lx_cap_tables.proofs.tables.CapTables.shut_all_by.Goals as goal

pub returns-clause-appends : goal.returns-clause-appends
returns-clause-appends g c = λ h stands.
    let thread = c.args.thread in
    c.end_loans.ensures.appends h (ShutAll thread) stands (record {
      placed = refl;
      had_then = λ among x. refl;
      here = count_all_here thread h thread (let same : nat_eq thread thread ≡ true = grind (arith, nat_tests) in same);
      others = λ u out. count_all_other thread h u out;
    })
