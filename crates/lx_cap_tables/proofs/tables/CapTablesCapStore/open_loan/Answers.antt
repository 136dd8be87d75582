use Rattle.std.proofs.Common.{◌≡◌, ◌<◌, ◌≤◌, true, false, ℕ, nat_eq, cond, ◌∷◌, length, refl, sym, ap, ◌∙◌, subst, arith, length-set}
use Rattle.std.proofs.lemmas.Bool.Decides.{nat_tests}
use Rattle.lx_caps.specs.declared.Act.TheVariants.{Loan}
use Rattle.lx_cap_lists.specs.Holders.{open_count}
use Rattle.lx_cap_lists.specs.Loans.{loans_of}
use Rattle.lx_cap_lists.specs.Tables.{is_in_order}
use Rattle.lx_cap_tables.specs.Sound.{StandsFor}
use Rattle.lx_cap_tables.proofs.HadLemmas.{count_loan_here, count_loan_other}
use Rattle.lx_cap_tables.proofs.EndLemmas.{loans_set, deep_set, order_opened}
use Rattle.lx_cap_lists.specs.Kept.{AreAll}
use Rattle.lx_cap_tables.proofs.tables.CapTablesCapStore.open_loan.Goals as goal

pub count_loan-count-requires : goal.count_loan-count-requires
count_loan-count-requires c =
    let old = c.self.invariant in
    let room = rw (← c.self.view_is) at c.requires.room in
    record {
      thread = let a = old.threads in let b = c.requires.thread in omega (arith, a, b);
      small = let a = old.deep c.args.thread in let b = old.loan_fit in omega (arith, a, b, room);
    }

pub invariant_of-self : goal.invariant_of-self
invariant_of-self c =
    let t = c.self.inside in
    let old = c.self.invariant in
    let loans = t.loans.items in
    let low : c.args.thread < length loans = let a = old.threads in let b = c.requires.thread in omega (arith, a, b) in
    let count = c.count_loan-count.ensures.count in
    let is = c.count_loan-count.ensures.loans in
    let most = c.max-self-inside.ensures in
    record {
      owner_count = old.owner_count;
      place_count = old.place_count;
      owner_has_room = old.owner_has_room;
      atom_has_room = old.atom_has_room;
      node_fit = let a = old.node_fit in omega (arith, a);
      owner_fit = let a = old.owner_fit in omega (arith, a);
      atom_fit = let a = old.atom_fit in omega (arith, a);
      loan_fit = let a = old.loan_fit in let b = old.deep c.args.thread in omega (arith, a, b, count, most);
      threads = ap length is ∙ (length-set loans c.args.thread c.count_loan-count.result ∙ old.threads);
      deep = subst (λ ls. (u : ℕ) → loans_of ls u ≤ c.max-self-inside.result) (sym is) (deep_set loans c.args.thread c.count_loan-count.result c.max-self-inside.result low (λ u. let d = old.deep u in omega (arith, d, most)) (omega (arith, most)));
      empty = old.empty;
      in_order = subst (λ ls. AreAll (is_in_order t.owners.keys t.atoms.keys ls) t.pool) (sym is) (order_opened t.owners.keys t.atoms.keys loans c.args.thread c.count_loan-count.result t.pool low (omega (arith, count)) old.in_order);
      nodes = old.nodes;
    }

pub returns-clause-appends : goal.returns-clause-appends
unfolding StandsFor
returns-clause-appends c = λ h stands.
    let t = c.self.inside in
    let st = subst (λ v. StandsFor v h) (sym c.self.view_is) stands in
    let loans = t.loans.items in
    let low : c.args.thread < length loans = let a = c.self.invariant.threads in let b = c.requires.thread in omega (arith, a, b) in
    let count = c.count_loan-count.ensures.count in (
      (refl, st.0),
      st.1,
      (λ u h16. ap (λ ls. loans_of ls u) c.count_loan-count.ensures.loans ∙ (loans_set loans c.args.thread c.count_loan-count.result u low
          ∙ (elim (nat_eq c.args.thread u) as (λ b. nat_eq c.args.thread u ≡ b → cond b c.count_loan-count.result (loans_of loans u) ≡ open_count (Loan c.args.thread ∷ h) u) [
            | true ↦ λ e.
                let same : c.args.thread ≡ u = grind (arith, nat_tests, e) in
                let n = st.2 u h16 in
                let opened = count_loan_here c.args.thread h u e in
                let here : loans_of loans c.args.thread ≡ loans_of loans u = ap (loans_of loans) same in
                omega (arith, n, opened, count, here)
            | false ↦ λ e. st.2 u h16 ∙ sym (count_loan_other c.args.thread h u e)
          ]) refl)),
    )
