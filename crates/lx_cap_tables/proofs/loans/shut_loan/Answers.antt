use Rattle.std.proofs.Common.{◌≡◌, ◌<◌, ℕ, Some, None, IfSome, Option, length, sym, ap, ◌∙◌, arith}
use Rattle.lx_cap_lists.specs.Kept.{StayBut}
use Rattle.lx_cap_lists.specs.Tables.{count_in, loan_key, place_in, is_in_order}
use Rattle.lx_cap_lists.proofs.PlacesWithin.{list_within}
use Rattle.lx_cap_tables.proofs.EndLemmas.{ended, list_of_loan}
use Rattle.lx_cap_tables.proofs.loans.shut_loan.Goals as goal

pub take_list-requires : goal.take_list-requires
take_list-requires g c =
    let owners = c.args.owners.now.keys in
    by c.place_in-list.result c.place_in-list.ensures
  where
    by : (o : Option ℕ) → o ≡ place_in c.args.owners.now.keys c.loan_key.result → IfSome o (λ l. l < length c.args.pool.now.owners)
    by None e = tt
    by (Some l) e = let h = list_within c.args.owners.now.keys c.loan_key.result l (sym e) in let r = c.requires.lists in omega (arith, h, r)

pub returns-clause-others : goal.returns-clause-others
returns-clause-others g c = λ o ne.
    let owners = c.args.owners.now.keys in
    c.take_list.ensures.others o (λ is. ne (ap (place_in owners) (sym c.loan_key.ensures) ∙ (sym c.place_in-list.ensures ∙ is)))

pub returns-clause-cost : goal.returns-clause-cost
returns-clause-cost g c =
    let owners = c.args.owners.now.keys in
    let at : c.place_in-list.result ≡ place_in owners (loan_key c.args.thread c.args.older) = c.place_in-list.ensures ∙ ap (place_in owners) c.loan_key.ensures in
    let n = ap (count_in c.args.pool.now.owners) at in
    let cost = c.take_list.ensures.cost in
    let t = c.tick.ensures in
    omega (arith, n, cost, t)

pub returns-clause-gone : goal.returns-clause-gone
returns-clause-gone g c = λ atoms loans order.
    let owners = c.args.owners.now.keys in
    ended c.take_list.new.pool c.laws-2.ensures owners atoms loans (c.take_list.ensures.kept (is_in_order owners atoms loans) order) c.args.thread c.args.older
    (λ o at. c.take_list.ensures.gone o (c.place_in-list.ensures ∙ (ap (place_in owners) c.loan_key.ensures ∙ at)))

pub returns-clause-stays : goal.returns-clause-stays
unfolding StayBut
returns-clause-stays g c = λ atoms loans order among out.
    let owners = c.args.owners.now.keys in
    c.take_list.ensures.stays among (λ o is. list_of_loan c.args.pool.now c.laws.ensures owners atoms loans order c.args.thread c.args.older o c.requires.thread
    (ap (place_in owners) (sym c.loan_key.ensures) ∙ (sym c.place_in-list.ensures ∙ is)) among out)
