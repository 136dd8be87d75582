use Rattle.std.proofs.Common.{◌&&◌, subst}
use Rattle.lx_caps.specs.Order.{is_behind, IsFirst}
use Rattle.lx_cap_lists.specs.Lists.{some_below}
use Rattle.lx_cap_lists.specs.Loans.{loans_of}
use Rattle.lx_cap_lists.specs.Owned.{lent_atom, listed_atom}
use Rattle.lx_cap_lists.specs.Tables.{owner_key}
use Rattle.lx_cap_tables.proofs.TieLemmas.{all_fit, first_is}
use Rattle.lx_cap_tables.proofs.held.owned_by_lists.Goals as goal

pub owned_by_list-kept-requires-clause-fit : goal.owned_by_list-kept-requires-clause-fit
owned_by_list-kept-requires-clause-fit c = all_fit c.args.pool.now c.laws.ensures c.args.owners.now.keys c.args.atoms.now.keys c.args.loans.now c.requires.order

pub owned_on_loans-lent-requires-clause-fit : goal.owned_on_loans-lent-requires-clause-fit
owned_on_loans-lent-requires-clause-fit c = all_fit c.args.pool.now c.laws.ensures c.args.owners.now.keys c.args.atoms.now.keys c.args.loans.now c.requires.order

pub returns : goal.returns
returns c =
    let after = c.args.wanted.after in
    let who = c.args.wanted.who in
    let owners = c.args.owners.now.keys in
    let kept : IsFirst (λ x. is_behind after x && listed_atom c.args.pool.now.owners owners who x (owner_key who)) c.owned_by_list-kept.result =
    subst (λ k. IsFirst (λ x. is_behind after x && listed_atom c.args.pool.now.owners owners who x k) c.owned_by_list-kept.result) c.owner_key.ensures c.owned_by_list-kept.ensures in
    first_is c.args.pool.now c.laws.ensures owners c.args.atoms.now.keys c.args.loans.now c.requires.order who after c.sooner.result
    (c.sooner.ensures (λ x. is_behind after x && listed_atom c.args.pool.now.owners owners who x (owner_key who))
    (λ x. is_behind after x && some_below 16 (λ t. lent_atom c.args.pool.now.owners owners who x t (loans_of c.args.loans.now t))) kept c.owned_on_loans-lent.ensures)
