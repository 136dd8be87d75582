use Rattle.std.proofs.Common.{◌&&◌, ◌||◌, ap, ◌∙◌}
use Rattle.lx_cap_lists.specs.Lists.{some_below}
use Rattle.lx_cap_lists.specs.Loans.{loans_of}
use Rattle.lx_cap_lists.specs.Owned.{lent_atom, listed_atom}
use Rattle.lx_cap_lists.specs.Tables.{owner_key}
use Rattle.lx_cap_tables.proofs.gather.add_owned.Goals as goal
use Rattle.lx_caps.proofs.Tests.{sooner_step}

pub returns : goal.returns
returns g c = λ x.
    let lists = c.args.pool.now.owners in
    let owners = c.args.owners.now.keys in
    let who = c.args.who in
    let kind = g.G.Gather.of_kind x in
    let old = g.G.Gather.has c.args.out.now x in
    let lent = some_below 16 (λ t. lent_atom lists owners who x t (loans_of c.args.loans.now t)) in
    c.in_ok-add_all_lent.ensures x
    ∙ (ap (λ t. t || (kind && lent)) (c.in_ok-add_listed.ensures x ∙ ap (λ k. old || (kind && listed_atom lists owners who x k)) c.owner_key.ensures)
    ∙ sooner_step old kind (listed_atom lists owners who x (owner_key who)) lent)
