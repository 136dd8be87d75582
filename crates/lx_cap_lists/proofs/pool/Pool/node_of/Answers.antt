use Rattle.std.proofs.Common.{ap, ◌∙◌}
use Rattle.lx_cap_nodes.specs.Words.{nodes_at}
use Rattle.lx_cap_lists.specs.Index.{node_at}
use Rattle.lx_cap_lists.proofs.IndexLemmas.{found_is, none_is}
use Rattle.lx_cap_lists.proofs.pool.Pool.node_of.Goals as goal

pub returns-clause-found : goal.returns-clause-found
returns-clause-found c =
    let a = c.self.inside in
    rw (← c.self.view_is)
    (found_is c.args.holder (nodes_at a.nodes.places c.args.place) c.node_at.result (c.node_at.ensures ∙ (ap (node_at a.index.entries) c.key_at.ensures ∙ c.self.invariant.finds c.args.place c.args.holder)))

pub returns-clause-none : goal.returns-clause-none
returns-clause-none c =
    let a = c.self.inside in
    rw (← c.self.view_is)
    (none_is c.args.holder (nodes_at a.nodes.places c.args.place) c.node_at.result (c.node_at.ensures ∙ (ap (node_at a.index.entries) c.key_at.ensures ∙ c.self.invariant.finds c.args.place c.args.holder)))
