use Rattle.std.proofs.Common.{Some, ap, ◌∙◌}
use Rattle.lx_cap_lists.specs.Index.{node_once}
use Rattle.lx_cap_lists.proofs.IndexLemmas.{indexed_linked}
use Rattle.lx_cap_lists.proofs.pool.Pool.link.Goals as goal

pub invariant_of-self : goal.invariant_of-self
invariant_of-self c =
    let a = c.self.inside in
    let n = c.link-node.result in
    indexed_linked a.nodes.places c.link-node.new.self.places c.args.place n c.args.value a.index.entries c.put_node.new.index.entries
    (rw (← c.self.view_is) at c.requires.place) c.link-node.ensures.places (rw (← c.self.view_is) at c.requires.none)
    (λ other. c.put_node.ensures.nodes other ∙ ap (λ k. node_once k (Some n) a.index.entries other) c.key_at.ensures) c.self.invariant
