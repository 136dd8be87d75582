use Rattle.std.proofs.Common.{None, ap, ◌∙◌}
use Rattle.lx_cap_lists.specs.Index.{node_once}
use Rattle.lx_cap_lists.proofs.IndexLemmas.{indexed_without}
use Rattle.lx_cap_lists.proofs.pool.Pool.unlink.Goals as goal

pub invariant_of-self : goal.invariant_of-self
invariant_of-self c =
    let a = c.self.inside in
    indexed_without a.nodes c.unlink-entry.new.self.places c.place_of-place.result c.args.node c.unlink-entry.result a.index.entries c.remove_key.new.index.entries
    c.laws.ensures c.place_of-place.ensures c.unlink-entry.ensures.value c.unlink-entry.ensures.places
    (λ other. c.remove_key.ensures.nodes other ∙ ap (λ k. node_once k None a.index.entries other) c.key_at.ensures) c.self.invariant
