use Rattle.std.proofs.Common.{sym, subst}
use Rattle.lx_cap_nodes.specs.Pool.{Pool}
use Rattle.lx_cap_lists.specs.declared.entry.Entry.{Entry}
use Rattle.lx_cap_lists.specs.Index.{IsIndexed}
use Rattle.lx_cap_lists.proofs.IndexLemmas.{indexed_with}
use Rattle.lx_cap_lists.proofs.pool.Pool.put_mask.Goals as goal

pub invariant_of-self : goal.invariant_of-self
invariant_of-self c =
    let a = c.self.inside in
    let w = c.write_mask.ensures in
    subst (λ (p : Pool Entry). IsIndexed p.places a.index.entries) (sym w.2) (indexed_with a.nodes c.args.node w.0 c.args.mask a.index.entries c.laws.ensures w.1 c.self.invariant)
