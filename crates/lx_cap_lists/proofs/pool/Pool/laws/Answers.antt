use Rattle.indexmap.specs.IndexMap.{spare}
use Rattle.lx_cap_lists.proofs.ShownLemmas.{laws_shown}
use Rattle.lx_cap_lists.proofs.pool.Pool.laws.Goals as goal

pub returns : goal.returns
returns c = rw (← c.self.view_is) (laws_shown c.self.inside.nodes (spare c.self.inside.index) c.laws.ensures)
