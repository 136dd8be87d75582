use Rattle.std.proofs.Common.{◌≡◌}
use Rattle.lx_cap_nodes.proofs.SoundLemmas.{has_place, in_place}
use Rattle.lx_cap_nodes.proofs.pool.NodePool.place_of.Goals as goal

pub list_of-requires-clause-listed : goal.list_of-requires-clause-listed
list_of-requires-clause-listed g c =
    let a = c.self.inside in
    in_place a.place_links.items a.place_heads.items a.owner_links.items a.owner_heads.items a.slots.items a.free.items _ c.self.invariant c.args.node (rw (← c.self.view_is) at c.requires)

pub returns : goal.returns
returns g c =
    let a = c.self.inside in
    rw (← c.self.view_is) (has_place a.place_links.items a.place_heads.items a.owner_links.items a.owner_heads.items a.slots.items a.free.items _ c.self.invariant c.list_of.result c.args.node c.list_of.ensures)
