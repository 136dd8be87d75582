use Rattle.std.proofs.Common.{◌≡◌, sym, ap, ◌∙◌}
use Rattle.lx_cap_nodes.specs.declared.pool.Family.TheVariants.{Place}
use Rattle.lx_writer_sets.specs.declared.entry.Entry.{Entry}
use Rattle.lx_writer_sets.specs.Sets.{touches}
use Rattle.lx_cap_nodes.specs.Words.{nodes_at}
use Rattle.lx_writer_sets.proofs.IndexLemmas.{stands, no_writer, no_writes, writes_here}
use Rattle.lx_writer_sets.proofs.chain.writes.Goals as goal

pub value-requires : goal.value-requires
value-requires c =
    let f = stands c.args.table.now.entries c.args.pool.now.places c.args.list c.args.who c.key_of-key.result c.node_at.result c.in-Some.n c.requires.indexed c.key_of-key.ensures c.node_at.ensures c.in-Some.is in
    (c.laws.ensures.at_node Place c.args.list f.front c.in-Some.n f.v f.behind f.is).live

pub returns-in-Some : goal.returns-in-Some
returns-in-Some c =
    let f = stands c.args.table.now.entries c.args.pool.now.places c.args.list c.args.who c.key_of-key.result c.node_at.result c.in-Some.n c.requires.indexed c.key_of-key.ensures c.node_at.ensures c.in-Some.is in
    let at = c.laws.ensures.at_node Place c.args.list f.front c.in-Some.n f.v f.behind f.is in
    let same : f.v ≡ c.value.result.now = cc (at.value, c.value.ensures) in
    c.touches.ensures
    ∙ (ap (λ (e : Entry). touches c.args.at.part e c.args.at.slot) (sym same)
    ∙ sym (writes_here c.args.pool.now.places c.args.list c.args.at.part c.args.at.slot c.args.who f.front f.behind c.in-Some.n f.v c.requires.nodes f.is f.such))

pub returns-in-None : goal.returns-in-None
returns-in-None c =
    sym (no_writes c.args.at.part c.args.at.slot c.args.who (nodes_at c.args.pool.now.places c.args.list)
    (no_writer c.args.table.now.entries c.args.pool.now.places c.args.list c.args.who c.key_of-key.result c.node_at.result c.requires.indexed c.key_of-key.ensures c.node_at.ensures c.in-None.is))
