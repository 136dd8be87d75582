use Rattle.std.proofs.Common.{◌&&◌, ◌||◌, sym, ap, ◌∙◌, subst}
use Rattle.std.proofs.lemmas.Bool.{or_left}
use Rattle.lx_caps.specs.History.{same_principal}
use Rattle.lx_cap_nodes.specs.Bits.{is_set}
use Rattle.lx_writer_sets.specs.Nodes.{has_nodes, AreNodes}
use Rattle.lx_writer_sets.specs.Sets.{is_given}
use Rattle.lx_writer_sets.proofs.GivenLemmas.{given_wider}
use Rattle.lx_writer_sets.proofs.IndexLemmas.{stands, no_writer, indexed_put, indexed_linked}
use Rattle.lx_writer_sets.proofs.NodeLemmas.{nodes_linked, nodes_one, nodes_put, still_some}
use Rattle.lx_writer_sets.proofs.chain.add.Goals as goal
use Rattle.lx_caps.proofs.Principals.{same_principal_is}

pub widen-requires : goal.widen-requires
widen-requires c =
    let f = stands c.args.table.now.entries c.args.pool.now.places c.args.list c.args.entry.writer c.key_of-key.result c.node_at.result c.in-Some.n c.requires.indexed c.key_of-key.ensures c.node_at.ensures c.in-Some.is in
    record { front = f.front; v = f.v; behind = f.behind; is = f.is; such = tt }

pub returns-in-Some-clause-here : goal.returns-in-Some-clause-here
returns-in-Some-clause-here c k q =
    let f = stands c.args.table.now.entries c.args.pool.now.places c.args.list c.args.entry.writer c.key_of-key.result c.node_at.result c.in-Some.n c.requires.indexed c.key_of-key.ensures c.node_at.ensures c.in-Some.is in
    let w = c.widen.ensures.here f.front f.behind f.v f.is in
    ap (λ es. is_given es k q) w.1
    ∙ (given_wider k q f.front f.behind c.in-Some.n f.v c.args.entry w.0 (same_principal_is c.args.entry.writer f.v.writer f.such) (w.2 k)
    ∙ sym (ap (λ es. (same_principal q c.args.entry.writer && is_set c.args.entry.mask k) || is_given es k q) f.is))

pub returns-in-Some-clause-some : goal.returns-in-Some-clause-some
returns-in-Some-clause-some c =
    let f = stands c.args.table.now.entries c.args.pool.now.places c.args.list c.args.entry.writer c.key_of-key.result c.node_at.result c.in-Some.n c.requires.indexed c.key_of-key.ensures c.node_at.ensures c.in-Some.is in
    let w = c.widen.ensures.here f.front f.behind f.v f.is in
    ap has_nodes w.1 ∙ still_some f.front f.behind (c.in-Some.n, _)

pub returns-in-Some-clause-nodes : goal.returns-in-Some-clause-nodes
returns-in-Some-clause-nodes c =
    let f = stands c.args.table.now.entries c.args.pool.now.places c.args.list c.args.entry.writer c.key_of-key.result c.node_at.result c.in-Some.n c.requires.indexed c.key_of-key.ensures c.node_at.ensures c.in-Some.is in
    let w = c.widen.ensures.here f.front f.behind f.v f.is in
    nodes_one c.args.pool.now.places c.widen.new.pool.places c.args.list
    (λ all. subst AreNodes (sym w.1)
    (nodes_put f.front f.behind c.in-Some.n f.v w.0
    (λ bit. record { bit = bit.bit; within = bit.within; set = w.2 bit.bit ∙ or_left (is_set f.v.mask bit.bit) (is_set c.args.entry.mask bit.bit) bit.set }) (subst AreNodes f.is all)))
    c.widen.ensures.others

pub returns-in-None-clause-nodes : goal.returns-in-None-clause-nodes
returns-in-None-clause-nodes c = λ all.
    let none = no_writer c.args.table.now.entries c.args.pool.now.places c.args.list c.args.entry.writer c.key_of-key.result c.node_at.result c.requires.indexed c.key_of-key.ensures c.node_at.ensures c.in-None.is in
    nodes_linked c.args.pool.now.places c.link-n.new.self.places c.args.list c.link-n.result c.args.entry c.requires.list c.link-n.ensures.places none c.requires.bit all

pub returns-in-Some-clause-indexed : goal.returns-in-Some-clause-indexed
returns-in-Some-clause-indexed c =
    let f = stands c.args.table.now.entries c.args.pool.now.places c.args.list c.args.entry.writer c.key_of-key.result c.node_at.result c.in-Some.n c.requires.indexed c.key_of-key.ensures c.node_at.ensures c.in-Some.is in
    let w = c.widen.ensures.here f.front f.behind f.v f.is in
    indexed_put c.args.table.now.entries c.args.pool.now.places c.widen.new.pool.places c.args.list c.in-Some.n w.0 f.v f.front f.behind f.is w.1 c.widen.ensures.others c.requires.indexed

pub returns-in-None-clause-indexed : goal.returns-in-None-clause-indexed
returns-in-None-clause-indexed c =
    indexed_linked c.args.table.now.entries c.put.new.table.entries c.args.pool.now.places c.link-n.new.self.places c.args.list c.link-n.result c.args.entry c.key_of-key.result c.requires.list c.link-n.ensures.places
    c.key_of-key.ensures c.put.ensures.nodes c.requires.indexed
