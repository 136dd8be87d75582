use Rattle.std.proofs.Common.{◌||◌, sym, ap, ◌∙◌}
use Rattle.lx_cap_lists.specs.Entries.{bit_among, gives_bit}
use Rattle.lx_cap_lists.proofs.BitLemmas.{bit_widened, same_is}
use Rattle.lx_cap_lists.proofs.KeptLemmas.{kept_linked}
use Rattle.lx_cap_lists.proofs.NodeLemmas.{nodes_linked}
use Rattle.lx_cap_lists.proofs.lists.give.Goals as goal

pub returns-in-Some-clause-here : goal.returns-in-Some-clause-here
returns-in-Some-clause-here c among k =
    let f = c.in-Some.ensures.found in
    let w = c.widen.ensures.here f.front f.behind f.v f.is in
    ap (λ es. bit_among among es k) w.1
    ∙ (bit_widened among k f.front f.behind c.in-Some.n f.v c.args.entry w.0 (same_is c.args.entry.holder f.v.holder f.such) (w.2 k)
    ∙ sym (ap (λ es. gives_bit among k c.args.entry || bit_among among es k) f.is))

pub returns-in-None-clause-kept : goal.returns-in-None-clause-kept
returns-in-None-clause-kept c = λ p r fits all.
    kept_linked c.args.pool.now c.link.new.self c.args.place c.args.owner c.link.result c.args.entry c.requires.place c.requires.owner c.link.ensures.places c.link.ensures.owners p fits all

pub returns-in-None-clause-nodes : goal.returns-in-None-clause-nodes
returns-in-None-clause-nodes c = λ bit all.
    nodes_linked c.args.pool.now.places c.link.new.self.places c.args.place c.link.result c.args.entry c.requires.place c.link.ensures.places c.in-None.ensures.none bit all

pub returns-in-Some-clause-nodes : goal.returns-in-Some-clause-nodes
returns-in-Some-clause-nodes c = λ bit all. c.widen.ensures.nodes bit.none all
