use Rattle.std.proofs.Common.{◌≡◌, [], ◌∷◌, sym, ap, ◌∙◌}
use Rattle.lx_cap_nodes.specs.declared.pool.Family.TheVariants as family
use Rattle.lx_cap_nodes.specs.Words.{nodes_at}
use Rattle.lx_cap_lists.proofs.TakenLemmas.{first_split, bits_stay, still_empty}
use Rattle.lx_cap_lists.proofs.KeptLemmas.{kept_without}
use Rattle.lx_cap_lists.proofs.NodeLemmas.{all_without}
use Rattle.lx_cap_lists.proofs.lists.take_out.Goals as goal

pub unlink-requires : goal.unlink-requires
unlink-requires c =
    let s = first_split (nodes_at c.args.pool.now.owners c.args.list) c.args.n c.requires.first in
    (c.laws.ensures.at_node family.Owner c.args.list [] c.args.n s.0 s.1 s.2).live

pub returns-clause-rest : goal.returns-clause-rest
returns-clause-rest c =
    let s = first_split (nodes_at c.args.pool.now.owners c.args.list) c.args.n c.requires.first in
    let at = c.laws.ensures.at_node family.Owner c.args.list [] c.args.n s.0 s.1 s.2 in
    let rest : nodes_at c.unlink.new.self.owners c.args.list ≡ s.1 = ap (λ ls. nodes_at ls c.args.list) c.unlink.ensures.owners ∙ at.gone in
    (s.0, s.2 ∙ ap (λ ys. (c.args.n, s.0) ∷ ys) (sym rest), λ among out l k. bits_stay c.args.pool.now c.unlink.new.self.places c.args.n s.0 c.laws.ensures at.value c.unlink.ensures.places among out l k)

pub returns-clause-other_owners : goal.returns-clause-other_owners
returns-clause-other_owners c l ne =
    let s = first_split (nodes_at c.args.pool.now.owners c.args.list) c.args.n c.requires.first in
    let at = c.laws.ensures.at_node family.Owner c.args.list [] c.args.n s.0 s.1 s.2 in
    ap (λ ls. nodes_at ls l) c.unlink.ensures.owners ∙ at.gone_elsewhere l ne

pub returns-clause-empty : goal.returns-clause-empty
returns-clause-empty c = still_empty c.args.pool.now.places c.unlink.new.self.places c.args.n c.unlink.ensures.places

pub returns-clause-nodes : goal.returns-clause-nodes
returns-clause-nodes c = all_without c.args.pool.now.places c.unlink.new.self.places c.args.n c.unlink.ensures.places

pub returns-clause-kept : goal.returns-clause-kept
returns-clause-kept c = λ p all. kept_without c.args.pool.now c.unlink.new.self c.args.n c.unlink.ensures.places c.unlink.ensures.owners p all
