use Rattle.std.proofs.Common.{◌∙◌, ap, arith}
use Rattle.std.proofs.lemmas.List.{get_or_read}
use Rattle.lx_cap_nodes.specs.declared.links.Link.{Link}
use Rattle.lx_cap_nodes.specs.Links.{at_list, lists_of, no_link}
use Rattle.lx_cap_nodes.specs.Names.{has}
use Rattle.lx_cap_nodes.proofs.LinkLemmas.{list_is}
use Rattle.std.specs.Prelude.{None}
use Rattle.lx_cap_nodes.proofs.FamilyLemmas.{listed_at, listed_within}
use Rattle.lx_cap_nodes.proofs.links.list_of.Goals as goal

pub index-requires : goal.index-requires
index-requires c = omega (arith, listed_within c.args.links.now.items c.args.heads.now.items (lists_of c.args.links.now.items c.args.heads.now.items) c.args.node c.requires.family c.requires.listed)

pub returns : goal.returns
returns c =
    let links = c.args.links.now.items in
    let lists = lists_of links c.args.heads.now.items in
    let within = listed_within links c.args.heads.now.items lists c.args.node c.requires.family c.requires.listed in
    let found = listed_at lists c.args.node c.requires.listed in
    ap (λ l. has c.args.node (at_list lists l))
    (ap (λ (x : Link). x.list) (get_or_read links c.args.node c.index.result.now within c.index.ensures no_link) ∙ list_is links found.0 None (at_list lists found.0) c.args.node (c.requires.family.each found.0).fits found.2)
    ∙ found.2
