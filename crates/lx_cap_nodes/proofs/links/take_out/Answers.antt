use Rattle.std.proofs.Common.{◌≡◌, ◌<◌, length, map, sym, ◌∙◌, ap, subst, arith}
use Rattle.std.proofs.lemmas.List.{get_or_read}
use Rattle.lx_cap_nodes.specs.declared.links.Link.{Link}
use Rattle.lx_cap_nodes.specs.Links.{lists_of, no_link, link_at, IsWithin, IsFamily, with_previous, with_next, heads_passing}
use Rattle.lx_cap_nodes.specs.Names.{drop_name}
use Rattle.lx_cap_nodes.proofs.LinkLemmas.{length-with_next, length-with_previous}
use Rattle.lx_cap_nodes.proofs.FamilyLemmas.{out_family, listed_within, list_within, previous_within, next_within}
use Rattle.lx_cap_nodes.proofs.links.take_out.Goals as goal

pub index-link-requires : goal.index-link-requires
index-link-requires c = omega (arith, listed_within c.args.links.now.items c.args.heads.now.items (lists_of c.args.links.now.items c.args.heads.now.items) c.args.node c.requires.family c.requires.listed)

pub pass_over-requires : goal.pass_over-requires
pass_over-requires c =
    let links = c.args.links.now.items in
    let heads = c.args.heads.now.items in
    let lists = lists_of links heads in
    let within = listed_within links heads lists c.args.node c.requires.family c.requires.listed in
    let read = get_or_read links c.args.node c.index-link.result.now within c.index-link.ensures no_link in
    record {
      previous = subst (λ (x : Link). IsWithin x.previous (length links)) (sym read) (previous_within links heads lists c.args.node c.requires.family c.requires.listed);
      list = subst (λ (x : Link). x.list < length heads) (sym read) (list_within links heads lists c.args.node c.requires.family c.requires.listed);
    }

pub set_previous-requires : goal.set_previous-requires
set_previous-requires c =
    let links = c.args.links.now.items in
    let heads = c.args.heads.now.items in
    let lists = lists_of links heads in
    let within = listed_within links heads lists c.args.node c.requires.family c.requires.listed in
    let read = get_or_read links c.args.node c.index-link.result.now within c.index-link.ensures no_link in
    subst (λ n. IsWithin c.index-link.result.now.next n) (sym (ap length c.pass_over.ensures.links ∙ length-with_next links c.index-link.result.now.previous c.index-link.result.now.next))
    (subst (λ (x : Link). IsWithin x.next (length links)) (sym read) (next_within links heads lists c.args.node c.requires.family c.requires.listed))

pub returns-clause-family : goal.returns-clause-family
returns-clause-family c =
    let links = c.args.links.now.items in
    let heads = c.args.heads.now.items in
    let lists = lists_of links heads in
    let within = listed_within links heads lists c.args.node c.requires.family c.requires.listed in
    let x = c.index-link.result.now in
    let read = get_or_read links c.args.node x within c.index-link.ensures no_link in
    subst (λ ls. IsFamily ls c.pass_over.new.heads.items (map (drop_name c.args.node) lists)) (sym (c.set_previous.ensures ∙ ap (λ ls. with_previous ls x.next x.previous) c.pass_over.ensures.links))
    (subst (λ hs. IsFamily (with_previous (with_next links x.previous x.next) x.next x.previous) hs (map (drop_name c.args.node) lists)) (sym c.pass_over.ensures.heads)
    (subst (λ (y : Link). IsFamily (with_previous (with_next links y.previous y.next) y.next y.previous) (heads_passing heads y.previous y.list y.next) (map (drop_name c.args.node) lists)) (sym read)
    (out_family links heads lists c.args.node c.requires.family c.requires.listed)))

pub returns-clause-count : goal.returns-clause-count
returns-clause-count c =
    let x = c.index-link.result.now in
    ap length c.set_previous.ensures ∙ (length-with_previous c.pass_over.new.links.items x.next x.previous ∙ (ap length c.pass_over.ensures.links ∙ length-with_next c.args.links.now.items x.previous x.next))
