use Rattle.std.proofs.Common.{◌≡◌, length, length-set, ◌∷◌, None, Some, Option, ℕ, set, sym, ◌∙◌, ap, subst, arith}
use Rattle.std.proofs.lemmas.List.{get_or_read}
use Rattle.lx_cap_nodes.specs.declared.links.Link.{Link}
use Rattle.lx_cap_nodes.specs.Links.{lists_of, no_link, at_list, head_at, with_previous, IsFamily}
use Rattle.lx_cap_nodes.proofs.LinkLemmas.{length-with_previous}
use Rattle.lx_cap_nodes.proofs.FamilyLemmas.{put_family}
use Rattle.lx_cap_nodes.proofs.links.put_first.Goals as goal

pub returns-clause-family : goal.returns-clause-family
returns-clause-family c =
    let links = c.args.links.now.items in
    let heads = c.args.heads.now.items in
    let lists = lists_of links heads in
    let read = get_or_read heads c.args.list c.index-next.result.now c.requires.in_use c.index-next.ensures None in
    subst (λ ls. IsFamily ls (set heads c.args.list (Some c.args.node)) (set lists c.args.list (c.args.node ∷ at_list lists c.args.list))) (sym c.set_previous.ensures)
    (subst (λ (o : Option ℕ). IsFamily (with_previous (set links c.args.node (record { previous = None; next = o; list = c.args.list })) o (Some c.args.node)) (set heads c.args.list (Some c.args.node)) (set lists c.args.list (c.args.node ∷ at_list lists c.args.list))) (sym read)
    (put_family links heads lists c.args.list c.args.node c.requires.family c.requires.in_use c.requires.within c.requires.fresh))

pub returns-clause-count : goal.returns-clause-count
returns-clause-count c = ap length c.set_previous.ensures ∙ (length-with_previous (set c.args.links.now.items c.args.node (record { previous = None; next = c.index-next.result.now; list = c.args.list })) c.index-next.result.now (Some c.args.node) ∙ length-set c.args.links.now.items c.args.node _)
