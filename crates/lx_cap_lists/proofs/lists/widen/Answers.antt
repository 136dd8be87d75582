use Rattle.std.proofs.Common.{◌≡◌, ◌||◌, bit_or, ◌∷◌, ◌++◌, sym, ap, ◌∙◌, subst}
use Rattle.lx_cap_nodes.specs.declared.pool.Family.TheVariants as family
use Rattle.lx_cap_nodes.specs.Pool.{Pool}
use Rattle.lx_cap_nodes.specs.Words.{nodes_at}
use Rattle.lx_cap_lists.specs.declared.entry.Entry.{Entry}
use Rattle.lx_cap_nodes.specs.Bits.{is_set}
use Rattle.lx_cap_lists.specs.Entries.{with_mask}
use Rattle.lx_cap_lists.specs.Kept.{AreNodes, width_of}
use Rattle.lx_cap_lists.proofs.NodeLemmas.{nodes_at_one, nodes_widened}
use Rattle.lx_cap_lists.proofs.lists.widen.Goals as goal

pub value-requires : goal.value-requires
value-requires c = (c.laws.ensures.at_node family.Place c.args.place c.requires.front c.args.n c.requires.v c.requires.behind c.requires.is).live

pub put_mask-requires : goal.put_mask-requires
put_mask-requires c = (c.laws.ensures.at_node family.Place c.args.place c.requires.front c.args.n c.requires.v c.requires.behind c.requires.is).live

pub returns-clause-here : goal.returns-clause-here
returns-clause-here c xs ys v is =
    let at = c.laws.ensures.at_node family.Place c.args.place xs c.args.n v ys is in
    let same : v ≡ c.value.result.now = cc (at.value, c.value.ensures) in (
      c.with.result,
      ap (λ (p : Pool Entry). nodes_at p.places c.args.place) (c.put_mask.ensures.written v at.value) ∙ at.written (with_mask v c.with.result),
      λ k. c.with.ensures.bits k ∙ ap (λ (e : Entry). is_set e.mask k || is_set c.args.more k) (sym same),
    )

pub returns-clause-others : goal.returns-clause-others
returns-clause-others c l ne =
    let at = c.laws.ensures.at_node family.Place c.args.place c.requires.front c.args.n c.requires.v c.requires.behind c.requires.is in
    ap (λ (p : Pool Entry). nodes_at p.places l) (c.put_mask.ensures.written c.requires.v at.value) ∙ at.written_elsewhere (with_mask c.requires.v c.with.result) l ne

pub returns-clause-nodes : goal.returns-clause-nodes
returns-clause-nodes c = λ high.
    let f = c.requires in
    let w = width_of c.args.place in
    let at = c.laws.ensures.at_node family.Place c.args.place f.front c.args.n f.v f.behind f.is in
    let same : f.v ≡ c.value.result.now = cc (at.value, c.value.ensures) in
    let is : c.with.result ≡ bit_or f.v.mask c.args.more = c.with.ensures.is ∙ ap (λ (e : Entry). bit_or e.mask c.args.more) (sym same) in
    let here : nodes_at c.put_mask.new.pool.places c.args.place ≡ f.front ++ (c.args.n, with_mask f.v c.with.result) ∷ f.behind =
    ap (λ (p : Pool Entry). nodes_at p.places c.args.place) (c.put_mask.ensures.written f.v at.value) ∙ at.written (with_mask f.v c.with.result) in
    nodes_at_one c.args.pool.now.places c.put_mask.new.pool.places c.args.place
    (λ all. subst (AreNodes w) (sym here) (nodes_widened w f.front f.behind c.args.n f.v c.with.result c.args.more is high (subst (AreNodes w) f.is all)))
    (returns-clause-others c)
