use Rattle.std.proofs.Common.{◌≡◌, ◌||◌, sym, ap, ◌∙◌}
use Rattle.lx_cap_nodes.specs.declared.pool.Family.TheVariants.{Place}
use Rattle.lx_cap_nodes.specs.Pool.{Pool}
use Rattle.lx_cap_nodes.specs.Words.{nodes_at}
use Rattle.lx_writer_sets.specs.declared.entry.Entry.{Entry}
use Rattle.lx_cap_nodes.specs.Bits.{is_set}
use Rattle.lx_writer_sets.specs.Nodes.{with_mask}
use Rattle.lx_writer_sets.proofs.chain.widen.Goals as goal

pub value-requires : goal.value-requires
value-requires c = (c.laws.ensures.at_node Place c.args.list c.requires.front c.args.n c.requires.v c.requires.behind c.requires.is).live

pub put_mask-requires : goal.put_mask-requires
put_mask-requires c = (c.laws.ensures.at_node Place c.args.list c.requires.front c.args.n c.requires.v c.requires.behind c.requires.is).live

pub returns-clause-here : goal.returns-clause-here
returns-clause-here c xs ys v is =
    let at = c.laws.ensures.at_node Place c.args.list xs c.args.n v ys is in
    let same : v ≡ c.value.result.now = cc (at.value, c.value.ensures) in (
      c.with.result,
      ap (λ (p : Pool Entry). nodes_at p.places c.args.list) (c.put_mask.ensures v at.value) ∙ at.written (with_mask v c.with.result),
      λ k. c.with.ensures.bits k ∙ ap (λ (e : Entry). is_set e.mask k || is_set c.args.more k) (sym same),
    )

pub returns-clause-others : goal.returns-clause-others
returns-clause-others c l ne =
    let at = c.laws.ensures.at_node Place c.args.list c.requires.front c.args.n c.requires.v c.requires.behind c.requires.is in
    ap (λ (p : Pool Entry). nodes_at p.places l) (c.put_mask.ensures c.requires.v at.value) ∙ at.written_elsewhere (with_mask c.requires.v c.with.result) l ne
