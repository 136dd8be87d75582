use Rattle.std.proofs.Common.{◌≡◌, ◌||◌, ◌&&◌, ◌∷◌, sym, ap, ◌∙◌}
use Rattle.std.proofs.lemmas.Bool.{and_parts}
use Rattle.lx_cap_nodes.specs.declared.pool.Family.TheVariants as family
use Rattle.lx_cap_nodes.specs.Words.{nodes_at}
use Rattle.lx_cap_lists.specs.Atoms.{atom_among, spot_fits}
use Rattle.lx_cap_lists.specs.Kept.{all_nodes}
use Rattle.lx_cap_lists.specs.Walks.{from}
use Rattle.lx_cap_tables.proofs.AloneLemmas.{node_step}
use Rattle.lx_cap_lists.proofs.WalkLemmas.{begins}
use Rattle.lx_cap_tables.proofs.gather.add_list.Goals as goal

pub loop-node-init : goal.loop-node-init
loop-node-init g c =
    let es = nodes_at c.args.pool.now.owners c.args.list in
    let start = begins es c.first-node.result (c.laws.ensures.apart family.Owner c.args.list) c.first-node.ensures.first in
    record {
      come = start.1;
      fit = ap (all_nodes (λ e. spot_fits e.spot)) start.0 ∙ c.requires.fit;
      rest = λ x. ap (λ r. g.G.Gather.has c.args.out.now x || (g.G.Gather.of_kind x && atom_among c.args.who r x)) start.0;
    }

pub add-requires : goal.add-requires
add-requires g c =
    let es = nodes_at c.args.pool.now.owners c.args.list in
    let e = c.visit-seen.result.entry in
    let rest = from c.visit-seen.result.next es in
    let step : from c.loop-node.node es ≡ (c.in-Some.n, e) ∷ rest = ap (λ o. from o es) c.in-Some.is ∙ c.visit-seen.ensures.entry in
    (and_parts (spot_fits e.spot) (all_nodes (λ x. spot_fits x.spot) rest) (ap (all_nodes (λ x. spot_fits x.spot)) (sym step) ∙ c.loop-node.invariant.fit)).0

pub loop-node-preserved : goal.loop-node-preserved
loop-node-preserved g c =
    let es = nodes_at c.args.pool.now.owners c.args.list in
    let old = c.loop-node.invariant in
    let e = c.visit-seen.result.entry in
    let rest = from c.visit-seen.result.next es in
    let step : from c.loop-node.node es ≡ (c.in-Some.n, e) ∷ rest = ap (λ o. from o es) c.in-Some.is ∙ c.visit-seen.ensures.entry in
    record {
      come = c.visit-seen.ensures.next;
      fit = (and_parts (spot_fits e.spot) (all_nodes (λ x. spot_fits x.spot) rest) (ap (all_nodes (λ x. spot_fits x.spot)) (sym step) ∙ old.fit)).1;
      rest = λ x.
          node_step c.args.who e c.in-Some.n rest x (g.G.Gather.has c.loop-node.out x) _ (g.G.Gather.of_kind x) (c.in_ok-add.ensures x)
          ∙ (ap (λ r. g.G.Gather.has c.loop-node.out x || (g.G.Gather.of_kind x && atom_among c.args.who r x)) (sym step) ∙ old.rest x);
    }
