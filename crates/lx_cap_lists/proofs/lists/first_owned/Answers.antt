use Rattle.std.proofs.Common.{◌≡◌, ◌||◌, ◌&&◌, false, ◌∷◌, refl, sym, ap, ◌∙◌}
use Rattle.std.proofs.lemmas.Bool.{and_parts}
use Rattle.lx_cap_nodes.specs.declared.pool.Family.TheVariants as family
use Rattle.lx_cap_nodes.specs.Words.{nodes_at}
use Rattle.lx_cap_lists.specs.Walks.{from}
use Rattle.lx_cap_lists.proofs.WalkLemmas.{begins}
use Rattle.lx_caps.specs.Order.{is_behind}
use Rattle.lx_cap_lists.specs.Atoms.{atom_among, gives_atom, spot_fits}
use Rattle.lx_cap_lists.specs.Kept.{all_nodes}
use Rattle.lx_cap_lists.proofs.lists.first_owned.Goals as goal
use Rattle.lx_caps.proofs.Tests.{sooner_step}

pub loop-node-init : goal.loop-node-init
loop-node-init c =
    let es = nodes_at c.args.pool.now.owners c.args.list in
    let start = begins es c.first-node.result (c.laws.ensures.apart family.Owner c.args.list) c.first-node.ensures.first in
    record {
      come = start.1;
      fit = ap (all_nodes (λ e. spot_fits e.spot)) start.0 ∙ c.requires.fit;
      so_far = λ x. false;
      first = λ x. refl;
      rest = λ x. ap (λ r. is_behind c.args.after x && atom_among c.args.who r x) start.0;
    }

pub atom_by-requires : goal.atom_by-requires
atom_by-requires c =
    let es = nodes_at c.args.pool.now.owners c.args.list in
    let e = c.visit-seen.result.entry in
    let rest = from c.visit-seen.result.next es in
    let step : from c.loop-node.node es ≡ (c.in-Some.n, e) ∷ rest = ap (λ o. from o es) c.in-Some.is ∙ c.visit-seen.ensures.entry in
    (and_parts (spot_fits e.spot) (all_nodes (λ x. spot_fits x.spot) rest) (ap (all_nodes (λ x. spot_fits x.spot)) (sym step) ∙ c.loop-node.invariant.fit)).0

pub loop-node-preserved : goal.loop-node-preserved
loop-node-preserved c =
    let es = nodes_at c.args.pool.now.owners c.args.list in
    let old = c.loop-node.invariant in
    let e = c.visit-seen.result.entry in
    let rest = from c.visit-seen.result.next es in
    let after = c.args.after in
    let step : from c.loop-node.node es ≡ (c.in-Some.n, e) ∷ rest = ap (λ o. from o es) c.in-Some.is ∙ c.visit-seen.ensures.entry in
    record {
      come = c.visit-seen.ensures.next;
      fit = (and_parts (spot_fits e.spot) (all_nodes (λ x. spot_fits x.spot) rest) (ap (all_nodes (λ x. spot_fits x.spot)) (sym step) ∙ old.fit)).1;
      so_far = λ x. old.so_far x || (is_behind after x && gives_atom c.args.who x e);
      first = c.sooner-first.ensures old.so_far (λ x. is_behind after x && gives_atom c.args.who x e) old.first c.atom_by.ensures;
      rest = λ x.
          sooner_step (old.so_far x) (is_behind after x) (gives_atom c.args.who x e) (atom_among c.args.who rest x)
          ∙ (ap (λ r. old.so_far x || (is_behind after x && atom_among c.args.who r x)) (sym step) ∙ old.rest x);
    }
