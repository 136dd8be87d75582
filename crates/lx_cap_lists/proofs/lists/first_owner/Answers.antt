use Rattle.std.proofs.Common.{◌≡◌, ◌||◌, ◌&&◌, false, ◌∷◌, refl, sym, ap, ◌∙◌}
use Rattle.lx_cap_nodes.specs.declared.pool.Family.TheVariants as family
use Rattle.lx_cap_nodes.specs.Words.{nodes_at}
use Rattle.lx_caps.specs.Precedence.{follows, is_found}
use Rattle.lx_cap_lists.specs.Entries.{bit_among, gives_bit}
use Rattle.lx_cap_lists.specs.Walks.{from}
use Rattle.lx_cap_lists.proofs.WalkLemmas.{begins}
use Rattle.lx_cap_lists.specs.Holders.{held_by}
use Rattle.lx_cap_lists.proofs.lists.first_owner.Goals as goal
use Rattle.lx_caps.proofs.Tests.{first_step}

pub loop-node-init : goal.loop-node-init
loop-node-init c =
    let es = nodes_at c.args.pool.now.places c.args.place in
    let start = begins es c.first-node.result (c.laws.ensures.apart family.Place c.args.place) c.first-node.ensures.first in
    record { come = start.1; so_far = λ q. false; first = λ q. refl; rest = λ q. ap (λ r. follows c.args.after q && bit_among (held_by q) r c.args.bit) start.0 }

pub loop-node-preserved : goal.loop-node-preserved
loop-node-preserved c =
    let es = nodes_at c.args.pool.now.places c.args.place in
    let old = c.loop-node.invariant in
    let e = c.visit-seen.result.entry in
    let rest = from c.visit-seen.result.next es in
    let step : from c.loop-node.node es ≡ (c.in-Some.n, e) ∷ rest = ap (λ o. from o es) c.in-Some.is ∙ c.visit-seen.ensures.entry in
    record {
      come = c.visit-seen.ensures.next;
      so_far = λ q. old.so_far q || is_found c.owner_by.result q;
      first = c.earlier-first.ensures old.so_far old.first;
      rest = λ q.
          first_step (old.so_far q) (follows c.args.after q) (is_found c.owner_by.result q) (gives_bit (held_by q) c.args.bit e) (bit_among (held_by q) rest c.args.bit) (c.owner_by.ensures q)
          ∙ (ap (λ r. old.so_far q || (follows c.args.after q && bit_among (held_by q) r c.args.bit)) (sym step) ∙ old.rest q);
    }
