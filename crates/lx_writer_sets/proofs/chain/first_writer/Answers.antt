use Rattle.std.proofs.Common.{rules, ◌≡◌, ◌||◌, ◌&&◌, ◌∷◌, None, sym, ap, ◌∙◌}
use Rattle.lx_caps.specs.Precedence.{is_found}
use Rattle.lx_caps.specs.History.{same_principal}
use Rattle.lx_cap_nodes.specs.declared.pool.Family.TheVariants.{Place}
use Rattle.lx_cap_nodes.specs.Words.{nodes_at}
use Rattle.lx_writer_sets.specs.Sets.{touches, writes_in}
use Rattle.lx_writer_sets.specs.Walks.{from}
use Rattle.lx_writer_sets.proofs.WalkLemmas.{begins}
use Rattle.lx_writer_sets.proofs.GivenLemmas.{so_far_all}
use Rattle.lx_writer_sets.proofs.chain.first_writer.Goals as goal
use Rattle.lx_caps.proofs.PrincipalOrder.{same_first}
use Rattle.lx_caps.proofs.Tests.{first_step}

pub loop-node-init : goal.loop-node-init
loop-node-init g c =
    let es = nodes_at c.args.pool.now.places c.args.list in
    let start = begins es c.first-node.result (c.laws.ensures.apart Place c.args.list) c.first-node.ensures.first in
    record { come = start.1; so_far = λ t p. p; first = λ t tells p is. is; rest = λ t tells p q. ap (λ r. p q || (t q && writes_in c.args.at.part r c.args.at.slot q)) start.0 }

pub loop-node-preserved : goal.loop-node-preserved
loop-node-preserved g c =
    let es = nodes_at c.args.pool.now.places c.args.list in
    let old = c.loop-node.invariant in
    let e = c.visit-seen.result.entry in
    let rest = from c.visit-seen.result.next es in
    let step : from c.loop-node.node es ≡ (c.in-Some.n, e) ∷ rest = ap (λ o. from o es) c.in-Some.is ∙ c.visit-seen.ensures.entry in
    record {
      come = c.visit-seen.ensures.next;
      so_far = λ t p q. old.so_far t p q || is_found c.writer_by.result q;
      first = λ t tells p is. c.earlier-first.ensures (old.so_far t p) (old.first t tells p is);
      rest = λ t tells p q.
          first_step (old.so_far t p q) (t q) (is_found c.writer_by.result q) (same_principal q e.writer && touches c.args.at.part e c.args.at.slot) (writes_in c.args.at.part rest c.args.at.slot q) (c.writer_by.ensures t tells q)
          ∙ (ap (λ r. old.so_far t p q || (t q && writes_in c.args.at.part r c.args.at.slot q)) (sym step) ∙ old.rest t tells p q);
    }

pub returns : goal.returns
returns g c t tells p is =
    let es = nodes_at c.args.pool.now.places c.args.list in
    let old = c.loop-node.invariant in
    let none : c.loop-node.node ≡ None = search rules in
    same_first (old.so_far t p) (λ q. p q || (t q && writes_in c.args.at.part es c.args.at.slot q))
    (λ q.
    so_far_all (old.so_far t p q) (t q) (p q || (t q && writes_in c.args.at.part es c.args.at.slot q))
    (ap (λ o. old.so_far t p q || (t q && writes_in c.args.at.part (from o es) c.args.at.slot q)) (sym none) ∙ old.rest t tells p q))
    c.loop-node.first (old.first t tells p is)
