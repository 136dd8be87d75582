use Rattle.std.proofs.Common.{rules, ◌≡◌, ◌&&◌, ◌∷◌, None, sym, ap, ◌∙◌}
use Rattle.lx_words.proofs.Tests.{and_false}
use Rattle.lx_caps.specs.Precedence.{is_found}
use Rattle.lx_caps.specs.History.{same_principal}
use Rattle.lx_cap_nodes.specs.declared.pool.Family.TheVariants.{Place}
use Rattle.lx_cap_nodes.specs.Words.{nodes_at}
use Rattle.lx_writer_sets.specs.Sets.{touches, writes_in}
use Rattle.lx_writer_sets.specs.Walks.{from}
use Rattle.lx_writer_sets.proofs.SomeLemmas.{none_found, some_here, some_rest}
use Rattle.lx_writer_sets.proofs.WalkLemmas.{begins}
use Rattle.lx_writer_sets.proofs.chain.some_writer.Goals as goal
use Rattle.lx_caps.proofs.Principals.{same_principal_itself}

pub loop-node-init : goal.loop-node-init
loop-node-init g c =
    let es = nodes_at c.args.pool.now.places c.args.list in
    let start = begins es c.first-node.result (c.laws.ensures.apart Place c.args.list) c.first-node.ensures.first in
    record { come = start.1; rest = λ t tells q. ap (λ r. t q && writes_in c.args.at.part r c.args.at.slot q) start.0 }

pub loop-node-preserved : goal.loop-node-preserved
loop-node-preserved g c =
    let es = nodes_at c.args.pool.now.places c.args.list in
    let old = c.loop-node.invariant in
    let e = c.visit-seen.result.entry in
    let rest = from c.visit-seen.result.next es in
    let step : from c.loop-node.node es ≡ (c.in-Some.n, e) ∷ rest = ap (λ o. from o es) c.in-Some.is ∙ c.visit-seen.ensures.entry in
    record {
      come = c.visit-seen.ensures.next;
      rest = λ t tells q.
          some_rest (t q) (same_principal q e.writer && touches c.args.at.part e c.args.at.slot) (writes_in c.args.at.part rest c.args.at.slot q)
          (c.writer_by.ensures t tells q ∙ ap (λ o. is_found o q) (none_found c.writer_by.result c.in_default-writer_by.not-Some))
          ∙ (ap (λ r. t q && writes_in c.args.at.part r c.args.at.slot q) (sym step) ∙ old.rest t tells q);
    }

pub returns-in-Some-writer_by : goal.returns-in-Some-writer_by
returns-in-Some-writer_by g c t tells =
    let es = nodes_at c.args.pool.now.places c.args.list in
    let e = c.visit-seen.result.entry in
    let w = c.in-Some-writer_by.writer in
    let rest = from c.visit-seen.result.next es in
    let step : from c.loop-node.node es ≡ (c.in-Some.n, e) ∷ rest = ap (λ o. from o es) c.in-Some.is ∙ c.visit-seen.ensures.entry in
    sym (c.loop-node.invariant.rest t tells w)
    ∙ (ap (λ r. t w && writes_in c.args.at.part r c.args.at.slot w) step
    ∙ some_here (t w) (same_principal w e.writer && touches c.args.at.part e c.args.at.slot) (writes_in c.args.at.part rest c.args.at.slot w)
    (c.writer_by.ensures t tells w ∙ (ap (λ o. is_found o w) c.in-Some-writer_by.is ∙ same_principal_itself w)))

pub returns : goal.returns
returns g c t tells =
    let es = nodes_at c.args.pool.now.places c.args.list in
    let none : c.loop-node.node ≡ None = search rules in
    λ q. sym (c.loop-node.invariant.rest t tells q) ∙ (ap (λ o. t q && writes_in c.args.at.part (from o es) c.args.at.slot q) none ∙ and_false (t q))
