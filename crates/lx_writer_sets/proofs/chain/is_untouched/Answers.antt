use Rattle.std.proofs.Common.{◌≡◌, ◌∷◌, ◌+◌, length, false, true, sym, ap, ◌∙◌, arith}
use Rattle.lx_caps.specs.History.{same_principal}
use Rattle.lx_cap_nodes.specs.declared.pool.Family.TheVariants.{Place}
use Rattle.lx_cap_nodes.specs.Words.{nodes_at}
use Rattle.lx_writer_sets.specs.Sets.{touches, writes_in}
use Rattle.lx_writer_sets.specs.Walks.{from}
use Rattle.lx_writer_sets.proofs.WalkLemmas.{begins}
use Rattle.lx_writer_sets.proofs.GivenLemmas.{by_writer}
use Rattle.lx_writer_sets.proofs.chain.is_untouched.Goals as goal
use Rattle.lx_caps.proofs.Tests.{or_none}
use Rattle.lx_caps.proofs.Principals.{same_principal_itself}

pub loop-node-init : goal.loop-node-init
loop-node-init g c =
    let es = nodes_at c.args.pool.now.places c.args.list in
    let start = begins es c.first-node.result (c.laws.ensures.apart Place c.args.list) c.first-node.ensures.first in
    record { come = start.1; rest = λ q. ap (λ r. writes_in c.args.at.part r c.args.at.slot q) start.0; cost = ap (λ r. c.args.steps.now + length r) start.0 }

pub loop-node-preserved : goal.loop-node-preserved
loop-node-preserved g c =
    let es = nodes_at c.args.pool.now.places c.args.list in
    let old = c.loop-node.invariant in
    let e = c.visit-seen.result.entry in
    let rest = from c.visit-seen.result.next es in
    let step : from c.loop-node.node es ≡ (c.in-Some.n, e) ∷ rest = ap (λ o. from o es) c.in-Some.is ∙ c.visit-seen.ensures.entry in
    let out : touches c.args.at.part e c.args.at.slot ≡ false = sym c.touches.ensures ∙ c.if-touches.false in
    record {
      come = c.visit-seen.ensures.next;
      rest = λ q. or_none (same_principal q e.writer) (touches c.args.at.part e c.args.at.slot) (writes_in c.args.at.part rest c.args.at.slot q) out
          ∙ (ap (λ r. writes_in c.args.at.part r c.args.at.slot q) (sym step) ∙ old.rest q);
      cost = let a = ap length step in let b = old.cost in let t = c.tick.ensures in omega (arith, a, b, t);
    }

pub returns-then-touches-clause-nobody : goal.returns-then-touches-clause-nobody
returns-then-touches-clause-nobody g c =
    let es = nodes_at c.args.pool.now.places c.args.list in
    let e = c.visit-seen.result.entry in
    let rest = from c.visit-seen.result.next es in
    let step : from c.loop-node.node es ≡ (c.in-Some.n, e) ∷ rest = ap (λ o. from o es) c.in-Some.is ∙ c.visit-seen.ensures.entry in
    let here : touches c.args.at.part e c.args.at.slot ≡ true = sym c.touches.ensures ∙ c.if-touches.true in (
      e.writer,
      sym (c.loop-node.invariant.rest e.writer)
          ∙ (ap (λ r. writes_in c.args.at.part r c.args.at.slot e.writer) step ∙ by_writer (same_principal e.writer e.writer) (touches c.args.at.part e c.args.at.slot) (writes_in c.args.at.part rest c.args.at.slot e.writer) (same_principal_itself e.writer) here),
    )

pub returns-then-touches-clause-cost : goal.returns-then-touches-clause-cost
returns-then-touches-clause-cost g c =
    let es = nodes_at c.args.pool.now.places c.args.list in
    let step : from c.loop-node.node es ≡ (c.in-Some.n, c.visit-seen.result.entry) ∷ from c.visit-seen.result.next es = ap (λ o. from o es) c.in-Some.is ∙ c.visit-seen.ensures.entry in
    let a = ap length step in
    let b = c.loop-node.invariant.cost in
    let t = c.tick.ensures in
    omega (arith, a, b, t)
