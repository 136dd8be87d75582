use Rattle.std.proofs.Common.{not, length, refl, sym, ap, ◌∙◌, arith}
use Rattle.std.proofs.lemmas.Bool.{not-true}
use Rattle.lx_cap_nodes.specs.Words.{nodes_at}
use Rattle.lx_cap_lists.specs.Kept.{all_nodes}
use Rattle.lx_cap_lists.proofs.TakenLemmas.{none_left, none_of, all_rest}
use Rattle.lx_cap_lists.proofs.lists.take_all.Goals as goal

pub loop-node-init : goal.loop-node-init
loop-node-init g c = record {
  here = c.first-node.ensures.first;
  stays = λ among out. (out, λ k j. refl);
  other_owners = λ k ne. refl;
  empty = λ k none. none;
  counts = (refl, refl);
  spare = omega arith;
  nodes = λ all. all;
  kept = λ p all. all;
  cost = refl;
}

pub take_out-requires-clause-first : goal.take_out-requires-clause-first
take_out-requires-clause-first g c = sym c.loop-node.invariant.here ∙ c.in-Some.is

pub loop-node-smaller : goal.loop-node-smaller
loop-node-smaller g c = let n = ap length c.take_out.ensures.rest.1 in omega (arith, n)

pub loop-node-preserved : goal.loop-node-preserved
loop-node-preserved g c =
    let old = c.loop-node.invariant in
    let rest = c.take_out.ensures.rest in
    record {
      here = c.first-node-in-Some.ensures.first;
      stays = λ among out.
          let had = old.stays among out in
          let both = all_rest (λ e. not (among e.holder)) (c.in-Some.n, rest.0) (nodes_at c.take_out.new.pool.owners c.args.list) (ap (all_nodes (λ e. not (among e.holder))) (sym rest.1) ∙ had.0) in
          (both.1, λ k j. rest.2 among (not-true (among rest.0.holder) both.0) k j ∙ had.1 k j);
      other_owners = λ k ne. c.take_out.ensures.other_owners k ne ∙ old.other_owners k ne;
      empty = λ k none. c.take_out.ensures.empty k (old.empty k none);
      counts = (c.take_out.ensures.counts.0 ∙ old.counts.0, c.take_out.ensures.counts.1 ∙ old.counts.1);
      spare = let a = c.take_out.ensures.spare in let b = old.spare in omega (arith, a, b);
      nodes = λ all. c.take_out.ensures.nodes (old.nodes all);
      kept = λ p all. c.take_out.ensures.kept p (old.kept p all);
      cost = let a = ap length rest.1 in let b = old.cost in let t = c.tick.ensures in omega (arith, a, b, t);
    }

pub returns-clause-gone : goal.returns-clause-gone
returns-clause-gone g c = none_left (nodes_at c.loop-node.pool.owners c.args.list) (sym c.loop-node.invariant.here ∙ none_of c.loop-node.node c.in_default.not-Some)

pub returns-clause-stays : goal.returns-clause-stays
returns-clause-stays g c = λ among out. (c.loop-node.invariant.stays among out).1

pub returns-clause-cost : goal.returns-clause-cost
returns-clause-cost g c =
    let none = none_left (nodes_at c.loop-node.pool.owners c.args.list) (sym c.loop-node.invariant.here ∙ none_of c.loop-node.node c.in_default.not-Some) in
    let a = ap length none in
    let b = c.loop-node.invariant.cost in
    omega (arith, a, b)
