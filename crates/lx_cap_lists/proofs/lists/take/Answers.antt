use Rattle.std.proofs.Common.{◌≡◌, ◌+◌, ℕ, [], ◌∷◌, ◌++◌, length, refl, sym, ap, ◌∙◌, arith, append_assoc}
use Rattle.lx_cap_nodes.specs.declared.pool.Family.TheVariants as family
use Rattle.lx_cap_nodes.specs.Words.{nodes_at}
use Rattle.lx_cap_lists.specs.declared.entry.Entry.{Entry}
use Rattle.lx_cap_lists.specs.Entries.{cut_node, cut_all}
use Rattle.lx_cap_lists.specs.Walks.{from}
use Rattle.lx_cap_lists.proofs.WalkLemmas.{begins, comes_to}
use Rattle.lx_cap_lists.proofs.BitLemmas.{cut_node_is, cut_all_more}
use Rattle.lx_cap_lists.proofs.lists.take.Goals as goal

pub loop-node-init : goal.loop-node-init
loop-node-init g c =
    let es = nodes_at c.args.pool.now.places c.args.place in
    let start = begins es c.first-node.result (c.laws.ensures.apart family.Place c.args.place) c.first-node.ensures.first in
    record {
      come = start.1;
      front = [];
      whole = sym start.0;
      left = sym start.0;
      others = λ k ne. refl;
      counts = (refl, refl);
      spare = omega arith;
      kept = λ p r all. all;
      cost = ap (λ r. c.args.steps.now + length r) start.0;
    }

pub cut-requires : goal.cut-requires
cut-requires g c =
    let es = nodes_at c.loop-node.pool.places c.args.place in
    let step = ap (λ o. from o es) c.in-Some.is ∙ c.visit-seen.ensures.entry in
    record {
      front = cut_all c.args.bits c.loop-node.invariant.front;
      v = c.visit-seen.result.entry;
      behind = from c.visit-seen.result.next es;
      is = c.loop-node.invariant.left ∙ ap (λ r. cut_all c.args.bits c.loop-node.invariant.front ++ r) step;
      such = tt;
    }

pub loop-node-smaller : goal.loop-node-smaller
loop-node-smaller g c =
    let old = c.loop-node.invariant in
    let es = nodes_at c.loop-node.pool.places c.args.place in
    let now = nodes_at c.cut.new.pool.places c.args.place in
    let bits = c.args.bits in
    let e : ℕ × Entry = (c.in-Some.n, c.visit-seen.result.entry) in
    let ys = from c.visit-seen.result.next es in
    let xs = cut_all bits old.front in
    let step : from c.loop-node.node es ≡ e ∷ ys = ap (λ o. from o es) c.in-Some.is ∙ c.visit-seen.ensures.entry in
    let split : es ≡ xs ++ e ∷ ys = old.left ∙ ap (λ r. xs ++ r) step in
    let here : now ≡ xs ++ cut_node bits e ys = c.cut.ensures.here xs ys c.visit-seen.result.entry split in
    let whole : now ≡ (xs ++ cut_node bits e []) ++ ys = here ∙ (ap (λ r. xs ++ r) (cut_node_is bits e ys) ∙ sym (append_assoc xs (cut_node bits e []) ys)) in
    let come = comes_to (xs ++ cut_node bits e []) ys now c.visit-seen.result.next whole (c.laws-in-Some.ensures.apart family.Place c.args.place) c.visit-seen.ensures.next.here in
    let a = ap length come.0 in
    let b = ap length step in
    omega (arith, a, b)

pub loop-node-preserved : goal.loop-node-preserved
loop-node-preserved g c =
    let old = c.loop-node.invariant in
    let es = nodes_at c.loop-node.pool.places c.args.place in
    let now = nodes_at c.cut.new.pool.places c.args.place in
    let bits = c.args.bits in
    let e : ℕ × Entry = (c.in-Some.n, c.visit-seen.result.entry) in
    let ys = from c.visit-seen.result.next es in
    let xs = cut_all bits old.front in
    let step : from c.loop-node.node es ≡ e ∷ ys = ap (λ o. from o es) c.in-Some.is ∙ c.visit-seen.ensures.entry in
    let split : es ≡ xs ++ e ∷ ys = old.left ∙ ap (λ r. xs ++ r) step in
    let here : now ≡ xs ++ cut_node bits e ys = c.cut.ensures.here xs ys c.visit-seen.result.entry split in
    let whole : now ≡ (xs ++ cut_node bits e []) ++ ys = here ∙ (ap (λ r. xs ++ r) (cut_node_is bits e ys) ∙ sym (append_assoc xs (cut_node bits e []) ys)) in
    let come = comes_to (xs ++ cut_node bits e []) ys now c.visit-seen.result.next whole (c.laws-in-Some.ensures.apart family.Place c.args.place) c.visit-seen.ensures.next.here in
    record {
      come = come.1;
      front = old.front ++ e ∷ [];
      whole = old.whole ∙ (ap (λ r. old.front ++ r) step ∙ (sym (append_assoc old.front (e ∷ []) ys) ∙ ap (λ r. (old.front ++ e ∷ []) ++ r) (sym come.0)));
      left = whole ∙ (ap (λ r. r ++ ys) (sym (cut_all_more bits old.front e)) ∙ ap (λ r. cut_all bits (old.front ++ e ∷ []) ++ r) (sym come.0));
      others = λ k ne. c.cut.ensures.others k ne ∙ old.others k ne;
      counts = (c.cut.ensures.counts.0 ∙ old.counts.0, c.cut.ensures.counts.1 ∙ old.counts.1);
      spare = let a = c.cut.ensures.spare in let b = old.spare in omega (arith, a, b);
      kept = λ p r all. c.cut.ensures.kept p r (old.kept p r all);
      cost = let a = ap length come.0 in let b = ap length step in let d = old.cost in let t = c.tick.ensures in omega (arith, a, b, d, t);
    }
