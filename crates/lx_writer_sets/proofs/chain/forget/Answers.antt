use Rattle.std.proofs.Common.{◌≡◌, ◌+◌, ◌*◌, ℕ, not, ◌&&◌, nat_le, nat_lt, [], ◌∷◌, ◌++◌, length, refl, sym, ap, ◌∙◌, arith, append_assoc}
use Rattle.lx_caps.specs.declared.Atom.TheVariants.{Byte}
use Rattle.lx_caps.specs.History.{owns}
use Rattle.lx_cap_nodes.specs.declared.pool.Family.TheVariants.{Place}
use Rattle.lx_cap_nodes.specs.Words.{nodes_at}
use Rattle.lx_writer_sets.specs.declared.entry.Entry.{Entry}
use Rattle.lx_writer_sets.specs.Nodes.{put_node}
use Rattle.lx_writer_sets.specs.Walks.{from}
use Rattle.lx_writer_sets.proofs.WalkLemmas.{begins, comes_to}
use Rattle.lx_writer_sets.proofs.GivenLemmas.{kept_more, put_node_is}
use Rattle.lx_writer_sets.proofs.chain.forget.Goals as goal

pub loop-node-init : goal.loop-node-init
loop-node-init g c =
    let es = nodes_at c.args.pool.now.places c.args.list in
    let start = begins es c.first-node.result (c.laws.ensures.apart Place c.args.list) c.first-node.ensures.first in
    record {
      come = start.1;
      was = [];
      left = [];
      whole = sym start.0;
      now = sym start.0;
      given = λ h stands k below q. refl;
      others = λ k ne. refl;
      counts = (refl, refl);
      spare = omega arith;
      keys = omega arith;
      nodes = λ all. all;
      indexed = λ nodes all. all;
    }

pub keep_indexed-requires : goal.keep_indexed-requires
keep_indexed-requires g c =
    let es = nodes_at c.loop-node.pool.places c.args.list in
    let step = ap (λ o. from o es) c.in-Some.is ∙ c.visit-seen.ensures.entry in
    record {
      front = c.loop-node.invariant.left;
      v = c.visit-seen.result.entry;
      behind = from c.visit-seen.result.next es;
      is = c.loop-node.invariant.now ∙ ap (λ r. c.loop-node.invariant.left ++ r) step;
      such = tt;
    }

pub loop-node-smaller : goal.loop-node-smaller
loop-node-smaller g c =
    let old = c.loop-node.invariant in
    let es = nodes_at c.loop-node.pool.places c.args.list in
    let now = nodes_at c.keep_indexed.new.pool.places c.args.list in
    let mask = c.kept_mask-mask.result in
    let e : ℕ × Entry = (c.in-Some.n, c.visit-seen.result.entry) in
    let ys = from c.visit-seen.result.next es in
    let step : from c.loop-node.node es ≡ e ∷ ys = ap (λ o. from o es) c.in-Some.is ∙ c.visit-seen.ensures.entry in
    let split : es ≡ old.left ++ e ∷ ys = old.now ∙ ap (λ r. old.left ++ r) step in
    let here : now ≡ old.left ++ put_node mask e ys = c.keep_indexed.ensures.here old.left ys c.visit-seen.result.entry split in
    let whole : now ≡ (old.left ++ put_node mask e []) ++ ys = here ∙ (ap (λ r. old.left ++ r) (put_node_is mask e ys) ∙ sym (append_assoc old.left (put_node mask e []) ys)) in
    let come = comes_to (old.left ++ put_node mask e []) ys now c.visit-seen.result.next whole (c.laws-in-Some.ensures.apart Place c.args.list) c.visit-seen.ensures.next.here in
    let a = ap length come.0 in
    let b = ap length step in
    omega (arith, a, b)

pub loop-node-preserved : goal.loop-node-preserved
loop-node-preserved g c =
    let old = c.loop-node.invariant in
    let es = nodes_at c.loop-node.pool.places c.args.list in
    let now = nodes_at c.keep_indexed.new.pool.places c.args.list in
    let mask = c.kept_mask-mask.result in
    let e : ℕ × Entry = (c.in-Some.n, c.visit-seen.result.entry) in
    let ys = from c.visit-seen.result.next es in
    let step : from c.loop-node.node es ≡ e ∷ ys = ap (λ o. from o es) c.in-Some.is ∙ c.visit-seen.ensures.entry in
    let split : es ≡ old.left ++ e ∷ ys = old.now ∙ ap (λ r. old.left ++ r) step in
    let here : now ≡ old.left ++ put_node mask e ys = c.keep_indexed.ensures.here old.left ys c.visit-seen.result.entry split in
    let whole : now ≡ (old.left ++ put_node mask e []) ++ ys = here ∙ (ap (λ r. old.left ++ r) (put_node_is mask e ys) ∙ sym (append_assoc old.left (put_node mask e []) ys)) in
    let come = comes_to (old.left ++ put_node mask e []) ys now c.visit-seen.result.next whole (c.laws-in-Some.ensures.apart Place c.args.list) c.visit-seen.ensures.next.here in
    record {
      come = come.1;
      was = old.was ++ e ∷ [];
      left = old.left ++ put_node mask e [];
      whole = old.whole ∙ (ap (λ r. old.was ++ r) step ∙ (sym (append_assoc old.was (e ∷ []) ys) ∙ ap (λ r. (old.was ++ e ∷ []) ++ r) (sym come.0)));
      now = whole ∙ ap (λ r. (old.left ++ put_node mask e []) ++ r) (sym come.0);
      given = λ h stands k below q.
          kept_more old.was old.left e mask k q (not (nat_le c.args.piece.from k && nat_lt k c.args.piece.to)) (λ w. owns h w (Byte (c.args.piece.part * 64 + k)))
          (c.kept_mask-mask.ensures h stands k below) (old.given h stands k below q);
      others = λ k ne. c.keep_indexed.ensures.others k ne ∙ old.others k ne;
      counts = (c.keep_indexed.ensures.counts.0 ∙ old.counts.0, c.keep_indexed.ensures.counts.1 ∙ old.counts.1);
      spare = let a = c.keep_indexed.ensures.spare in let b = old.spare in omega (arith, a, b);
      keys = let a = c.keep_indexed.ensures.keys in let b = old.keys in omega (arith, a, b);
      nodes = λ all. c.keep_indexed.ensures.nodes (old.nodes all);
      indexed = λ nodes all. c.keep_indexed.ensures.indexed (old.nodes nodes) (old.indexed nodes all);
    }
