use Rattle.std.proofs.Common.{◌≡◌, ◌≢◌, ◌<◌, ◌+◌, ◌/◌, ◌%◌, ℕ, Some, ◌∙◌, arith}
use Rattle.lx_cap_nodes.specs.Words.{nodes_at}
use Rattle.lx_cap_lists.specs.Entries.{bit_among}
use Rattle.lx_cap_lists.specs.Tables.{count_in}
use Rattle.lx_cap_nodes.specs.Pieces.{part_list}
use Rattle.lx_cap_lists.proofs.PartLemmas.{taken_more, work_more, same_count}
use Rattle.lx_cap_nodes.proofs.PartLists.{list_below, not_there}
use Rattle.lx_cap_lists.proofs.parts.take_range.Goals as goal

pub loop-part-preserved : goal.loop-part-preserved
loop-part-preserved g c =
    let old = c.loop-part.invariant in
    let part = c.loop-part.part in
    let at = c.args.at in
    let size = c.args.size in
    let first = c.args.pool.now.places in
    let now = c.loop-part.pool.places in
    let lt : part < (at + size + 63) / 64 = omega arith in
    let elsewhere : (k : ℕ) → part_list part ≢ Some k → nodes_at c.take_part.new.pool.places k ≡ nodes_at now k = c.take_part.ensures.others in
    let same : count_in now (part_list part) ≡ count_in first (part_list part) = same_count first now part (λ k is. old.later part k (omega arith) is) in
    record {
      low = let a = old.low in omega (arith, a);
      high = omega arith;
      bytes = λ b k is among.
          taken_more (bit_among among (nodes_at first k) (b % 64)) (bit_among among (nodes_at now k) (b % 64)) (bit_among among (nodes_at c.take_part.new.pool.places k) (b % 64)) at size part b
          (old.bytes b k is among) (c.take_part.ensures.bytes b k is among);
      others = λ k far. elsewhere k (λ is. absurd (let h = list_below part k is in omega (arith, h, far))) ∙ old.others k far;
      later = λ p k le is. elsewhere k (not_there part p k (λ e. omega (arith, e, le)) is) ∙ old.later p k (omega (arith, le)) is;
      counts = (c.take_part.ensures.counts.0 ∙ old.counts.0, c.take_part.ensures.counts.1 ∙ old.counts.1);
      spare = let a = c.take_part.ensures.spare in let b = old.spare in omega (arith, a, b);
      nodes = λ all. c.take_part.ensures.nodes (old.nodes all);
      kept = λ p r all. c.take_part.ensures.kept p r (old.kept p r all);
      cost =
          let a = c.take_part.ensures.cost in
          let b = old.cost in
          let w = work_more first part ((at + size + 63) / 64) lt in
          omega (arith, a, b, w, same);
    }
