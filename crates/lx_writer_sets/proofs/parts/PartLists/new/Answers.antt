use Rattle.std.proofs.Common.{◌≡◌, length, ap, arith}
use Rattle.lx_writer_sets.proofs.IndexLemmas.{indexed_none}
use Rattle.lx_writer_sets.proofs.NodeLemmas.{marked_none, nodes_none}
use Rattle.lx_writer_sets.proofs.parts.PartLists.new.Goals as goal

pub invariant_of-result : goal.invariant_of-result
invariant_of-result c =
    let words : length c.new-3.result.items ≡ 0 = ap length c.new-3.ensures.items in
    record {
      counted = ap length c.new.ensures.places;
      few = omega arith;
      few_words = omega (arith, words);
      owned = λ some. absurd (omega (arith, some));
      marked = marked_none c.new-3.result.items c.new.result.places c.new-3.ensures.items c.new.ensures.places;
      nodes = nodes_none c.new.result.places c.new.ensures.places;
      indexed = indexed_none c.new-2.result.entries c.new.result.places c.new-2.ensures.empty c.new.ensures.places;
    }
