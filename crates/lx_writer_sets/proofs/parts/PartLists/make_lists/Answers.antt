use Rattle.std.proofs.Common.{refl}
use Rattle.lx_writer_sets.proofs.IndexLemmas.{indexed_stays}
use Rattle.lx_writer_sets.proofs.NodeLemmas.{marked_same, nodes_same}
use Rattle.lx_writer_sets.proofs.parts.PartLists.make_lists.Goals as goal

pub invariant_of-self : goal.invariant_of-self
invariant_of-self c =
    let t = c.self.inside in
    let old = c.self.invariant in
    let add = c.add_lists.ensures in
    record {
      counted = add.counted;
      few = add.few;
      few_words = old.few_words;
      owned = add.owned;
      marked = marked_same t.words.items t.words.items t.pool.places c.add_lists.new.pool.places (λ n. refl) add.lists old.marked;
      nodes = nodes_same t.pool.places c.add_lists.new.pool.places add.lists old.nodes;
      indexed = indexed_stays t.table.entries t.pool.places c.add_lists.new.pool.places add.lists old.indexed;
    }
