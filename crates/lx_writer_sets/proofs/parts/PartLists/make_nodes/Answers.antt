use Rattle.std.proofs.Common.{refl, length, ap, ◌∙◌, sym, subst, ◌<◌}
use Rattle.lx_cap_nodes.specs.Words.{nodes_at}
use Rattle.lx_writer_sets.specs.Index.{AreIndexed}
use Rattle.lx_writer_sets.proofs.IndexLemmas.{indexed_stays}
use Rattle.lx_writer_sets.proofs.NodeLemmas.{marked_same, nodes_same}
use Rattle.lx_writer_sets.proofs.parts.PartLists.make_nodes.Goals as goal

pub invariant_of-self : goal.invariant_of-self
invariant_of-self c =
    let t = c.self.inside in
    let old = c.self.invariant in
    let same = c.make_room.ensures.places in
    record {
      counted = ap length same ∙ old.counted;
      few = old.few;
      few_words = old.few_words;
      owned = λ some. subst (λ o. 0 < length o) (sym c.make_room.ensures.owners) (old.owned some);
      marked = marked_same t.words.items t.words.items t.pool.places c.make_room.new.pool.places (λ n. refl) (λ l. ap (λ ls. nodes_at ls l) same) old.marked;
      nodes = nodes_same t.pool.places c.make_room.new.pool.places (λ l. ap (λ ls. nodes_at ls l) same) old.nodes;
      indexed = subst (λ es. AreIndexed es c.make_room.new.pool.places) (sym c.make_room.ensures.entries)
          (indexed_stays t.table.entries t.pool.places c.make_room.new.pool.places (λ l. ap (λ ls. nodes_at ls l) same) old.indexed);
    }
