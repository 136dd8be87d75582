use Rattle.std.proofs.Common.{refl}
use Rattle.lx_writer_sets.proofs.NodeLemmas.{marked_same}
use Rattle.lx_writer_sets.proofs.parts.PartLists.make_words.Goals as goal

pub invariant_of-self : goal.invariant_of-self
invariant_of-self c =
    let t = c.self.inside in
    let old = c.self.invariant in
    record {
      counted = old.counted;
      few = old.few;
      few_words = c.add_words.ensures.few old.few_words;
      owned = old.owned;
      marked = marked_same t.words.items c.add_words.new.words.items t.pool.places t.pool.places c.add_words.ensures.stays (λ l. refl) old.marked;
      nodes = old.nodes;
      indexed = old.indexed;
    }
