use Rattle.std.proofs.Common.{◌≡◌, ◌<◌, ◌/◌, ◌&&◌, ◌||◌, nat_eq, nat_le, nat_lt, true, Some, sym, ◌∙◌, subst, arith}
use Rattle.std.proofs.lemmas.Bool.Decides.{nat_tests}
use Rattle.lx_caps.specs.History.{same_principal}
use Rattle.lx_caps.specs.Regions.{covers}
use Rattle.lx_writer_sets.specs.Nodes.{Parts}
use Rattle.lx_writer_sets.specs.Sets.{is_recorded}
use Rattle.lx_cap_nodes.specs.Pieces.{part_list}
use Rattle.lx_writer_sets.proofs.NodeLemmas.{marked_more}
use Rattle.lx_writer_sets.proofs.PartLemmas.{noted_part}
use Rattle.lx_writer_sets.proofs.parts.PartLists.note_part.Goals as goal

pub add-requires-clause-bit : goal.add-requires-clause-bit
add-requires-clause-bit c =
    let piece = c.piece_of.result in
    let from = c.piece_of.ensures.from in
    let to = c.piece_of.ensures.to in
    let below : piece.from < 64 = omega (arith, from, to) in
    let yes : (nat_le piece.from piece.from && nat_lt piece.from piece.to) ≡ true = grind (arith, nat_tests, from) in
    record { bit = piece.from; within = below; set = c.piece_bits.ensures piece.from below ∙ yes }

pub invariant_of-self : goal.invariant_of-self
invariant_of-self c =
    let t = c.self.inside in
    let old = c.self.invariant in
    let add = c.add.ensures in
    record {
      counted = add.counts.0 ∙ old.counted;
      few = old.few;
      few_words = let a = c.mark.ensures.count in let b = old.few_words in omega (arith, a, b);
      owned = λ some. let a = old.owned some in let b = add.counts.1 in omega (arith, a, b);
      marked = marked_more t.words.items c.mark.new.words.items t.pool.places c.add.new.pool.places c.in-Some.list c.mark.ensures.bits add.some add.others old.marked;
      nodes = add.nodes old.nodes;
      indexed = add.indexed;
    }

pub returns-in-Some-clause-records : goal.returns-in-Some-clause-records
returns-in-Some-clause-records c b q =
    let place : part_list c.args.part ≡ Some c.in-Some.list = sym c.list_of_part.ensures ∙ c.in-Some.is in
    subst (λ (p : Parts). is_recorded c.add.new.pool.places b q ≡ ((same_principal q c.args.who && (covers c.args.at c.args.size b && nat_eq c.args.part (b / 64))) || is_recorded p.lists b q)) c.self.view_is
    (noted_part c.self.inside.pool.places c.add.new.pool.places c.args.part c.in-Some.list c.args.at c.args.size c.piece_bits.result c.piece_of.result c.args.who place c.piece_of.ensures.of_the_part
    c.piece_of.ensures.bytes c.piece_bits.ensures c.add.ensures.here c.add.ensures.others b q)
