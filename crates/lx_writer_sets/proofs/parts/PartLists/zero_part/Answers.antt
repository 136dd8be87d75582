use Rattle.std.proofs.Common.{◌≡◌, ◌/◌, ◌&&◌, ◌||◌, not, nat_eq, true, ℕ, ◌∙◌, sym, subst, arith}
use Rattle.lx_caps.specs.declared.Principal.{Principal}
use Rattle.lx_caps.specs.declared.Atom.TheVariants.{Byte}
use Rattle.lx_caps.specs.History.{owns}
use Rattle.lx_caps.specs.Regions.{covers}
use Rattle.lx_cap_nodes.specs.Words.{nodes_at}
use Rattle.lx_writer_sets.specs.Nodes.{Parts, has_nodes}
use Rattle.lx_writer_sets.specs.Sets.{is_recorded}
use Rattle.lx_writer_sets.proofs.NodeLemmas.{marked_left}
use Rattle.lx_writer_sets.proofs.PartLemmas.{zeroed_part, zeroed_none}
use Rattle.lx_writer_sets.proofs.parts.PartLists.zero_part.Goals as goal

pub invariant_of-self : goal.invariant_of-self
invariant_of-self g c =
    let t = c.self.inside in
    let old = c.self.invariant in
    let forget = c.forget.ensures in
    let some : has_nodes (nodes_at t.pool.places c.in-Some.list) ≡ true = subst (λ (p : Parts). has_nodes (nodes_at p.lists c.in-Some.list) ≡ true) (sym c.self.view_is) c.in-Some.ensures.found.3 in
    record {
      counted = forget.counts.0 ∙ old.counted;
      few = old.few;
      few_words = let a = c.mark_anew.ensures.count in let b = old.few_words in omega (arith, a, b);
      owned = λ more. let a = old.owned more in let b = forget.counts.1 in omega (arith, a, b);
      marked = marked_left t.words.items c.mark_anew.new.words.items t.pool.places c.forget.new.pool.places c.in-Some.list c.mark_anew.ensures.bits some forget.others old.marked;
      nodes = forget.nodes old.nodes;
      indexed = forget.indexed old.nodes old.indexed;
    }

pub returns-in-Some-clause-records : goal.returns-in-Some-clause-records
returns-in-Some-clause-records g c h stands b q =
    subst (λ (p : Parts). is_recorded c.forget.new.pool.places b q ≡ (is_recorded p.lists b q && (not (covers c.args.at c.args.size b && nat_eq c.args.part (b / 64)) || owns h q (Byte b)))) c.self.view_is
    (zeroed_part c.self.inside.pool.places c.forget.new.pool.places c.args.part c.in-Some.list c.args.at c.args.size c.piece_of-piece.result (λ (n : ℕ) (w : Principal). owns h w (Byte n)) c.in-Some.ensures.found.0
    c.piece_of-piece.ensures.of_the_part c.piece_of-piece.ensures.bytes (c.forget.ensures.here h stands) c.forget.ensures.others b q)

pub returns-in-None-clause-records : goal.returns-in-None-clause-records
returns-in-None-clause-records g c h stands b q =
    zeroed_none c.args.self.now.lists c.args.part c.args.at c.args.size (λ (n : ℕ) (w : Principal). owns h w (Byte n)) c.in-None.ensures.none b q
