use Rattle.std.proofs.Common.{◌≡◌, ◌<◌, ◌/◌, length, true, false, Some, sym, ap, ◌∙◌, subst}
use Rattle.lx_cap_nodes.specs.Words.{nodes_at}
use Rattle.lx_writer_sets.specs.Nodes.{Parts, has_nodes}
use Rattle.lx_writer_sets.specs.Sets.{is_given_at}
use Rattle.lx_cap_nodes.specs.Pieces.{part_list}
use Rattle.lx_writer_sets.proofs.NodeLemmas.{in_use, word_within, none_given, marked_is}
use Rattle.lx_writer_sets.proofs.parts.PartLists.list_at.Goals as goal

pub returns-then-is_marked-clause-found : goal.returns-then-is_marked-clause-found
returns-then-is_marked-clause-found c =
    let t = c.self.inside in
    let l = c.in-Some.list in
    let marked = sym c.is_marked.ensures ∙ c.if-is_marked.true in
    let some : has_nodes (nodes_at t.pool.places l) ≡ true = sym (marked_is t.words.items t.pool.places c.self.invariant.marked l) ∙ marked in
    subst (λ (p : Parts). (part_list c.args.part ≡ Some l) × (l < length p.lists) × (l / 64 < p.words) × (has_nodes (nodes_at p.lists l) ≡ true)) c.self.view_is
    (sym c.list_of_part.ensures ∙ c.in-Some.is, in_use t.pool.places l some, word_within t.words.items l marked, some)

pub returns-else-is_marked-clause-none : goal.returns-else-is_marked-clause-none
returns-else-is_marked-clause-none c k q =
    let t = c.self.inside in
    let l = c.in-Some.list in
    let none : has_nodes (nodes_at t.pool.places l) ≡ false = sym (marked_is t.words.items t.pool.places c.self.invariant.marked l) ∙ (sym c.is_marked.ensures ∙ c.if-is_marked.false) in
    subst (λ (p : Parts). is_given_at p.lists (part_list c.args.part) k q ≡ false) c.self.view_is
    (ap (λ o. is_given_at t.pool.places o k q) (sym c.list_of_part.ensures ∙ c.in-Some.is) ∙ none_given (nodes_at t.pool.places l) none k q)
