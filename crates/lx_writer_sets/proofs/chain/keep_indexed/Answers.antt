use Rattle.std.proofs.Common.{◌≡◌, nat_eq, cond, true, false, ◌∷◌, ◌++◌, sym, ap, ◌∙◌}
use Rattle.lx_words.proofs.Tests.{eq_from_ne}
use Rattle.lx_cap_nodes.specs.declared.pool.Family.TheVariants.{Place}
use Rattle.lx_cap_nodes.specs.Words.{nodes_at}
use Rattle.lx_writer_sets.specs.declared.entry.Entry.{Entry}
use Rattle.lx_writer_sets.specs.Index.{key_of}
use Rattle.lx_writer_sets.specs.Nodes.{with_mask}
use Rattle.lx_writer_sets.proofs.IndexLemmas.{indexed_gone, indexed_put}
use Rattle.lx_writer_sets.proofs.chain.keep_indexed.Goals as goal

pub value-requires : goal.value-requires
value-requires c = (c.laws.ensures.at_node Place c.args.list c.requires.front c.args.n c.requires.v c.requires.behind c.requires.is).live

pub returns-then-mask-eq0-clause-indexed : goal.returns-then-mask-eq0-clause-indexed
returns-then-mask-eq0-clause-indexed c = λ nodes all.
    let f = c.requires in
    let at = c.laws.ensures.at_node Place c.args.list f.front c.args.n f.v f.behind f.is in
    let same : f.v ≡ c.value.result.now = cc (at.value, c.value.ensures) in
    let test : nat_eq c.args.mask 0 ≡ true = ap (λ n. nat_eq n 0) c.if-mask-eq0.true in
    let left : nodes_at c.keep.new.pool.places c.args.list ≡ f.front ++ f.behind =
    c.keep.ensures.here f.front f.behind f.v f.is ∙ ap (λ t. f.front ++ cond t f.behind ((c.args.n, with_mask f.v c.args.mask) ∷ f.behind)) test in
    indexed_gone c.args.table.now.entries c.remove.new.table.entries c.args.pool.now.places c.keep.new.pool.places c.args.list c.args.n f.v f.front f.behind c.key_of.result f.is left nodes c.keep.ensures.others
    (c.key_of.ensures ∙ ap (λ (e : Entry). key_of c.args.list e.writer) (sym same)) c.remove.ensures.nodes all

pub returns-else-mask-eq0-clause-indexed : goal.returns-else-mask-eq0-clause-indexed
returns-else-mask-eq0-clause-indexed c = λ nodes all.
    let f = c.requires in
    let test : nat_eq c.args.mask 0 ≡ false = eq_from_ne c.args.mask 0 c.if-mask-eq0.false in
    let now : nodes_at c.keep.new.pool.places c.args.list ≡ f.front ++ (c.args.n, with_mask f.v c.args.mask) ∷ f.behind =
    c.keep.ensures.here f.front f.behind f.v f.is ∙ ap (λ t. f.front ++ cond t f.behind ((c.args.n, with_mask f.v c.args.mask) ∷ f.behind)) test in
    indexed_put c.args.table.now.entries c.args.pool.now.places c.keep.new.pool.places c.args.list c.args.n c.args.mask f.v f.front f.behind f.is now c.keep.ensures.others all
