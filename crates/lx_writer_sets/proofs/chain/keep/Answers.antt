use Rattle.std.proofs.Common.{◌≡◌, nat_eq, cond, true, false, ◌∷◌, ◌++◌, length, sym, ap, ◌∙◌, subst, arith}
use Rattle.std.proofs.lemmas.List.{length-map}
use Rattle.lx_words.proofs.Tests.{eq_from_ne}
use Rattle.lx_cap_nodes.specs.declared.pool.Family.TheVariants.{Place}
use Rattle.lx_cap_nodes.specs.Pool.{Pool}
use Rattle.lx_cap_nodes.specs.Words.{nodes_at, with_value}
use Rattle.lx_writer_sets.specs.declared.entry.Entry.{Entry}
use Rattle.lx_writer_sets.specs.Nodes.{with_mask, AreNodes}
use Rattle.lx_writer_sets.proofs.NodeLemmas.{nodes_one, nodes_put, nodes_gone, some_bit}
use Rattle.lx_writer_sets.proofs.chain.keep.Goals as goal

pub unlink-requires : goal.unlink-requires
unlink-requires c = (c.laws.ensures.at_node Place c.args.list c.requires.front c.args.n c.requires.v c.requires.behind c.requires.is).live

pub put_mask-requires : goal.put_mask-requires
put_mask-requires c = (c.laws.ensures.at_node Place c.args.list c.requires.front c.args.n c.requires.v c.requires.behind c.requires.is).live

pub returns-then-mask-eq0-clause-here : goal.returns-then-mask-eq0-clause-here
returns-then-mask-eq0-clause-here c xs ys v is =
    let at = c.laws.ensures.at_node Place c.args.list xs c.args.n v ys is in
    let test : nat_eq c.args.mask 0 ≡ true = ap (λ n. nat_eq n 0) c.if-mask-eq0.true in
    ap (λ ls. nodes_at ls c.args.list) c.unlink.ensures.places ∙ (at.gone ∙ sym (ap (λ t. xs ++ cond t ys ((c.args.n, with_mask v c.args.mask) ∷ ys)) test))

pub returns-then-mask-eq0-clause-others : goal.returns-then-mask-eq0-clause-others
returns-then-mask-eq0-clause-others c l ne =
    let at = c.laws.ensures.at_node Place c.args.list c.requires.front c.args.n c.requires.v c.requires.behind c.requires.is in
    ap (λ ls. nodes_at ls l) c.unlink.ensures.places ∙ at.gone_elsewhere l ne

pub returns-then-mask-eq0-clause-nodes : goal.returns-then-mask-eq0-clause-nodes
returns-then-mask-eq0-clause-nodes c =
    let f = c.requires in
    let at = c.laws.ensures.at_node Place c.args.list f.front c.args.n f.v f.behind f.is in
    nodes_one c.args.pool.now.places c.unlink.new.self.places c.args.list
    (λ all. subst AreNodes (sym (ap (λ ls. nodes_at ls c.args.list) c.unlink.ensures.places ∙ at.gone)) (nodes_gone f.front f.behind (c.args.n, f.v) (subst AreNodes f.is all)))
    (returns-then-mask-eq0-clause-others c)

pub returns-else-mask-eq0-clause-here : goal.returns-else-mask-eq0-clause-here
returns-else-mask-eq0-clause-here c xs ys v is =
    let at = c.laws.ensures.at_node Place c.args.list xs c.args.n v ys is in
    let test : nat_eq c.args.mask 0 ≡ false = eq_from_ne c.args.mask 0 c.if-mask-eq0.false in
    ap (λ (p : Pool Entry). nodes_at p.places c.args.list) (c.put_mask.ensures v at.value)
    ∙ (at.written (with_mask v c.args.mask) ∙ sym (ap (λ t. xs ++ cond t ys ((c.args.n, with_mask v c.args.mask) ∷ ys)) test))

pub returns-else-mask-eq0-clause-others : goal.returns-else-mask-eq0-clause-others
returns-else-mask-eq0-clause-others c l ne =
    let at = c.laws.ensures.at_node Place c.args.list c.requires.front c.args.n c.requires.v c.requires.behind c.requires.is in
    ap (λ (p : Pool Entry). nodes_at p.places l) (c.put_mask.ensures c.requires.v at.value) ∙ at.written_elsewhere (with_mask c.requires.v c.args.mask) l ne

pub returns-else-mask-eq0-clause-nodes : goal.returns-else-mask-eq0-clause-nodes
returns-else-mask-eq0-clause-nodes c =
    let f = c.requires in
    let at = c.laws.ensures.at_node Place c.args.list f.front c.args.n f.v f.behind f.is in
    nodes_one c.args.pool.now.places c.put_mask.new.pool.places c.args.list
    (λ all. subst AreNodes (sym (ap (λ (p : Pool Entry). nodes_at p.places c.args.list) (c.put_mask.ensures f.v at.value) ∙ at.written (with_mask f.v c.args.mask)))
    (nodes_put f.front f.behind c.args.n f.v c.args.mask (λ bit. some_bit c.args.mask (omega arith) c.if-mask-eq0.false) (subst AreNodes f.is all)))
    (returns-else-mask-eq0-clause-others c)

pub returns-else-mask-eq0-clause-counts : goal.returns-else-mask-eq0-clause-counts
returns-else-mask-eq0-clause-counts c =
    let f = c.requires in
    let old = c.args.pool.now in
    let at = c.laws.ensures.at_node Place c.args.list f.front c.args.n f.v f.behind f.is in
    let is = c.put_mask.ensures f.v at.value in
    let put = with_value c.args.n (with_mask f.v c.args.mask) in (
      ap (λ (p : Pool Entry). length p.places) is ∙ length-map old.places put,
      ap (λ (p : Pool Entry). length p.owners) is ∙ length-map old.owners put,
    )

pub returns-else-mask-eq0-clause-spare : goal.returns-else-mask-eq0-clause-spare
returns-else-mask-eq0-clause-spare c =
    let f = c.requires in
    let at = c.laws.ensures.at_node Place c.args.list f.front c.args.n f.v f.behind f.is in
    let is : c.put_mask.new.pool.spare ≡ c.args.pool.now.spare = ap (λ (p : Pool Entry). p.spare) (c.put_mask.ensures f.v at.value) in
    omega (arith, is)
