use Rattle.std.proofs.Common.{◌≡◌, nat_eq, cond, true, false, ◌∷◌, ◌++◌, sym, ap, ◌∙◌}
use Rattle.lx_words.proofs.Tests.{eq_from_ne}
use Rattle.lx_cap_nodes.specs.declared.pool.Family.TheVariants as family
use Rattle.lx_cap_nodes.specs.Pool.{Pool}
use Rattle.lx_cap_nodes.specs.Words.{nodes_at}
use Rattle.lx_cap_lists.specs.declared.entry.Entry.{Entry}
use Rattle.lx_cap_lists.specs.Entries.{with_mask, left_of}
use Rattle.lx_cap_lists.proofs.KeptLemmas.{kept_without}
use Rattle.lx_cap_lists.proofs.lists.cut.Goals as goal

pub value-requires : goal.value-requires
value-requires c = (c.laws.ensures.at_node family.Place c.args.place c.requires.front c.args.n c.requires.v c.requires.behind c.requires.is).live

pub unlink-requires : goal.unlink-requires
unlink-requires c = (c.laws.ensures.at_node family.Place c.args.place c.requires.front c.args.n c.requires.v c.requires.behind c.requires.is).live

pub put_mask-requires : goal.put_mask-requires
put_mask-requires c = (c.laws.ensures.at_node family.Place c.args.place c.requires.front c.args.n c.requires.v c.requires.behind c.requires.is).live

pub returns-then-left-eq0-clause-here : goal.returns-then-left-eq0-clause-here
returns-then-left-eq0-clause-here c xs ys v is =
    let at = c.laws.ensures.at_node family.Place c.args.place xs c.args.n v ys is in
    let same : v ≡ c.value.result.now = cc (at.value, c.value.ensures) in
    let test : nat_eq (left_of v.mask c.args.bits) 0 ≡ true = ap (λ (e : Entry). nat_eq (left_of e.mask c.args.bits) 0) same ∙ ap (λ n. nat_eq n 0) c.if-left-eq0.true in
    ap (λ ls. nodes_at ls c.args.place) c.unlink.ensures.places ∙ (at.gone ∙ sym (ap (λ t. xs ++ cond t ys ((c.args.n, with_mask v (left_of v.mask c.args.bits)) ∷ ys)) test))

pub returns-then-left-eq0-clause-others : goal.returns-then-left-eq0-clause-others
returns-then-left-eq0-clause-others c l ne =
    let at = c.laws.ensures.at_node family.Place c.args.place c.requires.front c.args.n c.requires.v c.requires.behind c.requires.is in
    ap (λ ls. nodes_at ls l) c.unlink.ensures.places ∙ at.gone_elsewhere l ne

pub returns-else-left-eq0-clause-here : goal.returns-else-left-eq0-clause-here
returns-else-left-eq0-clause-here c xs ys v is =
    let at = c.laws.ensures.at_node family.Place c.args.place xs c.args.n v ys is in
    let same : v ≡ c.value.result.now = cc (at.value, c.value.ensures) in
    let test : nat_eq (left_of v.mask c.args.bits) 0 ≡ false = ap (λ (e : Entry). nat_eq (left_of e.mask c.args.bits) 0) same ∙ eq_from_ne (left_of c.value.result.now.mask c.args.bits) 0 c.if-left-eq0.false in
    let masks : left_of c.value.result.now.mask c.args.bits ≡ left_of v.mask c.args.bits = ap (λ (e : Entry). left_of e.mask c.args.bits) (sym same) in
    ap (λ (p : Pool Entry). nodes_at p.places c.args.place) (c.put_mask.ensures.written v at.value)
    ∙ (at.written (with_mask v (left_of c.value.result.now.mask c.args.bits))
    ∙ (ap (λ m. xs ++ (c.args.n, with_mask v m) ∷ ys) masks
    ∙ sym (ap (λ t. xs ++ cond t ys ((c.args.n, with_mask v (left_of v.mask c.args.bits)) ∷ ys)) test)))

pub returns-else-left-eq0-clause-others : goal.returns-else-left-eq0-clause-others
returns-else-left-eq0-clause-others c l ne =
    let at = c.laws.ensures.at_node family.Place c.args.place c.requires.front c.args.n c.requires.v c.requires.behind c.requires.is in
    ap (λ (p : Pool Entry). nodes_at p.places l) (c.put_mask.ensures.written c.requires.v at.value) ∙ at.written_elsewhere (with_mask c.requires.v (left_of c.value.result.now.mask c.args.bits)) l ne

pub returns-then-left-eq0-clause-kept : goal.returns-then-left-eq0-clause-kept
returns-then-left-eq0-clause-kept c = λ p r all. kept_without c.args.pool.now c.unlink.new.self c.args.n c.unlink.ensures.places c.unlink.ensures.owners p all
