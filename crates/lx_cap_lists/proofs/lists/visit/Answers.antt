use Rattle.std.proofs.Common.{◌≡◌, ◌∷◌, map, sym, ap, ◌∙◌, subst}
use Rattle.lx_cap_nodes.specs.Names.{first_of, next_in}
use Rattle.lx_cap_nodes.specs.Words.{names, nodes_of, lists_in}
use Rattle.lx_cap_lists.specs.Walks.{from, HasCome}
use Rattle.lx_cap_lists.proofs.WalkLemmas.{goes_on}
use Rattle.lx_cap_lists.proofs.VisitLemmas.{is_at, apart_of}
use Rattle.lx_cap_lists.proofs.lists.visit.Goals as goal

pub value-requires : goal.value-requires
value-requires c = (is_at c.args.pool.now c.args.list c.args.node c.laws.ensures c.requires).live

pub after-requires : goal.after-requires
after-requires c = (is_at c.args.pool.now c.args.list c.args.node c.laws.ensures c.requires).live

pub returns : goal.returns
returns c =
    let at = is_at c.args.pool.now c.args.list c.args.node c.laws.ensures c.requires in
    let es = nodes_of c.args.list c.args.pool.now in
    let same : at.v ≡ c.value.result.now = cc (at.value, c.value.ensures) in
    let on = goes_on es c.args.node at.v at.ys (apart_of c.args.pool.now c.args.list c.laws.ensures) c.requires at.is in
    let next : c.after.result ≡ first_of (names at.ys) = c.after.ensures.next ∙ (ap (λ f. next_in c.args.node (map names (lists_in f c.args.pool.now))) c.family_of.ensures ∙ at.next) in
    let rest : at.ys ≡ from c.after.result es = sym (ap (λ o. from o es) next ∙ on.0) in
    record {
      entry = at.is ∙ (ap (λ v. (c.args.node, v) ∷ at.ys) same ∙ ap (λ ys. (c.args.node, c.value.result.now) ∷ ys) rest);
      next = subst (HasCome es) (sym next) on.1;
    }
