use Rattle.std.proofs.Common.{◌≡◌, ◌&&◌, Some, None, sym, ap, ◌∙◌, subst, arith}
use Rattle.std.proofs.lemmas.Bool.{and_right}
use Rattle.lx_caps.specs.Order.{is_behind, IsFirst}
use Rattle.lx_cap_lists.specs.Owned.{AllFit, given_in}
use Rattle.lx_cap_lists.specs.Tables.{place_in}
use Rattle.lx_cap_lists.proofs.PlacesWithin.{list_within}
use Rattle.lx_cap_tables.proofs.held.owned_by_list.Goals as goal

pub first_owned-requires : goal.first_owned-requires
unfolding AllFit
first_owned-requires c =
    let at : place_in c.args.owners.now.keys c.args.key ≡ Some c.in-Some.list = sym c.place_in.ensures ∙ c.in-Some.is in
    record {
      list = let h = list_within c.args.owners.now.keys c.args.key c.in-Some.list at in let r = c.requires.lists in omega (arith, h, r);
      fit = c.requires.fit c.in-Some.list;
    }

pub returns-in-Some : goal.returns-in-Some
returns-in-Some c =
    let at : place_in c.args.owners.now.keys c.args.key ≡ Some c.in-Some.list = sym c.place_in.ensures ∙ c.in-Some.is in
    subst (λ o. IsFirst (λ x. is_behind c.args.wanted.after x && given_in c.args.pool.now.owners c.args.wanted.who x o) c.first_owned.result) (sym at) c.first_owned.ensures

pub returns-in-None : goal.returns-in-None
returns-in-None c =
    let none : place_in c.args.owners.now.keys c.args.key ≡ None = sym c.place_in.ensures ∙ c.in-None.is in
    λ x. and_right (is_behind c.args.wanted.after x) _ (ap (given_in c.args.pool.now.owners c.args.wanted.who x) none)
