use Rattle.std.proofs.Common.{◌≡◌, Some, sym, ◌∙◌, arith}
use Rattle.lx_cap_lists.specs.Owned.{AllFit}
use Rattle.lx_cap_lists.specs.Tables.{place_in}
use Rattle.lx_cap_lists.proofs.PlacesWithin.{list_within}
use Rattle.lx_cap_tables.proofs.gather.add_listed.Goals as goal

pub add_list-requires : goal.add_list-requires
unfolding AllFit
add_list-requires g c =
    let at : place_in c.args.owners.now.keys c.args.key ≡ Some c.in-Some.list = sym c.place_in.ensures ∙ c.in-Some.is in
    record {
      list = let h = list_within c.args.owners.now.keys c.args.key c.in-Some.list at in let r = c.requires.lists in omega (arith, h, r);
      fit = c.requires.fit c.in-Some.list;
    }
