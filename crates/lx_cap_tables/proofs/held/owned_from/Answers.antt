use Rattle.std.proofs.Common.{◌≡◌, Bool, Some, sym, ◌∙◌, subst, arith}
use Rattle.std.proofs.lemmas.Bool.Decides.{nat_tests}
use Rattle.lx_caps.specs.declared.Atom.{Atom}
use Rattle.lx_caps.specs.Order.{IsFirst}
use Rattle.lx_cap_nodes.specs.Pieces.{part_list}
use Rattle.lx_cap_lists.proofs.NearLemmas.{part_is, none_there}
use Rattle.lx_cap_nodes.proofs.PartLists.{part_small}
use Rattle.lx_cap_tables.proofs.held.owned_from.Goals as goal

pub first_byte-requires : goal.first_byte-requires
first_byte-requires c =
    let here : part_list c.args.part ≡ Some c.in-Some.place = sym c.list_of_part.ensures ∙ c.in-Some.is in
    let small = part_small c.args.part c.in-Some.place here in
    grind (arith, nat_tests, small)

pub returns-in-Some : goal.returns-in-Some
returns-in-Some c =
    let here : part_list c.args.part ≡ Some c.in-Some.place = sym c.list_of_part.ensures ∙ c.in-Some.is in
    subst (λ (p : Atom → Bool). IsFirst p c.first_byte.result)
    (λ j x. part_is c.args.pool.now.places c.args.who c.args.part c.args.from c.in-Some.place c.reached-bits.result c.bits_from.result here c.reached-bits.ensures c.bits_from.ensures x j) c.first_byte.ensures

pub returns-in-None : goal.returns-in-None
returns-in-None c = none_there c.args.pool.now.places c.args.who c.args.part c.args.from (sym c.list_of_part.ensures ∙ c.in-None.is)
