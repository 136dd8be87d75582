use Rattle.std.proofs.Common.{◌&&◌, Some, IfSome, sym, subst}
use Rattle.lx_caps.specs.Order.{is_behind, IsFirst}
use Rattle.lx_cap_lists.specs.Holders.{held_by}
use Rattle.lx_cap_lists.specs.Tables.{place_of, bit_of, shown_at}
use Rattle.lx_cap_tables.proofs.held.owned_soon.Goals as goal

pub returns-in-Some : goal.returns-in-Some
returns-in-Some c = λ atoms.
    subst (λ o. IfSome c.owned_near_atom.result (λ next. IsFirst (λ x. is_behind o x && shown_at c.args.pool.now.places (place_of atoms x) (held_by c.args.wanted.who) (bit_of x)) (Some next)))
    (sym c.in-Some.is) (c.owned_near_atom.ensures atoms)
