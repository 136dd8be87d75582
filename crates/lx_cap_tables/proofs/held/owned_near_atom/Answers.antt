use Rattle.std.proofs.Common.{◌&&◌, Some, IfSome, sym, subst}
use Rattle.lx_caps.specs.Order.{is_behind, IsFirst}
use Rattle.lx_cap_lists.specs.Holders.{held_by}
use Rattle.lx_cap_lists.specs.Tables.{place_of, bit_of, shown_at}
use Rattle.lx_cap_tables.proofs.held.owned_near_atom.Goals as goal

pub returns-in-Byte : goal.returns-in-Byte
returns-in-Byte c = λ atoms.
    subst (λ a. IfSome c.owned_near.result (λ next. IsFirst (λ x. is_behind (Some a) x && shown_at c.args.pool.now.places (place_of atoms x) (held_by c.args.who) (bit_of x)) (Some next)))
    (sym c.in-Byte.is) (c.owned_near.ensures atoms)
