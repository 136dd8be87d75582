use Rattle.std.proofs.Common.{◌&&◌, ◌+◌, ◌/◌, ◌%◌, List, Option, Some, None, IfSome, subst}
use Rattle.lx_caps.specs.declared.Atom.{Atom}
use Rattle.lx_caps.specs.declared.Atom.TheVariants.{Byte}
use Rattle.lx_caps.specs.Order.{is_behind, IsFirst}
use Rattle.lx_cap_lists.specs.Holders.{held_by}
use Rattle.lx_cap_lists.specs.Owned.{owned_from}
use Rattle.lx_cap_lists.specs.Tables.{Key, place_of, bit_of, shown_at}
use Rattle.lx_cap_lists.proofs.NearLemmas.{found_here, found_next}
use Rattle.lx_cap_tables.proofs.held.owned_near.Goals as goal

pub returns-in-Some : goal.returns-in-Some
returns-in-Some c = λ atoms.
    found_here c.args.pool.now.places c.args.who atoms c.args.byte c.in-Some.next
    (subst (IsFirst (owned_from c.args.pool.now.places c.args.who (c.args.byte / 64) (c.args.byte % 64 + 1))) c.in-Some.is c.owned_from.ensures)

pub returns-in-None : goal.returns-in-None
returns-in-None c = λ atoms. by atoms c.owned_from-in-None.result c.owned_from-in-None.ensures
  where
    by : (atoms : List Key) (o : Option Atom) → IsFirst (owned_from c.args.pool.now.places c.args.who (c.args.byte / 64 + 1) 0) o
        → IfSome o (λ next. IsFirst (λ x. is_behind (Some (Byte c.args.byte)) x && shown_at c.args.pool.now.places (place_of atoms x) (held_by c.args.who) (bit_of x)) (Some next))
    by atoms None first = tt
    by atoms (Some x) first =
        found_next c.args.pool.now.places c.args.who atoms c.args.byte x
        (subst (IsFirst (owned_from c.args.pool.now.places c.args.who (c.args.byte / 64) (c.args.byte % 64 + 1))) c.in-None.is c.owned_from.ensures) first
