use Rattle.std.proofs.Common.{sym, subst, arith}
use Rattle.lx_cap_tables.specs.Sound.{StandsFor}
use Rattle.lx_cap_tables.proofs.SoundLemmas.{next_owner_is}
use Rattle.lx_cap_tables.proofs.tables.CapTablesCapStore.next_owner.Goals as goal

pub owner_behind-requires : goal.owner_behind-requires
owner_behind-requires c =
    let old = c.self.invariant in
    let count = old.place_count in
    record {
      lists = let h = old.atom_fit in omega (arith, h, count);
      small = omega (arith, count);
    }

pub returns : goal.returns
unfolding StandsFor
returns c = λ h stands.
    let st = subst (λ t. StandsFor t h) (sym c.self.view_is) stands in
    next_owner_is c.self.inside.pool.places c.self.inside.atoms.keys h c.args.atom c.args.after c.owner_behind.result st.1 c.owner_behind.ensures
