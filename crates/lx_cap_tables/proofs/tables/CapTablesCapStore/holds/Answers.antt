use Rattle.std.proofs.Common.{sym, ◌∙◌, subst, arith}
use Rattle.lx_cap_tables.specs.Sound.{StandsFor}
use Rattle.lx_cap_tables.proofs.SoundLemmas.{held_is}
use Rattle.lx_cap_tables.proofs.tables.CapTablesCapStore.holds.Goals as goal
use Rattle.lx_caps.proofs.OwnerLemmas.{by_reach}

pub holds_cap-requires : goal.holds_cap-requires
holds_cap-requires c =
    let old = c.self.invariant in
    let count = old.place_count in
    record {
      placed = c.requires;
      lists = let h = old.atom_fit in omega (arith, h, count);
      small = omega (arith, count);
    }

pub returns-in_default : goal.returns-in_default
unfolding StandsFor
returns-in_default c = λ h stands.
    let st = subst (λ t. StandsFor t h) (sym c.self.view_is) stands in
    c.holds_cap.ensures ∙ (held_is c.self.inside.pool.places c.self.inside.atoms.keys h c.args.who c.args.cap st.1 ∙ sym (by_reach h c.args.who c.args.cap c.in_default.not-Kernel))
