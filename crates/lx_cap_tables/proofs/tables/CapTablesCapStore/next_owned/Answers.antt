use Rattle.std.proofs.Common.{length, sym, ap, ◌∙◌, subst, arith}
use Rattle.lx_cap_lists.specs.Tables.{is_in_order}
use Rattle.lx_cap_tables.specs.Sound.{StandsFor}
use Rattle.lx_cap_tables.proofs.SoundLemmas.{next_owned_is}
use Rattle.lx_cap_lists.specs.Kept.{AreAll}
use Rattle.lx_cap_tables.proofs.tables.CapTablesCapStore.next_owned.Goals as goal

pub owned_behind-requires : goal.owned_behind-requires
owned_behind-requires c =
    let old = c.self.invariant in
    let count = old.owner_count in
    record {
      lists = let h = old.owner_fit in omega (arith, h, count);
      places = let h = old.atom_fit in let n = old.place_count in omega (arith, h, n);
      threads = ap length c.as_slice.ensures.value ∙ old.threads;
      order = subst (λ ls. AreAll (is_in_order c.self.inside.owners.keys c.self.inside.atoms.keys ls) c.self.inside.pool) (sym c.as_slice.ensures.value) old.in_order;
    }

pub returns : goal.returns
unfolding StandsFor
returns c = λ h stands.
    let st = subst (λ t. StandsFor t h) (sym c.self.view_is) stands in
    next_owned_is c.self.inside.pool.places c.self.inside.atoms.keys h c.args.who c.args.after c.owned_behind.result st.1 c.owned_behind.ensures
