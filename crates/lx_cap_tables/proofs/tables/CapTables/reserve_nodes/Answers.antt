use Rattle.std.proofs.Common.{length, ap, ◌∙◌, arith}
use Rattle.lx_cap_nodes.specs.Words.{nodes_at}
use Rattle.lx_cap_tables.proofs.SoundLemmas.{sound_more}
use Rattle.lx_cap_tables.proofs.tables.CapTables.reserve_nodes.Goals as goal

pub invariant_of-self : goal.invariant_of-self
invariant_of-self c =
    let t = c.self.inside in
    let old = c.self.invariant in
    sound_more t.pool c.reserve.new.self t.owners.keys t.atoms.keys _ _ t.owner_lists t.place_lists _ _ t.owner_lists t.place_lists t.loans.items t.deepest t.promised old
    (λ l. ap (λ ls. nodes_at ls l) c.reserve.ensures.places) (λ l. ap (λ ls. nodes_at ls l) c.reserve.ensures.owners)
    (ap length c.reserve.ensures.owners ∙ old.owner_count) (ap length c.reserve.ensures.places ∙ old.place_count) (omega arith) (omega arith) old.owner_has_room old.atom_has_room c.reserve.ensures.grows
