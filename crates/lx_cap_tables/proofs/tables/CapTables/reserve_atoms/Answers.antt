use Rattle.std.proofs.Common.{length, ap, ◌∙◌, arith}
use Rattle.lx_cap_nodes.specs.Words.{nodes_at}
use Rattle.lx_cap_tables.proofs.SoundLemmas.{sound_more}
use Rattle.lx_cap_tables.proofs.tables.CapTables.reserve_atoms.Goals as goal

pub invariant_of-self-in_err-more : goal.invariant_of-self-in_err-more
invariant_of-self-in_err-more c =
    let t = c.self.inside in
    let old = c.self.invariant in
    let room = c.in_ok-reserve.ensures.room.0 in
    let fits = c.in_ok-reserve.ensures.ok in
    let len = c.len.ensures.len in
    let a = c.in_ok-atoms.ensures in
    let w = c.in_ok-want.ensures in
    let more = c.more_places-more.ensures in
    let bound = more.bound in
    let grows = more.grows in
    let keys = c.reserve.ensures.keys in
    let kept = ap length keys in
    let had = old.atom_has_room in
    rw keys (sound_more t.pool c.more_places-more.new.pool t.owners.keys t.atoms.keys _ _ t.owner_lists t.place_lists _ _ t.owner_lists c.more_places-more.new.have t.loans.items t.deepest t.promised old
    more.places (λ l. ap (λ ls. nodes_at ls l) more.rest.0)
    (ap length more.rest.0 ∙ old.owner_count) more.count (omega arith) (omega (arith, grows)) old.owner_has_room
    (omega (arith, room, fits, len, a, w, bound, kept, had)) (let s = more.rest.1 in omega (arith, s)))

pub invariant_of-self-2 : goal.invariant_of-self-2
invariant_of-self-2 c =
    let t = c.self.inside in
    let old = c.self.invariant in
    let room = c.in_ok-reserve.ensures.room.0 in
    let fits = c.in_ok-reserve.ensures.ok in
    let len = c.len.ensures.len in
    let a = c.in_ok-atoms.ensures in
    let w = c.in_ok-want.ensures in
    let more = c.more_places-more.ensures in
    let bound = more.bound in
    let grows = more.grows in
    let keys = c.reserve.ensures.keys in
    let kept = ap length keys in
    let had = old.atom_has_room in
    rw keys (sound_more t.pool c.more_places-more.new.pool t.owners.keys t.atoms.keys _ _ t.owner_lists t.place_lists _ _ t.owner_lists c.more_places-more.new.have t.loans.items t.deepest t.promised old
    more.places (λ l. ap (λ ls. nodes_at ls l) more.rest.0)
    (ap length more.rest.0 ∙ old.owner_count) more.count (omega arith) (omega (arith, grows)) old.owner_has_room
    (omega (arith, room, fits, len, a, w, bound, kept, had)) (let s = more.rest.1 in omega (arith, s)))
