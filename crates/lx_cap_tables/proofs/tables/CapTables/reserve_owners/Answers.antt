use Rattle.std.proofs.Common.{length, ap, ◌∙◌, arith}
use Rattle.lx_cap_nodes.specs.Words.{nodes_at}
use Rattle.lx_cap_tables.proofs.SoundLemmas.{sound_more}
use Rattle.lx_cap_tables.proofs.tables.CapTables.reserve_owners.Goals as goal

pub invariant_of-self-in_err-more : goal.invariant_of-self-in_err-more
invariant_of-self-in_err-more c =
    let t = c.self.inside in
    let old = c.self.invariant in
    let room = c.in_ok-reserve.ensures.room.0 in
    let fits = c.in_ok-reserve.ensures.ok in
    let len = c.len.ensures.len in
    let w = c.in_ok-want.ensures in
    let more = c.more_owners-more.ensures in
    let bound = more.bound in
    let grows = more.grows in
    let keys = c.reserve.ensures.keys in
    let kept = ap length keys in
    let had = old.owner_has_room in
    rw keys (sound_more t.pool c.more_owners-more.new.pool t.owners.keys t.atoms.keys _ _ t.owner_lists t.place_lists _ _ c.more_owners-more.new.have t.place_lists t.loans.items t.deepest t.promised old
    (λ l. ap (λ ls. nodes_at ls l) more.rest.0) more.owners
    more.count (ap length more.rest.0 ∙ old.place_count) (omega (arith, grows)) (omega arith)
    (omega (arith, room, fits, len, w, bound, kept, had)) old.atom_has_room (let s = more.rest.1 in omega (arith, s)))

pub invariant_of-self-2 : goal.invariant_of-self-2
invariant_of-self-2 c =
    let t = c.self.inside in
    let old = c.self.invariant in
    let room = c.in_ok-reserve.ensures.room.0 in
    let fits = c.in_ok-reserve.ensures.ok in
    let len = c.len.ensures.len in
    let w = c.in_ok-want.ensures in
    let more = c.more_owners-more.ensures in
    let bound = more.bound in
    let grows = more.grows in
    let keys = c.reserve.ensures.keys in
    let kept = ap length keys in
    let had = old.owner_has_room in
    rw keys (sound_more t.pool c.more_owners-more.new.pool t.owners.keys t.atoms.keys _ _ t.owner_lists t.place_lists _ _ c.more_owners-more.new.have t.place_lists t.loans.items t.deepest t.promised old
    (λ l. ap (λ ls. nodes_at ls l) more.rest.0) more.owners
    more.count (ap length more.rest.0 ∙ old.place_count) (omega (arith, grows)) (omega arith)
    (omega (arith, room, fits, len, w, bound, kept, had)) old.atom_has_room (let s = more.rest.1 in omega (arith, s)))
