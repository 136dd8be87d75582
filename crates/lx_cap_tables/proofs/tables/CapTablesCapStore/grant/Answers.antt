use Rattle.std.proofs.Common.{◌≡◌, ◌≤◌, ◌+◌, ◌&&◌, ◌||◌, length, Some, refl, sym, ap, ◌∙◌, subst, arith}
use Rattle.lx_caps.specs.History.{has}
use Rattle.lx_cap_lists.specs.declared.holder.Holder.TheVariants.{Keeper}
use Rattle.lx_cap_lists.specs.Tables.{place_in, holder_key, is_in_order}
use Rattle.lx_cap_lists.proofs.PlacesWithin.{list_within}
use Rattle.lx_cap_tables.specs.Sound.{StandsFor}
use Rattle.lx_cap_tables.proofs.AtomLemmas.{one_longer, still_found}
use Rattle.lx_cap_tables.proofs.SoundLemmas.{some_cells, order_respects, order_more, given_in_order}
use Rattle.lx_cap_tables.proofs.tables.CapTablesCapStore.grant.Goals as goal

pub give_cap-requires-clause-owner : goal.give_cap-requires-clause-owner
give_cap-requires-clause-owner c =
    let t = c.self.inside in
    let at = list_within c.place_for-list.new.keys.keys c.owner_key.result c.place_for-list.result c.place_for-list.ensures.place in
    let n : length c.place_for-list.new.keys.keys ≤ length t.owners.keys + 1 = rw c.place_for-list.ensures.keys (one_longer t.owners.keys c.owner_key.result) in
    let room = rw (← c.self.view_is) at c.requires.room in
    let some = some_cells c.args.cap in
    let count = c.self.invariant.owner_count in
    let fit = c.self.invariant.owner_fit in
    omega (arith, at, n, room, some, count, fit)

pub invariant_of-self : goal.invariant_of-self
invariant_of-self c =
    let t = c.self.inside in
    let old = c.self.invariant in
    let owners = c.place_for-list.new.keys.keys in
    let atoms = c.give_cap.new.atoms.keys in
    let n : length owners ≤ length t.owners.keys + 1 = rw c.place_for-list.ensures.keys (one_longer t.owners.keys c.owner_key.result) in
    let own : place_in owners (holder_key (Keeper c.args.to)) ≡ Some c.place_for-list.result = ap (place_in owners) (sym c.owner_key.ensures) ∙ c.place_for-list.ensures.place in
    let room = rw (← c.self.view_is) at c.requires.room in
    let some = some_cells c.args.cap in
    let taken = c.cells.ensures in
    record {
      owner_count = c.give_cap.ensures.counts.1 ∙ old.owner_count;
      place_count = c.give_cap.ensures.counts.0 ∙ old.place_count;
      owner_has_room = let a = c.place_for-list.ensures.spare in let b = old.owner_has_room in omega (arith, a, b);
      atom_has_room = let a = c.give_cap.ensures.spare_keys in let b = old.atom_has_room in omega (arith, a, b);
      node_fit = let a = old.node_fit in let b = c.give_cap.ensures.spare in omega (arith, a, b, taken);
      owner_fit = let a = old.owner_fit in omega (arith, a, n, room, some, taken);
      atom_fit = let a = old.atom_fit in let m = c.give_cap.ensures.more_keys in omega (arith, a, m, room, some, taken);
      loan_fit = let a = old.loan_fit in omega (arith, a);
      threads = old.threads;
      deep = old.deep;
      empty = c.give_cap.ensures.empty;
      in_order = c.give_cap.ensures.kept (is_in_order owners atoms t.loans.items) (order_respects owners atoms t.loans.items) (given_in_order owners atoms t.loans.items (Keeper c.args.to) c.place_for-list.result own refl)
          (order_more t.pool t.owners.keys t.atoms.keys owners atoms t.loans.items
          (λ x j at. ap (λ ks. place_in ks x) c.place_for-list.ensures.keys ∙ still_found t.owners.keys c.owner_key.result x j at) c.give_cap.ensures.found old.in_order);
      nodes = c.give_cap.ensures.nodes old.nodes;
    }

pub returns-clause-appends : goal.returns-clause-appends
unfolding StandsFor
returns-clause-appends c = λ h stands.
    let st = subst (λ t. StandsFor t h) (sym c.self.view_is) stands in
    ((c.requires.placed, st.0), (λ among x. ap (λ b. (among (Keeper c.args.to) && has c.args.cap x) || b) (st.1 among x) ∙ sym (c.give_cap.ensures.shows among x)), st.2)
