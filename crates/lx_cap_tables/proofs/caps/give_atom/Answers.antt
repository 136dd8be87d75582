use Rattle.std.proofs.Common.{◌≤◌, ◌+◌, length, sym, subst, arith}
use Rattle.lx_cap_tables.proofs.AtomLemmas.{one_longer}
use Rattle.lx_cap_lists.specs.Kept.{IsMask}
use Rattle.lx_cap_lists.proofs.NodeLemmas.{width_behind, one_mask}
use Rattle.lx_cap_lists.proofs.PlacesWithin.{list_within}
use Rattle.lx_cap_tables.proofs.caps.give_atom.Goals as goal

pub overflow_add-i : goal.overflow_add-i
overflow_add-i c =
    let at = list_within c.place_for-i.new.keys.keys c.args.key c.place_for-i.result c.place_for-i.ensures.place in
    let n : length c.place_for-i.new.keys.keys ≤ length c.args.atoms.now.keys + 1 = rw c.place_for-i.ensures.keys (one_longer c.args.atoms.now.keys c.args.key) in
    let r = c.requires.lists in
    let s = c.requires.small in
    omega (arith, at, n, r, s)

pub give-requires-clause-place : goal.give-requires-clause-place
give-requires-clause-place c =
    let at = list_within c.place_for-i.new.keys.keys c.args.key c.place_for-i.result c.place_for-i.ensures.place in
    let n : length c.place_for-i.new.keys.keys ≤ length c.args.atoms.now.keys + 1 = rw c.place_for-i.ensures.keys (one_longer c.args.atoms.now.keys c.args.key) in
    let r = c.requires.lists in
    omega (arith, at, n, r)

pub returns-clause-nodes : goal.returns-clause-nodes
returns-clause-nodes c = c.give.ensures.nodes (subst (λ w. IsMask w 1) (sym (width_behind (0xc000 + c.place_for-i.result) (omega arith))) one_mask)
