use Rattle.std.proofs.Common.{◌∙◌, ◌++◌, ◌∷◌, [], ap, length, arith}
use Rattle.std.proofs.lemmas.List.{length_push}
use Rattle.lx_cap_lists.proofs.PlacesWithin.{list_within}
use Rattle.lx_act_index.proofs.TableLemmas.{key_grown, with_fresh}
use Rattle.lx_act_index.proofs.table.push_place.Goals as goal

pub overflow_add-result : goal.overflow_add-result
overflow_add-result c =
    let old = c.args.table.now in
    let within = list_within c.place_for-place.new.keys.keys c.args.key c.place_for-place.result c.place_for-place.ensures.place in
    let keys = ap length (c.place_for-place.ensures.keys ∙ with_fresh old.atoms.keys c.args.key c.requires.fresh) in
    let one = length_push old.atoms.keys c.args.key in
    let lines = ap length c.in_ok-push.ensures.items in
    let more = length_push old.lines.items c.new.result in
    let table = c.requires.table in
    let small = c.push.new.self.small in
    let ok = c.push.new.self.ok in
    omega (arith, within, keys, one, lines, more, table, small, ok)

pub returns-clause-grown : goal.returns-clause-grown
returns-clause-grown c =
    let old = c.args.table.now in
    key_grown old (record { alloc = old.alloc; lines = c.push.new.self; atoms = c.place_for-place.new.keys }) c.args.key c.requires.table c.requires.fresh c.place_for-place.ensures.keys
    (c.in_ok-push.ensures.items ∙ ap (λ e. old.lines.items ++ e ∷ []) c.new.ensures)
