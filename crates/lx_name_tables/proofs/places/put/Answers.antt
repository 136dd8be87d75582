use Rattle.std.proofs.Common.{◌∙◌, ap, sym, cond, Bool, Some}
use Rattle.std.proofs.lemmas.Map.Text.{hash_map_updates_str}
use Rattle.lx_name_tables.specs.Places.{at_name}
use Rattle.lx_name_tables.proofs.places.put.Goals as goal

pub returns-in_ok-insert-in-Some : goal.returns-in_ok-insert-in-Some
returns-in_ok-insert-in-Some g c = λ name.
    let old = at_name c.args.places.now.entries name in
    hash_map_updates_str c.in-Some.name.now c.args.places.now c.insert.new.self (Some c.args.place) c.in_ok-insert-in-Some.ensures.updates name
    ∙ ap (λ (b : Bool). cond b (Some c.args.place) old) (sym (c.in-Some.ensures name))
