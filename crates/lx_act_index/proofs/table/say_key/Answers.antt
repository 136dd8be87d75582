use Rattle.std.proofs.Common.{arith}
use Rattle.lx_cap_lists.proofs.PlacesWithin.{behind_within}
use Rattle.lx_act_index.proofs.TableLemmas.{key_noted}
use Rattle.lx_act_index.proofs.table.say_key.Goals as goal

pub say_at-requires : goal.say_at-requires
say_at-requires c =
    let t = c.in_ok-place.ensures.grown.table in
    let h = behind_within c.place_of_key.new.table.atoms.keys c.args.key c.in_ok-place.place c.in_ok-place.ensures.place in
    omega (arith, h, t)

pub returns-clause-ok : goal.returns-clause-ok
returns-clause-ok c =
    key_noted c.args.threads.now c.args.saying c.args.table.now c.place_of_key.new.table c.say_at.new.table c.args.key c.in_ok-place.place
    c.in_ok-place.ensures.grown c.in_ok-place.ensures.place (λ j. (c.in_ok-say_at.ensures.atoms j).keys) c.in_ok-say_at.ensures.ok
