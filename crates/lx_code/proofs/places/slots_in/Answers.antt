use Rattle.lx_words.proofs.Lists.{first_all}
use Rattle.lx_code.specs.Places.{is_named}
use Rattle.lx_code.proofs.places.slots_in.Goals as goal

pub returns : goal.returns
returns c = λ name. first_all (is_named name) c.args.slots.now c.loop-left.left _ c.loop-left-test.false (c.loop-left.invariant.so_far name)
