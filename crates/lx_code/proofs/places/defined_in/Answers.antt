use Rattle.lx_words.proofs.Lists.{first_all}
use Rattle.lx_code.specs.Places.{defines}
use Rattle.lx_code.proofs.places.defined_in.Goals as goal

pub returns : goal.returns
returns c = λ name. first_all (defines name) c.args.functions.now c.loop-left.left _ c.loop-left-test.false (c.loop-left.invariant.so_far name)
