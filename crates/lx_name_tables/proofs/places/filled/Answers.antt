use Rattle.lx_words.proofs.Lists.{first_all}
use Rattle.lx_name_tables.proofs.places.filled.Goals as goal

pub returns : goal.returns
returns g c = λ name. first_all (g.T.Named.answers name) c.args.things.now c.loop-left.left _ c.loop-left-test.false (c.loop-left.invariant.so_far name)
