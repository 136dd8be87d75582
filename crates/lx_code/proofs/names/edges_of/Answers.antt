use Rattle.lx_words.proofs.Lists.{first_all}
use Rattle.lx_code.specs.Firsts.{is_from}
use Rattle.lx_code.proofs.names.edges_of.Goals as goal

pub returns : goal.returns
returns c = λ name. first_all (is_from name) c.args.edges.now c.loop-left.left _ c.loop-left-test.false (c.loop-left.invariant.so_far name)
