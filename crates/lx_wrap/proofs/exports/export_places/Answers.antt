use Rattle.lx_words.proofs.Lists.{first_all}
use Rattle.lx_wrap.specs.Exported.{is_named}
use Rattle.lx_wrap.proofs.exports.export_places.Goals as goal

pub returns : goal.returns
returns c = λ name. first_all (is_named name) c.args.exports.now c.loop-left.left _ c.loop-left-test.false (c.loop-left.invariant.so_far name)
