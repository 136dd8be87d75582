use Rattle.lx_words.proofs.Lists.{first_all}
use Rattle.lx_image_marks.specs.Named.{imports_as}
use Rattle.lx_image_marks.proofs.imports.places_of.Goals as goal

pub returns : goal.returns
returns c = λ name. first_all (imports_as name) c.args.functions.now c.loop-left.left _ c.loop-left-test.false (c.loop-left.invariant.so_far name)
