use Rattle.std.proofs.Common.{bytes_eq}
use Rattle.lx_words.proofs.Lists.{first_all}
use Rattle.lx_slot_sums.proofs.Classed.{has_texts}
use Rattle.lx_slot_sums.proofs.classes.first_places.Goals as goal

pub returns : goal.returns
returns c = has_texts c.args.texts.now _ (λ bytes. first_all (λ t. bytes_eq t bytes) c.args.texts.now c.loop-left.left _ c.loop-left-test.false (c.loop-left.invariant.so_far bytes))
