use Rattle.std.proofs.Common.{◌∙◌, arith}
use Rattle.std.proofs.lemmas.List.{length-set}
use Rattle.lx_memory.proofs.NumberLemmas.{put_step}
use Rattle.lx_memory.proofs.numbers.put_number.Goals as goal

pub loop-byte-preserved : goal.loop-byte-preserved
loop-byte-preserved c =
    rw length-set (put_step c.loop-byte.bytes c.loop-byte.rest c.loop-byte.byte-index (omega arith) ∙ c.loop-byte.invariant)
