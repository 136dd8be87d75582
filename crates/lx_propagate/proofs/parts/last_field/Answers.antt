use Rattle.std.proofs.Common.{◌∙◌, arith}
use Rattle.lx_propagate.proofs.PartTypes.{last_step}
use Rattle.lx_propagate.proofs.parts.last_field.Goals as goal

pub loop-k-preserved : goal.loop-k-preserved
loop-k-preserved c =
    last_step c.args.m.now.types c.loop-k.inner.now c.part_type-inner.result.now c.args.indices.now c.loop-k.k c.index-indices-k.result (omega arith) c.index-indices-k.is c.part_type-inner.ensures ∙ c.loop-k.invariant
