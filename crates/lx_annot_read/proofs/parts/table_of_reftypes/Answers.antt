use Rattle.std.proofs.Common.{◌∙◌, [], refl}
use Rattle.lx_annot_read.proofs.Tabled.{one_more, still_new}
use Rattle.lx_annot_read.proofs.parts.table_of_reftypes.Goals as goal

pub add-requires : goal.add-requires
add-requires c = record { absent = still_new c.args.names.now c.loop-name.table c.loop-name.name-index c.name-item.result c.as_slice.result.now c.requires c.loop-name.invariant (c.as_slice.ensures ∙ c.name-item.is) c.loop-name-test.true }

pub loop-name-preserved : goal.loop-name-preserved
loop-name-preserved c = one_more c.args.names.now c.loop-name.table c.add.new.self c.loop-name.name-index c.name-item.result c.as_slice.result.now c.loop-name.invariant (c.as_slice.ensures ∙ c.name-item.is) c.loop-name-test.true c.in_ok-add.ensures.ok
