use Rattle.std.proofs.Common.{◌≡◌, take}
use Rattle.lx_annot_read.proofs.parts.table_of_reftypes.Given as goal

abbrev pub invariant-loop-name : goal.invariant-loop-name
invariant-loop-name l = l.table ≡ take l.name-index l.names
